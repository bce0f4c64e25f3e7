-- What a parse says of the words.
use Rattle.std.proofs.Common.{◌≡◌, inl, inr, ℕ, List, [], ◌∷◌, Bool, true, false, refl, ap}
use Rattle.std.specs.Prelude.{codes}
use Rattle.std.specs.Str.{bytes_eq}
use Rattle.std.specs.Bool.{Decides}
use Rattle.std.proofs.lemmas.Slice.Eq.{bytes_eq-Decides}
use Rattle.clap.specs.Words.{App, HasKind, HasMatchesOf, IsAmong, Kinds, fault_of, first_of, is_simple_and_free, kind_of}
use Rattle.clap.specs.declared.error.Error.{Error}
use Rattle.clap.specs.declared.error.kind.ErrorKind.{ErrorKind}
use Rattle.clap.specs.declared.error.kind.ErrorKind.TheVariants.{OutOfMemory}
use Rattle.clap.specs.declared.parser.matches.ArgMatches.{ArgMatches}
use Rattle.clap.proofs.WalkLemmas.{both}
use Rattle.orders.specs.Orders.{Usage, file_command, given_in, has_none, is_taken, order_of, refute_command, report_command, run_command, track_command}
use Rattle.orders.specs.OrdersRead.{HasValues, given_read}
use Rattle.orders.specs.Checks.{check_command}

some_fault : (faults : Kinds) (k : ErrorKind) → IsAmong k faults → has_none faults ≡ false
some_fault [] k among = absurd among
some_fault (fault ∷ faults) k among = refl

-- an error that isn't want of memory is one of the words
pub refused_words : (app : App) (words : List (List ℕ)) (e : Error) → (kind_of e ≡ OutOfMemory → ⊥) → HasKind (fault_of app words) e →
    is_taken app words ≡ false
unfolding is_taken
refused_words app words e other (inl memory) = absurd (other memory)
refused_words app words e other (inr among) = some_fault (fault_of app words) (kind_of e) among

pub taken_words : (app : App) (words : List (List ℕ)) (parse : ArgMatches) → is_simple_and_free app ≡ true → fault_of app words ≡ [] →
    HasMatchesOf app words parse → HasValues app words parse
unfolding is_taken given_in given_read
taken_words app words parse simple none matches = record {
  taken = ap has_none none;
  values = λ name. ap (first_of name) (matches (both _ _ simple).0).0;
}

-- what `clap` tells of words holds for the commands
pub file_command_simple : (name : List ℕ) → is_simple_and_free (file_command name) ≡ true
unfolding file_command
file_command_simple name = refl

pub track_command_simple : (name over : List ℕ) → is_simple_and_free (track_command name over) ≡ true
unfolding track_command
track_command_simple name over = refl

pub report_command_simple : (name : List ℕ) → is_simple_and_free (report_command name) ≡ true
unfolding report_command
report_command_simple name = refl

pub run_command_simple : (name : List ℕ) → is_simple_and_free (run_command name) ≡ true
unfolding run_command report_command
run_command_simple name = refl

pub refute_command_simple : (name : List ℕ) → is_simple_and_free (refute_command name) ≡ true
unfolding refute_command track_command
refute_command_simple name = refl

pub check_command_simple : (name : List ℕ) → is_simple_and_free (check_command name) ≡ true
unfolding check_command file_command
check_command_simple name = refl

differs : (xs ys : List ℕ) → (xs ≡ ys → ⊥) → bytes_eq xs ys ≡ false
differs xs ys other = go (bytes_eq xs ys) (bytes_eq-Decides xs ys)
  where
    go : (b : Bool) → Decides b (xs ≡ ys) → b ≡ false
    go true d = absurd (other (d.0 refl))
    go false d = refl

pub no_order : (command : List ℕ) (words : List (List ℕ)) → (command ≡ codes "analyse" → ⊥) → (command ≡ codes "cert" → ⊥) →
    (command ≡ codes "list" → ⊥) → (command ≡ codes "gen" → ⊥) → (command ≡ codes "run" → ⊥) → (command ≡ codes "upgrade" → ⊥) →
    (command ≡ codes "narrow" → ⊥) → (command ≡ codes "refute" → ⊥) → Usage ≡ order_of (command ∷ words)
no_order command words a c l g r u n f =
    rw (
      differs command (codes "analyse") a,
      differs command (codes "cert") c,
      differs command (codes "list") l,
      differs command (codes "gen") g,
      differs command (codes "run") r,
      differs command (codes "upgrade") u,
      differs command (codes "narrow") n,
      differs command (codes "refute") f,
    ) refl
