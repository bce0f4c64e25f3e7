-- A register that is told to be kept is kept.
use Rattle.std.proofs.Common.{◌≡◌, ◌≢◌, ℕ, suc, ◌==◌, ◌&&◌, ◌||◌, Bool, true, false, List, Option, None, Some, refl, sym, subst}
use Rattle.std.specs.Prelude.{if◌then◌else◌}
use Rattle.std.proofs.lemmas.Bool.{eqb-true}
use Rattle.elf_image.specs.declared.fetched.Fetched.{Fetched}
use Rattle.rv_step.specs.Harts.{Hart}
use Rattle.entry_tables.specs.Tables.{Table, IsSettled, Reads}
use Rattle.entry_runs.specs.Frames.{Frame}
use Rattle.entry_runs.proofs.Running.{restores}
use Rattle.abi_verdicts.specs.declared.ways.End.{End}
use Rattle.abi_verdicts.specs.declared.faults.Fault.{Fault}
use Rattle.abi_verdicts.specs.declared.verdicts.Cause.{Cause}
use Rattle.abi_verdicts.specs.declared.verdicts.Verdict.TheVariants.{Kept, Never}
use Rattle.abi_verdicts.specs.Ends.{has_end}
use Rattle.abi_verdicts.specs.Faults.{fault_of}
use Rattle.abi_verdicts.specs.Verdicts.{verdict_of, by_fault, is_kept, is_whole, cause_of, first_cause}
use Rattle.abi_meanings.specs.Meanings.{EndsIn, IsHome}

both : (a b : Bool) → (a && b) ≡ true → (a ≡ true) × (b ≡ true)
both true b e = (refl, e)
both false b e = cc

kept_by : (k : Bool) (has : Bool) (fault : Option Fault) (cause : Cause) → (if k then Kept else if has then by_fault fault cause else Never) ≡ Kept → k ≡ true
kept_by true has fault cause e = refl
kept_by false true None cause e = cc
kept_by false true (Some f) cause e = cc
kept_by false false fault cause e = cc

or_other : (r : ℕ) (keeps : Bool) → r ≢ 1 → (r == 1 || keeps) ≡ true → keeps ≡ true
or_other r keeps other e = by (r == 1) refl e
  where
    by : (t : Bool) → (r == 1) ≡ t → (t || keeps) ≡ true → keeps ≡ true
    by true is e = absurd (other (eqb-true r 1 is))
    by false is e = e

-- what a verdict of kept says of the summary
pub summary_keeps : (t : Table) (ends : List End) (ending : List ℕ) (p r : ℕ) (walk : List ℕ) → verdict_of t ends ending p r walk ≡ Kept → r ≢ 1 → (t.summary p).keeps r ≡ true
summary_keeps t ends ending p r walk told other =
    let kept = kept_by (is_kept (t.summary p) p r ends) (has_end ending p ends) (fault_of t p r walk) (cause_of p (first_cause ending p r ends)) told in
    let parts = both ((t.summary p).returns && (r == 1 || (t.summary p).keeps r)) (is_whole p ends) kept in
    or_other r ((t.summary p).keeps r) other (both (t.summary p).returns (r == 1 || (t.summary p).keeps r) parts.0).1

pub kept_home : (t : Table) (code : ℕ → Option Fetched) (ends : List End) (ending : List ℕ) (p r : ℕ) (walk : List ℕ) → IsSettled t → Reads code t
    → verdict_of t ends ending p r walk ≡ Kept → (run : ℕ → Hart) (i : ℕ) (f : Frame) → EndsIn t code p run i f → IsHome r (run (suc i)) f
kept_home t code ends ending p r walk settled reads told run i f e =
    let back = restores t code e.from run e.n settled reads e.has e.is_run e.keeps i e.within f e.rest e.frames e.ends in
    record {
      home = back.home;
      word = λ other. back.kept r (subst (λ (q : ℕ). (t.summary q).keeps r ≡ true) (sym e.procedure) (summary_keeps t ends ending p r walk told other));
    }
