-- Where lines bring the reader, by the lines alone.
use Rattle.std.proofs.Common.{◌≡◌, ℕ, ◌+◌, Bool, true, false, cond, List, [], ◌∷◌, refl, ap, ◌∙◌}
use Rattle.report_text.specs.declared.names.Name.{Name}
use Rattle.report_lines.specs.Lines.{Line, Proc, Cert, At, NoRows, Unreached, Rel, End, is_relation}
use Rattle.report_read.specs.declared.draft.Draft.{Draft}
use Rattle.report_read.specs.declared.draft.Place.{Place}
use Rattle.report_read.specs.declared.draft.Place.TheVariants as places
use Rattle.report_read.specs.Drafts.{closed, closed_at, is_allowed_at}
use Rattle.report_read.specs.Judging.{before}
use Rattle.report_read.proofs.Headers.{closed_header}
use Rattle.wrong_lines.specs.Lines.{AreRows, last_address, last_certs, may_follow, line_number, point_number, last_procedure}

-- the place behind lines whose last relations tell these rows
abbrev pub place_behind : List Line → List (List ℕ) → Place
place_behind [] rows = places.Top
place_behind (Proc entry ∷ past) rows = places.Procedure entry 0
place_behind (Cert name word ∷ past) rows = places.Procedure (last_procedure past) (last_certs past + 1)
place_behind (At address ∷ past) rows = places.Point (last_procedure past) address (line_number past)
place_behind (NoRows ∷ past) rows = places.Told (last_procedure past) (last_address past)
place_behind (Unreached ∷ past) rows = places.Told (last_procedure past) (last_address past)
place_behind (Rel terms constant ∷ past) rows = places.Rows (last_procedure past) (last_address past) (point_number past) rows
place_behind (End ∷ past) rows = places.End

-- the same where the rows are told, if some stand last
abbrev pub closed_behind : List Line → List (List ℕ) → Place
closed_behind (Rel terms constant ∷ past) rows = places.Told (last_procedure past) (last_address past)
closed_behind past rows = place_behind past rows

-- the place by which a line is judged
abbrev pub judged_at : List Line → List (List ℕ) → Line → Place
judged_at past rows (Rel terms constant) = place_behind past rows
judged_at past rows line = closed_behind past rows

pub record Stands (version : ℕ) (names : List Name) (past : List Line) (d : Draft) : Type 0 where
  pub version_is : d.version ≡ version
  pub names_are : d.tracked.names ≡ names
  pub rows : List (List ℕ)
  pub are : AreRows names past rows
  pub place_is : d.place ≡ place_behind past rows

closed_place : (d : Draft) (past : List Line) (rows : List (List ℕ)) → d.place ≡ place_behind past rows
    → (closed d).place ≡ closed_behind past rows
closed_place d (Rel terms constant ∷ past) rows e = ap (λ (p : Place). (closed_at d p).place) e
closed_place d [] rows e = ap (λ (p : Place). (closed_at d p).place) e ∙ e
closed_place d (line ∷ past) rows e = ap (λ (p : Place). (closed_at d p).place) e ∙ e

pub before_place : (d : Draft) (past : List Line) (rows : List (List ℕ)) (line : Line) → d.place ≡ place_behind past rows
    → (before d line).place ≡ judged_at past rows line
before_place d past rows (Rel terms constant) e = e
before_place d past rows (Proc entry) e = closed_place d past rows e
before_place d past rows line e = closed_place d past rows e

pub before_version : (d : Draft) (line : Line) → (before d line).version ≡ d.version
before_version d line = by (is_relation line)
  where
    by : (b : Bool) → (cond b d (closed d)).version ≡ d.version
    by true = refl
    by false = (closed_header d d.place).0

pub before_names : (d : Draft) (line : Line) → (before d line).tracked.names ≡ d.tracked.names
before_names d line = by (is_relation line)
  where
    by : (b : Bool) → (cond b d (closed d)).tracked.names ≡ d.tracked.names
    by true = refl
    by false = ap (λ t. t.names) (closed_header d d.place).1

pub allowed_there : (version : ℕ) (past : List Line) (rows : List (List ℕ)) (line : Line)
    → is_allowed_at version (judged_at past rows line) line ≡ may_follow version past line
allowed_there version [] rows (Proc entry) = refl
allowed_there version (Proc last ∷ past) rows (Proc entry) = refl
allowed_there version (Cert name word ∷ past) rows (Proc entry) = refl
allowed_there version (At address ∷ past) rows (Proc entry) = refl
allowed_there version (NoRows ∷ past) rows (Proc entry) = refl
allowed_there version (Unreached ∷ past) rows (Proc entry) = refl
allowed_there version (Rel terms constant ∷ past) rows (Proc entry) = refl
allowed_there version (End ∷ past) rows (Proc entry) = refl
allowed_there version past rows line = refl
