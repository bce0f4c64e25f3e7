-- What is told of a line, from what its parts tell.
use Rattle.std.proofs.Common.{◌≡◌, ◌≢◌, ℕ, Bool, true, false, cond, List, ◌++◌, codes, drop, Option, Some, None, Result, Ok, Err, refl, sym, subst, ap, ◌∙◌, inl, inr}
use Rattle.report_text.specs.declared.names.Name.{Name}
use Rattle.report_lines.specs.declared.relation.Relation.{Relation}
use Rattle.report_lines.specs.Lines.{Line, Proc, Cert, At, NoRows, Unreached, Rel, End, IsLine, is_relation, line_text}
use Rattle.report_lines.specs.Relations.{IsRelationReading, Tells}
use Rattle.report_lines.specs.Terms.{Term}
use Rattle.report_lines.proofs.OneLine.{one_line}
use Rattle.report_read.specs.declared.draft.Draft.{Draft}
use Rattle.report_read.specs.declared.draft.Place.{Place}
use Rattle.report_read.specs.declared.draft.Place.TheVariants as places
use Rattle.refusals.specs.declared.report.ReportRefusal.{ReportRefusal}
use Rattle.refusals.specs.declared.report.ReportRefusal.TheVariants as refusals
use Rattle.report_read.specs.Drafts.{closed, entry_at, is_allowed, is_allowed_at}
use Rattle.report_read.specs.Judging.{AreRowsFine, AreRowsWrong, before, rows, not_allowed, not_known, not_ordered}
use Rattle.report_read.specs.Steps.{IsClosed, IsLineStep, IsOtherStep, a_line, no_line, IsRelationAt, IsRelationIn, IsStep}

-- what is told of the text behind `rel`
pub relation_behind : (names : List Name) (entry : ℕ) (piece text : List ℕ) (r : Option Relation) → piece ≡ codes "rel " ++ text
    → IsRelationReading names entry text r → IsRelationIn names entry piece r
relation_behind names entry piece text None is none = λ terms c fits e. none terms c fits (ap (drop 4) (sym is ∙ e))
relation_behind names entry piece text (Some relation) is some =
    (some.0, some.1, some.2, is ∙ ap (λ (xs : List ℕ). codes "rel " ++ xs) some.3, some.4)

-- at a place where relations are allowed
pub relation_there : (d : Draft) (piece : List ℕ) (place : Place) (r : Option Relation) → d.place ≡ place
    → ((terms : List Term) (c : ℕ) → is_allowed_at d.version place (Rel terms c) ≡ true)
    → IsRelationIn d.tracked.names (entry_at place) piece r → IsRelationAt d piece r
relation_there d piece place None at allowed none = λ terms c fits e. absurd (none terms c fits e)
relation_there d piece place (Some relation) at allowed some = (
  some.0,
  some.1,
  some.2,
  some.3,
  subst (λ (p : Place). is_allowed_at d.version p (Rel some.0 some.1) ≡ true) (sym at) (allowed some.0 some.1),
  subst (λ (p : Place). Tells d.tracked.names (entry_at p) some.0 some.1 relation) (sym at) some.4,
)

-- a relation that is allowed
pub step_of_relation : (k : ℕ) (d : Draft) (piece : List ℕ) (relation : Relation) (r : Result Draft ReportRefusal)
    → IsRelationAt d piece (Some relation)
    → ((terms : List Term) (c : ℕ) → is_allowed d (Rel terms c) ≡ true → Tells d.tracked.names (entry_at d.place) terms c relation → IsLineStep k d (Rel terms c) r)
    → IsStep k d piece r
step_of_relation k d piece relation r at told = by r (told at.0 at.1 at.4 at.5)
  where
    by : (q : Result Draft ReportRefusal) → IsLineStep k d (Rel at.0 at.1) q → IsStep k d piece q
    by (Ok next) step = (Rel at.0 at.1, at.2, at.3, record { passed = inl refl; allowed = step.0; known = step.1; ordered = step.2; becomes = step.3 })
    by (Err refusals.Memory) step = tt
    by (Err (refusals.Syntax n)) step = absurd (step.1 at.4)
    by (Err (refusals.UnknownName n)) step = not_known (Rel at.0 at.1) at.2 at.3 (inl refl) step.1 step.2 (ap refusals.UnknownName step.0)
    by (Err (refusals.Order n)) step = not_ordered (Rel at.0 at.1) at.2 at.3 (inl refl) step.1 step.2 step.3 (ap refusals.Order step.0)
    by (Err (refusals.NotReduced n)) step = absurd step

-- where rows stand last, relations are allowed
relations_behind_rows : (version n : ℕ) (place : Place) → AreRowsWrong place n → (terms : List Term) (c : ℕ)
    → is_allowed_at version place (Rel terms c) ≡ true
relations_behind_rows version n (places.Rows entry address line rs) wrong terms c = refl
relations_behind_rows version n place wrong terms c = absurd wrong

-- rows that stand last aren't reduced
pub step_of_rows : (k : ℕ) (d : Draft) (piece : List ℕ) (refusal : ReportRefusal) → IsRelationAt d piece None
    → IsClosed d (Err refusal) → IsStep k d piece (Err refusal)
step_of_rows k d piece refusals.Memory none wrong = tt
step_of_rows k d piece (refusals.NotReduced n) none wrong =
    rows n (λ piece_is. none piece_is.0 piece_is.1 piece_is.2 piece_is.3 (relations_behind_rows d.version n d.place wrong piece_is.0 piece_is.1)) wrong refl
step_of_rows k d piece (refusals.Syntax n) none wrong = absurd wrong
step_of_rows k d piece (refusals.UnknownName n) none wrong = absurd wrong
step_of_rows k d piece (refusals.Order n) none wrong = absurd wrong

-- a line that is no relation's is judged by the draft with its rows told
before_other : (d : Draft) (line : Line) → is_relation line ≡ false → before d line ≡ closed d
before_other d line other = ap (λ (b : Bool). cond b d (closed d)) other

-- no other line is allowed where this one isn't
only_line : (d : Draft) (piece : List ℕ) → IsRelationAt d piece None
    → (other : (line : Line) → IsLine line → piece ≡ line_text line → is_relation line ≡ false → is_allowed (closed d) line ≢ true)
    → (line : Line) → IsLine line → piece ≡ line_text line → is_allowed (before d line) line ≢ true
only_line d piece none other (Rel terms c) fits is allowed = none terms c fits is allowed
only_line d piece none other (Proc entry) fits is allowed = other (Proc entry) fits is refl allowed
only_line d piece none other (Cert name word) fits is allowed = other (Cert name word) fits is refl allowed
only_line d piece none other (At address) fits is allowed = other (At address) fits is refl allowed
only_line d piece none other NoRows fits is allowed = other NoRows fits is refl allowed
only_line d piece none other Unreached fits is allowed = other Unreached fits is refl allowed
only_line d piece none other End fits is allowed = other End fits is refl allowed

module _ (k : ℕ) (d : Draft) (piece : List ℕ) (none : IsRelationAt d piece None) (fine : AreRowsFine d.place) where
  step_of_line : (line : Line) → IsLine line → piece ≡ line_text line → is_relation line ≡ false
      → (r : Result Draft ReportRefusal) → IsLineStep k (closed d) line r → IsStep k d piece r
  step_of_line line fits is other r step = by r (subst (λ (c : Draft). IsLineStep k c line r) (sym (before_other d line other)) step)
    where
      by : (q : Result Draft ReportRefusal) → IsLineStep k (before d line) line q → IsStep k d piece q
      by (Ok next) s = (line, fits, is, record { passed = inr fine; allowed = s.0; known = s.1; ordered = s.2; becomes = s.3 })
      by (Err refusals.Memory) s = tt
      by (Err (refusals.Syntax n)) s =
          not_allowed (inr fine)
          (only_line d piece none (λ l f e o a. s.1 (subst (λ (m : Line). is_allowed (before d m) m ≡ true) (one_line l line f fits (sym e ∙ is)) (subst (λ (c : Draft). is_allowed c l ≡ true) (sym (before_other d l o)) a))))
          (ap refusals.Syntax s.0)
      by (Err (refusals.UnknownName n)) s = not_known line fits is (inr fine) s.1 s.2 (ap refusals.UnknownName s.0)
      by (Err (refusals.Order n)) s = not_ordered line fits is (inr fine) s.1 s.2 s.3 (ap refusals.Order s.0)
      by (Err (refusals.NotReduced n)) s = absurd s

  -- a piece that is no relation, behind rows that are told
  pub step_of_other : (c : Draft) → c ≡ closed d → (r : Result Draft ReportRefusal) → IsOtherStep k c piece r
      → IsStep k d piece r
  step_of_other c told r (a_line line fits is other step) =
      step_of_line line fits is other r (subst (λ (x : Draft). IsLineStep k x line r) told step)
  step_of_other c told r (no_line nothing e) =
      subst (IsStep k d piece) (sym e) (not_allowed (inr fine) (only_line d piece none (λ l f is o a. nothing l f o is)) refl)
