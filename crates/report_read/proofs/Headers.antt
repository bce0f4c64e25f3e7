-- No line changes the version or the tracked names.
use Rattle.std.proofs.Common.{◌≡◌, ℕ, Bool, true, false, cond, [], refl, ap, ◌∙◌}
use Rattle.report_text.specs.declared.points.PointState.{PointState}
use Rattle.report_text.specs.declared.points.PointState.TheVariants as states
use Rattle.report_lines.specs.Lines.{Line, Proc, Cert, At, NoRows, Unreached, Rel, End, is_relation}
use Rattle.report_read.specs.declared.draft.Draft.{Draft}
use Rattle.report_read.specs.declared.draft.Place.{Place}
use Rattle.report_read.specs.declared.draft.Place.TheVariants as places
use Rattle.report_read.specs.Drafts.{BecomesAt, closed, closed_at, told_at}
use Rattle.report_read.specs.Judging.{IsNext, before}

pub told_header : (d next : Draft) (p : Place) (state : PointState) → next ≡ told_at d p state
    → (next.version ≡ d.version) × (next.tracked ≡ d.tracked)
told_header d next (places.Point entry address line) state e = (ap (λ (x : Draft). x.version) e, ap (λ (x : Draft). x.tracked) e)
told_header d next p state e = (ap (λ (x : Draft). x.version) e, ap (λ (x : Draft). x.tracked) e)

-- no line changes the version or the tracked names
pub header_at : (k : ℕ) (d : Draft) (place : Place) (line : Line) (next : Draft) → BecomesAt k d place line next
    → (next.version ≡ d.version) × (next.tracked ≡ d.tracked)
header_at k d place (Proc entry) next is = (ap (λ (x : Draft). x.version) is, ap (λ (x : Draft). x.tracked) is)
header_at k d place (Cert name word) next is = (ap (λ (x : Draft). x.version) is.4, ap (λ (x : Draft). x.tracked) is.4)
header_at k d place (At address) next is = (ap (λ (x : Draft). x.version) is, ap (λ (x : Draft). x.tracked) is)
header_at k d place NoRows next is = told_header d next place (states.Rows []) is
header_at k d place Unreached next is = told_header d next place states.Unreached is
header_at k d place (Rel terms c) next is = (ap (λ (x : Draft). x.version) is.2, ap (λ (x : Draft). x.tracked) is.2)
header_at k d place End next is = (ap (λ (x : Draft). x.version) is, ap (λ (x : Draft). x.tracked) is)

pub closed_header : (d : Draft) (place : Place)
    → ((closed_at d place).version ≡ d.version) × ((closed_at d place).tracked ≡ d.tracked)
closed_header d (places.Rows entry address line rows) = (refl, refl)
closed_header d place = (refl, refl)

pub next_header : (k : ℕ) (d : Draft) (line : Line) (next : Draft) → IsNext k d line next
    → (next.version ≡ d.version) × (next.tracked ≡ d.tracked)
next_header k d line next is =
    let n = header_at k (before d line) (before d line).place line next is.becomes in
    let b = by (is_relation line) in (n.0 ∙ b.0, n.1 ∙ b.1)
  where
    by : (b : Bool) → ((cond b d (closed d)).version ≡ d.version) × ((cond b d (closed d)).tracked ≡ d.tracked)
    by true = (refl, refl)
    by false = closed_header d d.place
