-- Points, one at a time.
use Rattle.std.proofs.Common.{◌≡◌, ℕ, ◌+◌, List, ◌∷◌, ◌++◌, drop, slice_get, Option, Some, sym, ap, append_assoc, ◌∙◌}
use Rattle.std.proofs.lemmas.List.{drop_more}
use Rattle.std.proofs.lemmas.Option.{get_or_from_slice_get, slice_get_within}
use Rattle.flow_points.specs.declared.code_points.CodePoint.{CodePoint}
use Rattle.report_text.specs.Text.{opening_text}
use Rattle.order_answers.specs.PointsList.{code_text, codes_text}

-- the point at place i comes first of those from there on
from_here : (points : List CodePoint) (i : ℕ) (code : CodePoint) → slice_get points i ≡ Some code → drop i points ≡ code ∷ drop (i + 1) points
from_here points i code at =
    drop_more points i code (slice_get_within points i code at)
    ∙ ap (λ c. c ∷ drop (i + 1) points) (get_or_from_slice_get points i code code at)

codes_from_here : (before : Option ℕ) (points : List CodePoint) (i : ℕ) (code : CodePoint) → slice_get points i ≡ Some code →
    codes_text before (drop i points)
    ≡ opening_text before code.point.proc_entry ++ code_text code ++ codes_text (Some code.point.proc_entry) (drop (i + 1) points)
codes_from_here before points i code at = ap (codes_text before) (from_here points i code at)

-- a point's text stands behind what is written
pub listed_more : (text opened new : List ℕ) (before : Option ℕ) (points : List CodePoint) (i : ℕ) (code : CodePoint) → slice_get points i ≡ Some code →
    opened ≡ text ++ opening_text before code.point.proc_entry → new ≡ opened ++ code_text code →
    new ++ codes_text (Some code.point.proc_entry) (drop (i + 1) points) ≡ text ++ codes_text before (drop i points)
listed_more text opened new before points i code at opened_is new_is =
    let rest = codes_text (Some code.point.proc_entry) (drop (i + 1) points) in
    let opening = opening_text before code.point.proc_entry in
    ap (λ t. t ++ rest) new_is
    ∙ ap (λ t. (t ++ code_text code) ++ rest) opened_is
    ∙ ap (λ t. t ++ rest) (append_assoc text opening (code_text code))
    ∙ append_assoc text (opening ++ code_text code) rest
    ∙ ap (λ t. text ++ t) (sym (codes_from_here before points i code at))
