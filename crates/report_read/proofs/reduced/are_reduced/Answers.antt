use Rattle.std.proofs.Common.{◌≡◌, List, ℕ, subst}
use Rattle.std.specs.Bool.{Decides}
use Rattle.std.proofs.lemmas.Slice.Eq.{slice_eq-Decides}
use Rattle.word_rows.specs.Masks.{mask_of}
use Rattle.report_read.proofs.RowsEqual.{tested_too}
use Rattle.report_read.proofs.Spans.{decided}
use Rattle.report_read.proofs.reduced.are_reduced.Goals as goal

pub returns : goal.returns
returns c =
    let d = slice_eq-Decides (λ a b. tested_too mask_of a b) c.rows.result.now c.args.rows.now c.eq.result c.eq.ensures in
    decided c.args.rows.now c.reduced-basis.result c.eq.result (subst (λ (x : List (List ℕ)). Decides c.eq.result (x ≡ c.args.rows.now)) c.rows.ensures d)
    c.known.ensures.basis c.reduced-basis.ensures.reduced
    (λ b r. c.reduced-basis.ensures.unique c.args.rows.now b r c.in_ok-basis_from.ensures)
