use Rattle.std.proofs.Common.{◌≡◌, ℕ, List, Contains}
use Rattle.std.proofs.lemmas.Result.{IfOk-weaker}
use Rattle.row_modules.specs.Maps.{Products}
use Rattle.lead_basis.proofs.Laws.{basis_rows}
use Rattle.map_modules.specs.Matrices.{apply}
use Rattle.affine_prog.specs.declared.Assign.{Assign}
use Rattle.row_images.specs.States.{Spans, IsMatrixOf}
use Rattle.block_program.specs.Built.{IsBuilt}
use Rattle.merged_heads.proofs.Lemmas.{pushed_exactly, pushed_counts}
use Rattle.block_program.proofs.pushes.push.Goals as goal

-- the images, as they are read
spans_read : (all made at rows : List (List ℕ)) (assigns read : List Assign) → all ≡ made → read ≡ assigns → rows ≡ at
    → Spans made (Products apply (IsMatrixOf read) (Contains rows)) → Spans all (Products apply (IsMatrixOf assigns) (Contains at))
spans_read all made at rows assigns read is same are spans = rw (is, ← same, ← are) spans

pub returns-clause-exact : goal.returns-clause-exact
returns-clause-exact g c =
    let spans = spans_read _ _ _ _ _ _ c.as_slice.ensures c.assigns_of.ensures c.rows.ensures c.in_ok-rows.ensures in
    IfOk-weaker c.basis_of.result (λ basis. IsBuilt c.as_slice.result.now basis c.args.steps.now c.basis_of.new.steps) _
    (λ basis built. pushed_exactly _ _ _ (basis_rows 17 c.args.at.now c.known.ensures.basis) spans basis built.of_rows) c.basis_of.ensures.built

pub returns-clause-counts_no_more : goal.returns-clause-counts_no_more
returns-clause-counts_no_more g c =
    let spans = spans_read _ _ _ _ _ _ c.as_slice.ensures c.assigns_of.ensures c.rows.ensures c.in_ok-rows.ensures in
    pushed_counts _ _ _ (basis_rows 17 c.args.at.now c.known.ensures.basis) spans c.args.steps.now c.basis_of.new.steps c.basis_of.ensures.counts_no_more
