use Rattle.std.proofs.Common.{Contains, take, subst}
use Rattle.merged_heads.specs.Pushes.{CountsBases}
use Rattle.block_program.proofs.Building.{built_at, counted_at, counted_built}
use Rattle.std.proofs.lemmas.List.{take_all}
use Rattle.block_program.proofs.pushes.basis_of.Goals as goal

pub returns-in_err-insert-clause-counts_no_more : goal.returns-in_err-insert-clause-counts_no_more
returns-in_err-insert-clause-counts_no_more g c =
    let a = c.insert.ensures.adds in
    counted_at c.args.rows.now c.requires c.loop-row.row-index c.row-item.result c.loop-row-test.true c.row-item.is c.loop-row.basis c.insert.new.self
    c.args.steps.now c.loop-row.steps c.insert.new.steps c.loop-row.invariant a.between a.never_falls a.bounded

pub loop-row-preserved : goal.loop-row-preserved
loop-row-preserved g c =
    let a = c.in_ok-insert.ensures.adds in
    built_at c.args.rows.now c.requires c.loop-row.row-index c.row-item.result c.loop-row-test.true c.row-item.is c.loop-row.basis c.insert.new.self
    c.args.steps.now c.loop-row.steps c.insert.new.steps c.loop-row.invariant a.between a.never_falls a.bounded a.added a.counts_rows

pub returns-clause-counts_no_more : goal.returns-clause-counts_no_more
returns-clause-counts_no_more g c =
    let rows = c.args.rows.now in
    subst (λ xs. CountsBases (Contains xs) c.args.steps.now c.loop-row.steps) (take_all c.loop-row.row-index rows c.loop-row-test.false)
    (counted_built (take c.loop-row.row-index rows) c.loop-row.basis c.args.steps.now c.loop-row.steps c.loop-row.invariant)
