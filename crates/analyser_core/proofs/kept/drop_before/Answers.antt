use Rattle.std.proofs.Common.{◌∙◌, subst, sym, arith, slice_index_or}
use Rattle.std.specs.Prelude.{None}
use Rattle.merged_heads.proofs.Lemmas.{parent_below}
use Rattle.block_program.proofs.Lemmas.{is_table}
use Rattle.analyser_core.specs.States.{DropsBefore}
use Rattle.analyser_core.proofs.Keeping.{drops_one, equal_some}
use Rattle.analyser_core.proofs.kept.drop_before.Goals as goal

pub empty_at-requires : goal.empty_at-requires
empty_at-requires c =
    let program = c.args.program.now in
    let follows = c.in-Some.ensures in
    let table = is_table program c.requires.formed c.args.blocks.now c.requires.blocks in
    let b = parent_below program c.args.blocks.now.merging c.requires.formed table c.args.node c.in-Some.from follows.assigns c.requires.node follows.parent in
    omega (arith, b.0, c.requires.long)

pub returns-then-eq : goal.returns-then-eq
returns-then-eq c =
    let program = c.args.program.now in
    let merging = c.args.blocks.now.merging in
    let is_last = equal_some (slice_index_or c.args.last.now c.in-Some.from None) c.args.node (sym c.eq.ensures ∙ c.if-eq.true) in
    subst (DropsBefore program merging c.args.node c.args.kept.now.items) (sym c.empty_at.ensures)
    (drops_one program merging c.args.node c.in-Some.from c.args.last.now c.args.kept.now.items c.requires.last is_last)
