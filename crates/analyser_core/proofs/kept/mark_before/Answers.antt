use Rattle.std.proofs.Common.{◌+◌, subst, sym, arith}
use Rattle.merged_heads.proofs.Lemmas.{parent_below}
use Rattle.block_program.proofs.Lemmas.{is_table}
use Rattle.analyser_core.specs.States.{AreLast}
use Rattle.analyser_core.proofs.Keeping.{marks_more, marks_same}
use Rattle.analyser_core.proofs.kept.mark_before.Goals as goal

pub put_last-requires : goal.put_last-requires
put_last-requires c =
    let program = c.args.program.now in
    let follows = c.in-Some.ensures in
    let table = is_table program c.requires.formed c.args.blocks.now c.requires.blocks in
    let b = parent_below program c.args.blocks.now.merging c.requires.formed table c.args.node c.in-Some.from follows.assigns c.requires.node follows.parent in
    omega (arith, b.1, c.requires.marked.long)

pub returns-in-Some : goal.returns-in-Some
returns-in-Some c =
    let program = c.args.program.now in
    let merging = c.args.blocks.now.merging in
    let follows = c.in-Some.ensures in
    let table = is_table program c.requires.formed c.args.blocks.now c.requires.blocks in
    let b = parent_below program merging c.requires.formed table c.args.node c.in-Some.from follows.assigns c.requires.node follows.parent in
    subst (AreLast program merging (c.args.node + 1)) (sym c.put_last.ensures)
    (marks_more program merging c.args.node c.in-Some.from c.args.last.now.items b.1 follows c.requires.marked)

pub returns-in_default : goal.returns-in_default
returns-in_default c = marks_same c.args.program.now c.args.blocks.now.merging c.args.node c.args.last.now.items c.in_default.ensures c.requires.marked
