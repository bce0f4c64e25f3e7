use Rattle.std.proofs.Common.{refl}
use Rattle.std.proofs.lemmas.Result.{on_ok_weaker}
use Rattle.frame_offsets.proofs.Visiting.{row_left_first, row_left_second, visited_one, visited_two}
use Rattle.frame_offsets.proofs.Walking.{well_formed}
use Rattle.frame_offsets.proofs.settle.visit.Goals as goal

pub row_behind-row-requires-clause-instr : goal.row_behind-row-requires-clause-instr
row_behind-row-requires-clause-instr c = well_formed c.args.points.now c.args.i c.code-code.result c.known.ensures c.code-code.ensures

pub join-requires-clause-row : goal.join-requires-clause-row
join-requires-clause-row c =
    row_left_first c.args.points.now c.known.ensures c.args.i c.code-code.result c.code-code.ensures _ c.in-Next.is c.args.table.now c.row_behind-row.result
    c.row_behind-row.ensures c.requires.search.justified _ _ refl

pub join-requires-in-Jump-clause-row : goal.join-requires-in-Jump-clause-row
join-requires-in-Jump-clause-row c =
    row_left_first c.args.points.now c.known.ensures c.args.i c.code-code.result c.code-code.ensures _ c.in-Jump.is c.args.table.now c.row_behind-row.result
    c.row_behind-row.ensures c.requires.search.justified _ _ refl

pub join-requires-in-Branch-clause-row : goal.join-requires-in-Branch-clause-row
join-requires-in-Branch-clause-row c =
    row_left_first c.args.points.now c.known.ensures c.args.i c.code-code.result c.code-code.ensures _ c.in-Branch.is c.args.table.now c.row_behind-row.result
    c.row_behind-row.ensures c.requires.search.justified _ _ refl

pub join-requires-in-Call-clause-row : goal.join-requires-in-Call-clause-row
join-requires-in-Call-clause-row c =
    row_left_first c.args.points.now c.known.ensures c.args.i c.code-code.result c.code-code.ensures _ c.in-Call.is c.args.table.now c.row_behind-row.result
    c.row_behind-row.ensures c.requires.search.justified _ _ refl

pub join-requires-in-Branch-2-clause-row : goal.join-requires-in-Branch-2-clause-row
join-requires-in-Branch-2-clause-row c =
    row_left_second c.args.points.now c.known.ensures c.args.i c.code-code.result c.code-code.ensures _ c.in-Branch.is c.args.table.now c.row_behind-row.result
    c.row_behind-row.ensures c.requires.search.justified _ _ refl

pub returns-in-Next : goal.returns-in-Next
returns-in-Next c =
    on_ok_weaker c.join.result
    (visited_one c.args.points.now c.known.ensures c.args.i c.code-code.result c.code-code.ensures _ c.in-Next.is c.args.table.now c.row_behind-row.result
    c.row_behind-row.ensures c.args.changed.now.keys _ _ _ refl) c.join.ensures

pub returns-in-Jump : goal.returns-in-Jump
returns-in-Jump c =
    on_ok_weaker c.join-in-Jump.result
    (visited_one c.args.points.now c.known.ensures c.args.i c.code-code.result c.code-code.ensures _ c.in-Jump.is c.args.table.now c.row_behind-row.result
    c.row_behind-row.ensures c.args.changed.now.keys _ _ _ refl) c.join-in-Jump.ensures

pub returns-in-Call : goal.returns-in-Call
returns-in-Call c =
    on_ok_weaker c.join-in-Call.result
    (visited_one c.args.points.now c.known.ensures c.args.i c.code-code.result c.code-code.ensures _ c.in-Call.is c.args.table.now c.row_behind-row.result
    c.row_behind-row.ensures c.args.changed.now.keys _ _ _ refl) c.join-in-Call.ensures

pub returns-in_ok-join-in-Branch : goal.returns-in_ok-join-in-Branch
returns-in_ok-join-in-Branch c =
    on_ok_weaker c.join-in-Branch-2.result
    (visited_two c.args.points.now c.known.ensures c.args.i c.code-code.result c.code-code.ensures _ c.in-Branch.is c.args.table.now c.row_behind-row.result
    c.row_behind-row.ensures c.args.changed.now.keys _ _ _ _ _ _ refl c.in_ok-join-in-Branch.ensures) c.join-in-Branch-2.ensures
