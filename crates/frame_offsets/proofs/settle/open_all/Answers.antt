use Rattle.std.proofs.Common.{◌<◌, ◌≤◌, ℕ, List, All, length, get_or, subst, take_all}
use Rattle.flow_points.specs.Walks.{point}
use Rattle.frame_offsets.specs.Tables.{IsOpenedAt, at_row}
use Rattle.frame_offsets.specs.Searches.{JoinsTo}
use Rattle.frame_offsets.proofs.Growing.{grows_more}
use Rattle.frame_offsets.proofs.Opening.{opened_more, row_at_entry_is}
use Rattle.frame_offsets.proofs.settle.open_all.Goals as goal

pub join-requires-clause-row : goal.join-requires-clause-row
join-requires-clause-row c = row_at_entry_is c.args.points.now.points c.row_at_entry-row.result c.row_at_entry-row.ensures _

pub loop-entry-preserved : goal.loop-entry-preserved
loop-entry-preserved c =
    let points = c.args.points.now.points in
    let row = c.row_at_entry-row.result in
    let i = c.loop-entry.entry-index in
    let inv = c.loop-entry.invariant in
    let listed = c.loop-entry.changed.keys in
    let joins = subst (λ (l : List ℕ). JoinsTo points (point (get_or l i 0) (get_or l i 0)) (at_row row) c.loop-entry.table listed c.join.new.table c.join.new.changed.keys)
    c.procedures-entry-items.ensures c.in_ok-join.ensures in
    record {
      grows = grows_more points c.args.table.now c.loop-entry.table c.join.new.table c.args.changed.now.keys listed c.join.new.changed.keys
          inv.grows joins.grows;
      opened = opened_more points row c.row_at_entry-row.ensures c.args.points.now.procedures i c.loop-entry.table c.join.new.table listed
          c.join.new.changed.keys (subst (λ (l : List ℕ). i < length l) c.procedures-entry-items.ensures c.loop-entry-test.true) inv.opened joins;
    }

pub returns-clause-opened : goal.returns-clause-opened
returns-clause-opened c =
    let procedures = c.args.points.now.procedures in
    let past = subst (λ (l : List ℕ). length l ≤ c.loop-entry.entry-index) c.procedures-entry-items.ensures c.loop-entry-test.false in
    subst (All (IsOpenedAt c.args.points.now.points c.loop-entry.table)) (take_all c.loop-entry.entry-index procedures past)
    c.loop-entry.invariant.opened
