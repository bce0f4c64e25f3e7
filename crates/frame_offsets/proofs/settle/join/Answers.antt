use Rattle.std.proofs.Common.{◌≡◌, List, slice_get, sym, subst}
use Rattle.std.proofs.lemmas.Option.{slice_get_within}
use Rattle.flow_points.specs.Walks.{point}
use Rattle.flow_points.specs.declared.code_points.CodePoint.{CodePoint}
use Rattle.frame_offsets.specs.Tables.{at_row}
use Rattle.frame_offsets.specs.Searches.{Grows}
use Rattle.frame_offsets.specs.declared.known.Known.{Known}
use Rattle.flow_points.proofs.Cited.{item_there}
use Rattle.frame_offsets.proofs.Growing.{grows_row, grows_same, knows_row}
use Rattle.frame_offsets.proofs.Listing.{listed_longer, listed_stay, listed_there, listed_within}
use Rattle.frame_offsets.proofs.Walking.{get_some}
use Rattle.frame_offsets.proofs.settle.join.Goals as goal

pub returns-then-not-raise_row : goal.returns-then-not-raise_row
returns-then-not-raise_row c =
    let points = c.args.points.now.points in
    let to = point c.args.proc_entry c.args.address in
    let found = get_some (slice_get points c.in-Some.i) (λ (d : CodePoint). d.point ≡ to) c.in-Some.ensures.found in
    let keys = c.args.changed.now.keys in
    record {
      grows = subst (λ (t : List Known). Grows points c.args.table.now keys t keys) (sym (c.raise_row.ensures.still c.if-not-raise_row.true))
          (grows_same points c.args.table.now keys c.requires.search);
      knows = knows_row c.args.points.now c.args.table.now c.raise_row.new.table c.in-Some.i found.0 (at_row c.args.row.now) c.raise_row.result
          c.raise_row.ensures found.1 c.known.ensures to found.2;
    }

pub returns-in-Ok : goal.returns-in-Ok
returns-in-Ok c =
    let points = c.args.points.now.points in
    let to = point c.args.proc_entry c.args.address in
    let i = c.in-Some.i in
    let row = at_row c.args.row.now in
    let found = get_some (slice_get points i) (λ (d : CodePoint). d.point ≡ to) c.in-Some.ensures.found in
    let keys = c.args.changed.now.keys in
    record {
      grows = subst (Grows points c.args.table.now keys c.raise_row.new.table) (sym c.in-Ok.ensures.keys)
          (grows_row points c.args.table.now c.raise_row.new.table i found.0 row c.raise_row.result c.raise_row.ensures found.1 keys _
          (c.requires.row found.0 (item_there points i found.0 found.1) found.2) c.requires.search c.if-not-raise_row.false
          (listed_there keys i) (listed_stay keys i)
          (listed_within keys i _ c.requires.search.numbers (slice_get_within points i found.0 found.1)) (listed_longer keys i));
      knows = knows_row c.args.points.now c.args.table.now c.raise_row.new.table i found.0 row c.raise_row.result
          c.raise_row.ensures found.1 c.known.ensures to found.2;
    }
