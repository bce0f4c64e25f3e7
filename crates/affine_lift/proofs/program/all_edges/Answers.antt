use Rattle.std.proofs.Common.{◌∙◌, ℕ, List, ◌++◌, take, slice_get, ap, refl, sym}
use Rattle.affine_prog.specs.declared.Edge.{Edge}
use Rattle.frame_offsets.specs.Frames.{offset_at}
use Rattle.frame_offsets.proofs.Walking.{get_some}
use Rattle.affine_lift.specs.Effects.{effect_by}
use Rattle.affine_lift.specs.Lifting.{edges_along_by, edges_by, offset_from}
use Rattle.affine_lift.proofs.Nodes.{flat_map_more, node_is}
use Rattle.affine_lift.proofs.program.all_edges.Goals as goal

pub loop-i-preserved : goal.loop-i-preserved
loop-i-preserved c =
    let points = c.args.points.now in
    let offsets = c.args.offsets.now in
    let names = c.args.names.now in
    let found = get_some (slice_get c.args.points.now.points c.loop-i.i) _ c.in_ok-more.ensures in
    let node = node_is points c.loop-i.i found.0 found.0.point c.known.ensures found.1 refl in
    c.in_ok-append.ensures
    ∙ ap (λ (es : List Edge). es ++ c.in_ok-more.more) c.loop-i.invariant
    ∙ ap (λ (es : List Edge). edges_along_by c.args.width points (offset_from points offsets) names (take c.loop-i.i c.args.points.now.points) ++ es)
    (found.2 ∙ sym (ap (λ (n : ℕ). edges_by points (effect_by c.args.width names found.0 (offset_at offsets n)) n found.0.point.proc_entry found.0.flow) node))
    ∙ sym (flat_map_more _ c.args.points.now.points c.loop-i.i found.0 found.1)
