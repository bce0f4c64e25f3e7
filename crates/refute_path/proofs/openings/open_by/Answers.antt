use Rattle.std.proofs.Common.{sym, subst}
use Rattle.affine_prog.specs.declared.Proc.{Proc}
use Rattle.call_summaries.proofs.ByNumber.{slots_disjoint, entry_below}
use Rattle.refute_path.specs.Tags.{IsSlotBy}
use Rattle.refute_path.proofs.Pushing.{on_ok}
use Rattle.refute_path.proofs.Gaining.{own_slots, opening_made, opening_gained}
use Rattle.refute_path.proofs.openings.open_by.Goals as goal

abbrev none : Proc
none = record { entry = 0; exit = 0; slots = 0 }

pub opening-map-requires-clause-apart : goal.opening-map-requires-clause-apart
opening-map-requires-clause-apart g c = slots_disjoint c.args.program.now c.args.proc c.as_slice.result.now none c.requires.formed c.requires.proc c.as_slice.ensures

pub offer-requires-clause-node : goal.offer-requires-clause-node
offer-requires-clause-node g c = entry_below c.args.program.now c.args.proc c.as_slice.result.now none c.requires.formed c.requires.proc c.as_slice.ensures

pub opening-map-requires-clause-slot : goal.opening-map-requires-clause-slot
opening-map-requires-clause-slot g c =
    subst (λ s. IsSlotBy s c.args.raised) (sym (own_slots c.args.program.now c.args.proc c.requires.proc c.as_slice.result.now none c.as_slice.ensures)) c.requires.slot

pub offer-requires-clause-made : goal.offer-requires-clause-made
offer-requires-clause-made g c = opening_made c.args.program.now c.args.proc c.requires.proc c.as_slice.result.now none c.as_slice.ensures c.opening-map.result c.args.raised c.opening-map.ensures

pub returns : goal.returns
returns g c =
    on_ok c.offer.result
    (opening_gained c.args.program.now c.args.proc c.requires.proc c.as_slice.result.now none c.as_slice.ensures c.opening-map.result c.args.raised c.opening-map.ensures
    c.args.items.now c.offer.new.items c.args.bases.now.items c.offer.new.bases.items) c.offer.ensures
