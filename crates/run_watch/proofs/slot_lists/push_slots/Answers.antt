use Rattle.std.proofs.Common.{ℕ, ◌+◌, ◌++◌, [], get_or, Option, ap, ◌∙◌, arith}
use Rattle.std.specs.List.{cons_option}
use Rattle.report_text.specs.declared.names.Name.TheVariants.{Register}
use Rattle.run_watch.specs.Activations.{slot_in}
use Rattle.run_watch.specs.declared.places.SlotAt.{SlotAt}
use Rattle.run_watch.proofs.Listing.{no_name_left, one_name_more}
use Rattle.run_watch.proofs.slot_lists.push_slots.Goals as goal

pub loop-name-preserved : goal.loop-name-preserved
loop-name-preserved c =
    let l = c.loop-name in
    let d = Register 0 in
    let at = l.invariant.0 in
    let put =
    c.in_ok-push_slot.ensures
    ∙ ap (λ (o : Option SlotAt). l.slots ++ cons_option o [])
    (c.slot_in.ensures ∙ ap (λ (k : ℕ). slot_in c.args.depth c.args.activation.now (k, get_or c.args.names.now l.name-index d)) at) in (
      ap (λ (k : ℕ). k + 1) at,
      one_name_more c.args.names.now c.args.depth c.args.activation.now l.slots _ l.name-index _ d c.loop-name-test.true put l.invariant.1,
    )

pub returns : goal.returns
returns c =
    no_name_left c.args.names.now c.args.depth c.args.activation.now c.loop-name.slots _ c.loop-name.name-index c.loop-name-test.false
    c.loop-name.invariant.1
