use Rattle.std.proofs.Common.{ℕ, ◌+◌, ◌++◌, get_or, ap, ◌∙◌}
use Rattle.run_watch.specs.Activations.{slots_of}
use Rattle.run_watch.proofs.Keeping.{blank}
use Rattle.run_watch.proofs.Listing.{no_activation_left, one_activation_more}
use Rattle.run_watch.proofs.slot_lists.earlier_slots.Goals as goal

pub loop-activation-preserved : goal.loop-activation-preserved
loop-activation-preserved c =
    let l = c.loop-activation in
    let at = l.invariant.0 in
    let put =
    c.in_ok-push_slots.ensures
    ∙ ap (λ (k : ℕ). l.slots ++ slots_of c.args.names.now k (get_or c.args.activations.now l.activation-index blank)) at in (
      ap (λ (k : ℕ). k + 1) at,
      one_activation_more c.args.names.now c.args.activations.now l.slots _ l.activation-index _ c.loop-activation-test.true put l.invariant.1,
    )

pub returns : goal.returns
returns c =
    no_activation_left c.args.names.now c.args.activations.now c.loop-activation.slots _ c.loop-activation.activation-index
    c.loop-activation-test.false c.loop-activation.invariant.1
