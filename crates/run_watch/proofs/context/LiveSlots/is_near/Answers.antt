use Rattle.std.proofs.Common.{◌<◌, ◌^◌, arith, sym, ◌∙◌}
use Rattle.std.proofs.Props.{props}
use Rattle.std.proofs.Math.Logic.{∥∥₁_elim}
use Rattle.run_watch.specs.Activations.{slots_from}
use Rattle.run_watch.specs.Slots.{byte_at}
use Rattle.run_watch.proofs.Unmarked.{holds_none, all_apart}
use Rattle.run_watch.proofs.context.LiveSlots.is_near.Goals as goal

pub returns-else-has : goal.returns-else-has
returns-else-has c none =
    let live = c.args.self.now in
    let a = c.args.address in
    ∥∥₁_elim live.marked (hlevel props) (λ are.
    all_apart (slots_from live.names.now 1 live.earlier.now) a
    (holds_none live.marks.now live.names.now live.earlier.now a c.ranges.address.fits are (sym c.has.ensures ∙ c.if-has.false))
    (holds_none live.marks.now live.names.now live.earlier.now (byte_at a 7) (let small : byte_at a 7 < 2 ^ 64 = omega arith in small) are (sym c.has-else-has.ensures ∙ none)))
