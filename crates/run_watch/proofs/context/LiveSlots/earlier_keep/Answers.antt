use Rattle.std.proofs.Common.{sym, ap, ◌∙◌, ◌&&◌, not, get_or}
use Rattle.std.proofs.Props.{props}
use Rattle.std.proofs.Math.Logic.{∥∥₁_elim}
use Rattle.std.proofs.lemmas.List.Folds.{list_any_none}
use Rattle.run_watch.specs.Activations.{slots_from}
use Rattle.run_watch.specs.Judges.{holds_kept, is_writable}
use Rattle.run_watch.proofs.Unmarked.{holds_none}
use Rattle.run_watch.proofs.context.LiveSlots.earlier_keep.Goals as goal

pub returns-else-has : goal.returns-else-has
returns-else-has c =
    let live = c.args.self.now in
    let slots = slots_from live.names.now 1 live.earlier.now in
    ∥∥₁_elim live.marked (hlevel props) (λ are.
    c.if-has.false ∙ sym (list_any_none (holds_kept c.args.allowed.depth c.args.allowed.writable c.args.byte) slots
    (λ k d within. ap (λ b. b && not (is_writable c.args.allowed.depth c.args.allowed.writable (get_or slots k d)))
    (holds_none live.marks.now live.names.now live.earlier.now c.args.byte c.ranges.byte.fits are (sym c.has.ensures ∙ c.if-has.false) k d within))))
