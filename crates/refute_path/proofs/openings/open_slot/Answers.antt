use Rattle.std.proofs.Common.{Some, IsTrue, ap, sym, subst, ◌∙◌}
use Rattle.std.proofs.lemmas.Bool.{false≢true}
use Rattle.affine_prog.specs.declared.Proc.{Proc}
use Rattle.row_modules.specs.Positions.{has}
use Rattle.refute_path.specs.Gains.{IsOpeningAt, IsOpeningBy}
use Rattle.refute_path.proofs.Pushing.{on_ok}
use Rattle.refute_path.proofs.Gaining.{own_slots, gains_none, gains_less}
use Rattle.refute_path.proofs.openings.open_slot.Goals as goal

abbrev none : Proc
none = record { entry = 0; exit = 0; slots = 0 }

pub returns-then-not-has : goal.returns-then-not-has
returns-then-not-has g c =
    let p = c.args.program.now in
    gains_none p c.args.items.now c.args.bases.now.items (IsOpeningAt p c.args.proc c.args.k) c.requires.arena
    (λ u m (slot, o). false≢true
    (sym c.if-not-has.true ∙ c.has.ensures ∙ ap (λ s. has s c.args.k) (own_slots p c.args.proc c.requires.proc c.as_slice.result.now none c.as_slice.ensures) ∙ slot))

pub open_by-requires-clause-slot : goal.open_by-requires-clause-slot
open_by-requires-clause-slot g c = (
  c.requires.below,
  subst (λ s. IsTrue (has s c.args.k)) (own_slots c.args.program.now c.args.proc c.requires.proc c.as_slice.result.now none c.as_slice.ensures) (sym c.has.ensures ∙ c.if-not-has.false),
)

pub returns : goal.returns
returns g c =
    let p = c.args.program.now in
    on_ok c.open_by.result
    (gains_less p c.args.items.now c.args.bases.now.items c.open_by.new.items c.open_by.new.bases.items (IsOpeningBy p c.args.proc (Some c.args.k)) (IsOpeningAt p c.args.proc c.args.k)
    (λ u m (slot, o). o)) c.open_by.ensures
