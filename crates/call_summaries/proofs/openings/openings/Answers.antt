use Rattle.std.proofs.Common.{ℕ, List, [], ◌∷◌, ◌++◌, ◌+◌, ◌*◌, set, ap, ap₂, sym, ◌∙◌}
use Rattle.map_modules.specs.Matrices.{linear_extension}
use Rattle.call_summaries.proofs.Opening.{zero_opening, openings_none, openings_skipped, openings_added}
use Rattle.call_summaries.proofs.openings.openings.Goals.{then-has+in-Ok-push, else-has}
use Rattle.call_summaries.proofs.openings.openings.Goals as goal

pub loop-i-init : goal.loop-i-init
loop-i-init c =
    openings_none c.args.registers c.args.slots c.push.new.self
    (c.in-Ok.ensures.ok ∙ ap₂ (λ (l : List (List ℕ)) (x : List ℕ). l ++ x ∷ []) c.new-rows.ensures
    (c.extend_call.ensures.linear ∙ ap (λ (m : List ℕ). linear_extension c.args.registers 0 m) c.identity.ensures ∙ zero_opening c.args.registers c.args.slots))

pub loop-i-preserved : goal.loop-i-preserved
loop-i-preserved c = elim c.if-has.branch [
  | then-has+in-Ok-push w ↦
      rw w.rows-is (openings_added c.args.registers c.args.slots c.loop-i.i c.loop-i.rows c.loop-i.invariant w.push-then-has.new.self (sym c.has.ensures ∙ w.if-has.true)
      (w.in-Ok-push.ensures.ok ∙ ap (λ (x : List ℕ). c.loop-i.rows ++ x ∷ []) (w.with.ensures ∙ ap (λ (z : List ℕ). set z (17 * c.loop-i.i + 16) 1) w.zero.ensures)))
  | else-has w ↦ rw w.rows-is (openings_skipped c.args.registers c.args.slots c.loop-i.i c.loop-i.rows c.loop-i.invariant (sym c.has.ensures ∙ w.if-has.false))
]
