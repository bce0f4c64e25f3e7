use Rattle.std.proofs.Common.{◌≡◌, IsSomeAnd, refl, subst, ap, ◌∙◌}
use Rattle.flow_points.specs.Walks.{point}
use Rattle.run_watch.specs.Runs.{Scene, Spot, IsAtPoint, scene_of}
use Rattle.run_watch.proofs.Silent.{quiet_step}
use Rattle.run_watch.proofs.quiet.step_quietly.Goals as goal

pub returns-clause-made : goal.returns-clause-made
returns-clause-made c =
    let scene : Scene = scene_of c.args.points.now c.args.offsets.now c.args.report.now c.args.code.now in
    let a : Spot = record { machine = c.args.machine.now; stack = c.args.stack.now } in
    let own = c.in-Some-own.ensures in
    let at : IsAtPoint scene a c.in-Some.at c.code-code_point.result = record {
      code = c.code-code_point.ensures;
      place = subst (λ o. IsSomeAnd o (λ d. d.point ≡ point c.procedure.result c.pc.result)) c.code-code_point.ensures c.in-Some.ensures
          ∙ ap (λ p. point p c.pc.result) c.procedure.ensures ∙ ap (λ pc. point c.args.stack.now.last.procedure pc) c.pc.ensures;
    } in
    quiet_step scene c.args.limit a c.advance.new.self c.in-Some.at c.code-code_point.result c.in-Some-own.fetched c.in-Some-own.instr
    c.requires.limit c.requires.within (λ e. c.if-made-limit.false (c.made.ensures ∙ e)) at own.is_at own.own
    c.if-fetched-code_point.false (c.if-may_turn.ensures refl) (c.if-not-is_calm.ensures refl)
    c.in_ok-advance.ensures.stepped c.in_ok-advance.ensures.counted
