use Rattle.std.proofs.Common.{◌≡◌, ◌+◌, [], ◌∷◌, ◌++◌, length, ap, ◌∙◌}
use Rattle.run_watch.specs.Activations.{Stack}
use Rattle.run_watch.proofs.Marking.{pushed}
use Rattle.run_watch.proofs.stack.turn.Goals as goal

pub returns-in_ok-push-in-Call-clause-marked : goal.returns-in_ok-push-in-Call-clause-marked
returns-in_ok-push-in-Call-clause-marked c =
    let here : c.stack.inside.earlier ≡ c.args.stack.now.earlier = ap (λ (s : Stack). s.earlier) c.stack.view_is in
    pushed c.args.marks.now c.mark_slots.new.self c.args.names.now c.args.stack.now.earlier c.push.new.self c.stack.inside.last
    (c.len.result + 1) (c.in_ok-push-in-Call.ensures.ok ∙ ap (λ xs. xs ++ c.stack.inside.last ∷ []) here) (ap (λ n. n + 1) (c.len.ensures ∙ ap length here))
    c.requires.marked c.in_ok-mark_slots-in-Call.ensures.kept c.in_ok-mark_slots-in-Call.ensures.there
