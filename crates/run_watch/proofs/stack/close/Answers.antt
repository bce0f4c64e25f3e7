use Rattle.std.proofs.Common.{◌≡◌, ◌+◌, [], ◌∷◌, ◌++◌, length, sym, ap, ◌∙◌}
use Rattle.std.proofs.lemmas.List.{length-append}
use Rattle.run_watch.specs.Activations.{Stack}
use Rattle.run_watch.proofs.Marking.{popped}
use Rattle.run_watch.proofs.stack.close.Goals as goal

pub returns-in-Some-clause-marked : goal.returns-in-Some-clause-marked
returns-in-Some-clause-marked c =
    let here : c.stack.inside.earlier ≡ c.args.stack.now.earlier = ap (λ (s : Stack). s.earlier) c.stack.view_is in
    let was : c.args.stack.now.earlier ≡ c.pop.new.self ++ c.in-Some.caller ∷ [] = sym here ∙ c.in-Some.ensures in
    let long : c.len-depth.result ≡ length c.pop.new.self + 1 =
    c.len-depth.ensures ∙ ap length c.in-Some.ensures ∙ length-append c.pop.new.self (c.in-Some.caller ∷ []) in
    popped c.args.marks.now c.unmark_slots.new.self c.args.names.now c.args.stack.now.earlier c.pop.new.self c.in-Some.caller
    c.len-depth.result was long c.requires c.unmark_slots.ensures
