use Rattle.std.proofs.Common.{Bool, List, true, ap, length, ◌∙◌}
use Rattle.std.proofs.lemmas.List.{length-replicate}
use Rattle.call_summaries.proofs.Answering.{others_none, solved_levels}
use Rattle.call_summaries.proofs.levels.summaries.Goals as goal

pub solve-requires-clause-wanted : goal.solve-requires-clause-wanted
solve-requires-clause-wanted g c =
    ap (λ (l : List Bool). length l) (c.deref.ensures.value ∙ c.in_ok-wanted.ensures) ∙ length-replicate {A = Bool} (length c.args.program.now.procs) true

pub solve-requires-clause-others : goal.solve-requires-clause-others
solve-requires-clause-others g c = others_none c.args.program.now c.deref.result.now (c.deref.ensures.value ∙ c.in_ok-wanted.ensures)

pub returns-clause-exact : goal.returns-clause-exact
returns-clause-exact g c =
    solved_levels c.args.program.now c.deref.result.now c.in_ok-levels.levels.items (c.deref.ensures.value ∙ c.in_ok-wanted.ensures) c.in_ok-levels.ensures.solved
