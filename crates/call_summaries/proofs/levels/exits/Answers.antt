use Rattle.std.proofs.Common.{Bool, List, ap, length, subst, sym, ◌∙◌}
use Rattle.call_summaries.specs.Solutions.{OthersStay}
use Rattle.call_summaries.proofs.Answering.{solved_exits}
use Rattle.call_summaries.proofs.levels.exits.Goals as goal

pub solve-requires-clause-wanted : goal.solve-requires-clause-wanted
solve-requires-clause-wanted g c = ap (λ (l : List Bool). length l) c.deref.ensures.value ∙ c.in_ok-wanted.ensures.each

pub solve-requires-clause-others : goal.solve-requires-clause-others
solve-requires-clause-others g c = subst (OthersStay c.args.program.now) (sym c.deref.ensures.value) c.in_ok-wanted.ensures.others

pub returns-clause-exact : goal.returns-clause-exact
returns-clause-exact g c =
    solved_exits c.args.program.now c.requires c.deref.result.now c.in_ok-levels.levels.items c.in_ok-bases.bases.items
    (subst (OthersStay c.args.program.now) (sym c.deref.ensures.value) c.in_ok-wanted.ensures.others) c.in_ok-levels.ensures.solved c.in_ok-bases.ensures.exits
