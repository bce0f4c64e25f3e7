use Rattle.reach_modules.proofs.Placing.{level_places}
use Rattle.reach_modules.proofs.solve.reach.Goals as goal

pub solve-requires-clause-places : goal.solve-requires-clause-places
solve-requires-clause-places g c = level_places c.args.program.now c.args.levels.now c.in_ok-places.places c.requires.formed c.requires.levels c.in_ok-places.ensures
