use Rattle.reach_modules.proofs.Placing.{exit_places}
use Rattle.reach_modules.proofs.solve.reach_by_exits.Goals as goal

pub solve-requires-clause-places : goal.solve-requires-clause-places
solve-requires-clause-places g c = exit_places c.args.program.now c.args.exits.now c.in_ok-places.places c.len.result c.requires.exits c.len.ensures c.in_ok-places.ensures
