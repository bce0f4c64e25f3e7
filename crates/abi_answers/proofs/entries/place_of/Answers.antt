use Rattle.affine_lift.specs.Tracking.{address}
use Rattle.abi_answers.proofs.Placing.{place_named}
use Rattle.abi_answers.proofs.entries.place_of.Goals as goal

pub returns-in-Some : goal.returns-in-Some
returns-in-Some c = address c.in-Some.ensures

pub returns-in-None : goal.returns-in-None
returns-in-None c = place_named c.args.symbols.now c.args.text.now c.value_of.result c.in-None.ensures c.value_of.ensures
