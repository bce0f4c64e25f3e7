use Rattle.affine_prog.specs.Spans.{IsStateAt}
use Rattle.row_engine.proofs.Pushing.{grown_not}
use Rattle.reach_modules.proofs.Sounding.{row_reaches}
use Rattle.reach_modules.proofs.push.push_row.Goals as goal

pub returns-in_err-offers : goal.returns-in_err-offers
returns-in_err-offers g c = grown_not 17 (IsStateAt c.args.program.now) c.args.nodes.now c.args.steps.now c.from_residual.result c.from_residual.ensures.0

pub returns : goal.returns
returns g c =
    row_reaches c.args.program.now c.requires.ready.formed c.args.node c.args.row.now c.in_ok-offers.offers c.in_ok-offers.ensures c.requires.own
    c.args.nodes.now c.take_all.new.nodes c.take_all.result c.args.steps.now c.take_all.new.steps c.as_slice.result.now c.as_slice.ensures c.known.ensures.leading c.take_all.ensures
