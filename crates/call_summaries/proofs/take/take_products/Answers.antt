use Rattle.std.proofs.Common.{map, subst, ◌∙◌}
use Rattle.map_modules.specs.Matrices.{product}
use Rattle.row_engine.specs.Growth.{Offered, Takes}
use Rattle.row_engine.proofs.InTurn.{takes_not}
use Rattle.call_summaries.proofs.take.take_products.Goals as goal

pub returns-in_err-products : goal.returns-in_err-products
returns-in_err-products g c = takes_not 289 (Offered 289 c.args.to (map (λ x. product c.args.after.now x) c.args.rows.now)) c.args.nodes.now c.args.steps.now c.from_residual.result c.from_residual.ensures.0

pub returns : goal.returns
returns g c =
    subst (λ rows. Takes 289 (Offered 289 c.args.to rows) c.args.nodes.now c.offer.new.self c.offer.result c.args.steps.now c.offer.new.steps) (c.as_slice.ensures ∙ c.in_ok-products.ensures) c.offer.ensures
