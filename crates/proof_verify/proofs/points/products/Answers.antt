use Rattle.std.proofs.Common.{subst}
use Rattle.std.proofs.lemmas.List.{take_all}
use Rattle.proof_verify.specs.Points.{AreProducts}
use Rattle.proof_verify.proofs.Members.{products_more}
use Rattle.proof_verify.proofs.points.products.Goals as goal

pub loop-m-preserved : goal.loop-m-preserved
loop-m-preserved c =
    products_more c.args.maps.now c.args.states.now c.loop-m.m-index c.m-item.result c.loop-m-test.true c.m-item.is c.loop-m.rows c.push_applied.new.rows
    c.loop-m.invariant c.in_ok-push_applied.ensures

pub returns : goal.returns
returns c =
    subst (λ maps. AreProducts maps c.args.states.now c.loop-m.rows) (take_all c.loop-m.m-index c.args.maps.now c.loop-m-test.false) c.loop-m.invariant
