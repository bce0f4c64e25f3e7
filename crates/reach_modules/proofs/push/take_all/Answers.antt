use Rattle.std.proofs.Common.{rules, [], ◌∷◌, ◌+◌, ◌<◌, take, length, subst, sym}
use Rattle.std.proofs.lemmas.List.{take_all}
use Rattle.row_engine.specs.Growth.{Offered}
use Rattle.row_engine.proofs.Members.{nothing_in}
use Rattle.row_engine.proofs.InTurn.{taken_none, all_taken, turn_takes, turn_fails}
use Rattle.reach_modules.specs.Offers.{offer, IsListed}
use Rattle.reach_modules.proofs.InTurn.{offered_rows, to_node, offer_less, offer_either}
use Rattle.reach_modules.proofs.push.take_all.Goals as goal

pub loop-offered-init : goal.loop-offered-init
loop-offered-init g c = taken_none 17 (IsListed c.args.offers.now) (IsListed []) c.args.nodes.now c.args.steps.now (λ u v h. nothing_in (offer u v) h)

pub take-requires : goal.take-requires
take-requires g c =
    let fact : c.offered-item.result.node < length c.loop-offered.nodes.bases = subst (λ n. c.offered-item.result.node < n) (sym c.loop-offered.invariant.grows.nodes)
    (to_node (length c.args.nodes.now.bases) c.args.offers.now c.requires c.loop-offered.offered-index c.offered-item.result c.loop-offered-test.true c.offered-item.is) in
    (search rules, (search rules, fact))

pub loop-offered-preserved : goal.loop-offered-preserved
loop-offered-preserved g c =
    let offers = c.args.offers.now in let i = c.loop-offered.offered-index in let n = length c.args.nodes.now.bases in let x = c.offered-item.result in
    turn_takes 17 (IsListed offers) (IsListed (take i offers)) (Offered 17 x.node (x.row ∷ [])) (IsListed (take (i + 1) offers)) c.args.nodes.now c.loop-offered.nodes c.take.new.self
    c.args.steps.now c.loop-offered.steps c.take.new.steps (offered_rows n offers c.requires) c.known.ensures.leading (offer_less n offers c.requires i x c.loop-offered-test.true c.offered-item.is)
    c.loop-offered.invariant (offer_either n offers c.requires i x c.loop-offered-test.true c.offered-item.is) _ c.in_ok-take.ensures

pub returns-in_err-take : goal.returns-in_err-take
returns-in_err-take g c =
    let offers = c.args.offers.now in let i = c.loop-offered.offered-index in let n = length c.args.nodes.now.bases in let x = c.offered-item.result in
    turn_fails 17 (IsListed offers) (IsListed (take i offers)) (Offered 17 x.node (x.row ∷ [])) (IsListed (take (i + 1) offers)) c.args.nodes.now c.loop-offered.nodes c.take.new.self
    c.args.steps.now c.loop-offered.steps c.take.new.steps (offered_rows n offers c.requires) c.known.ensures.leading (offer_less n offers c.requires i x c.loop-offered-test.true c.offered-item.is)
    c.loop-offered.invariant c.take.result c.from_residual.result c.from_residual.ensures.0 c.take.ensures

pub returns : goal.returns
returns g c =
    let offers = c.args.offers.now in let i = c.loop-offered.offered-index in
    all_taken _ 17 (IsListed offers) (IsListed (take i offers)) c.args.nodes.now c.loop-offered.nodes c.args.steps.now c.loop-offered.steps
    (λ u v h. subst (λ l. IsListed l u v) (sym (take_all i offers c.loop-offered-test.false)) h) c.loop-offered.invariant
