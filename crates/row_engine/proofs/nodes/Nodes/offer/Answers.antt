use Rattle.std.proofs.Common.{rules, [], ◌∷◌, ◌+◌, ◌<◌, take, Contains, subst, sym}
use Rattle.std.proofs.lemmas.List.{take_all}
use Rattle.row_engine.specs.Growth.{Offered}
use Rattle.row_engine.proofs.Members.{nothing_in}
use Rattle.row_engine.proofs.InTurn.{taken_none, all_taken, turn_takes, turn_fails, offered_less, offered_either}
use Rattle.row_engine.proofs.nodes.Nodes.offer.Goals as goal

pub loop-row-init : goal.loop-row-init
loop-row-init g c =
    taken_none g.row.N (Offered g.row.N c.args.to c.args.rows.now) (Offered g.row.N c.args.to []) c.args.self.now c.args.steps.now (λ u v h. nothing_in v h.2)

pub take-requires : goal.take-requires
take-requires g c =
    let within = c.known.ensures.within in (search rules, (search rules, subst (λ n. c.args.to < n) (sym c.loop-row.invariant.grows.nodes) c.requires))

pub loop-row-preserved : goal.loop-row-preserved
loop-row-preserved g c =
    let n = g.row.N in let to = c.args.to in let rows = c.args.rows.now in let i = c.loop-row.row-index in let x = c.row-item.result in
    turn_takes n (Offered n to rows) (Offered n to (take i rows)) (Offered n to (x ∷ [])) (Offered n to (take (i + 1) rows)) c.args.self.now c.loop-row.self c.take.new.self
    c.args.steps.now c.loop-row.steps c.take.new.steps (λ u v h. h.1) c.known.ensures.leading (offered_less n to rows i x c.loop-row-test.true c.row-item.is) c.loop-row.invariant
    (offered_either n to rows i x c.loop-row-test.true c.row-item.is) _ c.in_ok-take.ensures

pub returns-in_err-take : goal.returns-in_err-take
returns-in_err-take g c =
    let n = g.row.N in let to = c.args.to in let rows = c.args.rows.now in let i = c.loop-row.row-index in let x = c.row-item.result in
    turn_fails n (Offered n to rows) (Offered n to (take i rows)) (Offered n to (x ∷ [])) (Offered n to (take (i + 1) rows)) c.args.self.now c.loop-row.self c.take.new.self
    c.args.steps.now c.loop-row.steps c.take.new.steps (λ u v h. h.1) c.known.ensures.leading (offered_less n to rows i x c.loop-row-test.true c.row-item.is) c.loop-row.invariant
    c.take.result c.from_residual.result c.from_residual.ensures.0 c.take.ensures

pub returns : goal.returns
returns g c =
    let n = g.row.N in let to = c.args.to in let rows = c.args.rows.now in let i = c.loop-row.row-index in
    all_taken _ n (Offered n to rows) (Offered n to (take i rows)) c.args.self.now c.loop-row.self c.args.steps.now c.loop-row.steps
    (λ u v h. (h.0, h.1, subst (λ y. Contains y v) (sym (take_all i rows c.loop-row-test.false)) h.2)) c.loop-row.invariant
