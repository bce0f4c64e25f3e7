use Rattle.std.proofs.Common.{◌≡◌, length, subst, arith}
use Rattle.refute_path.specs.Gains.{Gains, IsAlongBelow}
use Rattle.refute_path.proofs.Gaining.{gains_none, still_within, along_more}
use Rattle.refute_path.proofs.turns.push_item.Goals as goal

pub loop-e-init : goal.loop-e-init
loop-e-init g c =
    gains_none c.args.program.now c.args.items.now c.args.bases.now.items (IsAlongBelow c.args.program.now c.args.items.now c.args.place 0) c.requires.arena
    (λ u m (e, below, s). omega arith)

pub push_along-requires-clause-arena : goal.push_along-requires-clause-arena
push_along-requires-clause-arena g c = c.loop-e.invariant.extends.arena

pub push_along-requires-clause-place : goal.push_along-requires-clause-place
push_along-requires-clause-place g c =
    still_within c.args.program.now c.args.items.now c.args.bases.now.items c.loop-e.items c.loop-e.bases.items c.loop-e.invariant.extends c.args.place c.requires.place

pub loop-e-preserved : goal.loop-e-preserved
loop-e-preserved g c =
    along_more c.args.program.now c.args.items.now c.loop-e.items c.push_along.new.items c.args.bases.now.items c.loop-e.bases.items c.push_along.new.bases.items c.args.place c.loop-e.e
    c.loop-e.invariant c.in_ok-push_along.ensures

pub returns : goal.returns
returns g c =
    let e : c.loop-e.e ≡ length c.args.program.now.edges = let n = c.len-e-end.ensures in let t = c.loop-e-test.false in let a = c.loop-e.auto.e-end in omega arith in
    subst (λ n. Gains c.args.program.now c.args.items.now c.loop-e.items c.args.bases.now.items c.loop-e.bases.items (IsAlongBelow c.args.program.now c.args.items.now c.args.place n)) e c.loop-e.invariant
