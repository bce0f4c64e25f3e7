use Rattle.std.proofs.Common.{◌≡◌, subst, arith}
use Rattle.refute_path.specs.Gains.{Gains, IsForward}
use Rattle.refute_path.proofs.Pushing.{on_ok}
use Rattle.refute_path.proofs.Gaining.{gains_none, still_within, forward_more}
use Rattle.refute_path.proofs.turns.push_forward.Goals as goal

pub loop-j-init : goal.loop-j-init
loop-j-init g c =
    gains_none c.args.program.now c.args.items.now c.args.bases.now.items (IsForward c.args.program.now c.args.items.now c.args.place 0 c.args.e) c.requires.arena
    (λ u m (j, below, s). omega arith)

pub push_pair-requires-clause-arena : goal.push_pair-requires-clause-arena
push_pair-requires-clause-arena g c = c.loop-j.invariant.extends.arena

pub push_pair-requires-clause-caller : goal.push_pair-requires-clause-caller
push_pair-requires-clause-caller g c =
    still_within c.args.program.now c.args.items.now c.args.bases.now.items c.loop-j.items c.loop-j.bases.items c.loop-j.invariant.extends c.args.place c.requires.place

pub push_pair-requires-clause-callee : goal.push_pair-requires-clause-callee
push_pair-requires-clause-callee g c =
    let w = c.requires.place in let t = c.loop-j-test.true in
    still_within c.args.program.now c.args.items.now c.args.bases.now.items c.loop-j.items c.loop-j.bases.items c.loop-j.invariant.extends c.loop-j.j (omega arith)

pub loop-j-preserved : goal.loop-j-preserved
loop-j-preserved g c =
    forward_more c.args.program.now c.args.items.now c.loop-j.items c.push_pair.new.items c.args.bases.now.items c.loop-j.bases.items c.push_pair.new.bases.items c.args.place c.args.e c.loop-j.j
    c.loop-j.invariant c.in_ok-push_pair.ensures

pub push_pair-requires-2-clause-caller : goal.push_pair-requires-2-clause-caller
push_pair-requires-2-clause-caller g c =
    still_within c.args.program.now c.args.items.now c.args.bases.now.items c.loop-j.items c.loop-j.bases.items c.loop-j.invariant.extends c.args.place c.requires.place

pub push_pair-requires-2-clause-callee : goal.push_pair-requires-2-clause-callee
push_pair-requires-2-clause-callee g c =
    still_within c.args.program.now c.args.items.now c.args.bases.now.items c.loop-j.items c.loop-j.bases.items c.loop-j.invariant.extends c.args.place c.requires.place

pub returns : goal.returns
returns g c =
    let e : c.loop-j.j ≡ c.args.place = let t = c.loop-j-test.false in let a = c.loop-j.auto.j-end in omega arith in
    on_ok c.push_pair-2.result
    (forward_more c.args.program.now c.args.items.now c.loop-j.items c.push_pair-2.new.items c.args.bases.now.items c.loop-j.bases.items c.push_pair-2.new.bases.items c.args.place c.args.e c.args.place
    (subst (λ n. Gains c.args.program.now c.args.items.now c.loop-j.items c.args.bases.now.items c.loop-j.bases.items (IsForward c.args.program.now c.args.items.now c.args.place n c.args.e)) e c.loop-j.invariant))
    c.push_pair-2.ensures
