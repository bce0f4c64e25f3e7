use Rattle.refute_path.proofs.Pushing.{on_ok, extends_then}
use Rattle.refute_path.proofs.Gaining.{still_within, along_all}
use Rattle.refute_path.proofs.turns.push_along.Goals as goal

pub push_forward-requires-clause-arena : goal.push_forward-requires-clause-arena
push_forward-requires-clause-arena g c = c.in_ok-push_step.ensures.extends.arena

pub push_forward-requires-clause-place : goal.push_forward-requires-clause-place
push_forward-requires-clause-place g c =
    still_within c.args.program.now c.args.items.now c.args.bases.now.items c.push_step.new.items c.push_step.new.bases.items c.in_ok-push_step.ensures.extends c.args.place c.requires.place

pub push_back-requires-clause-arena : goal.push_back-requires-clause-arena
push_back-requires-clause-arena g c = c.in_ok-push_forward.ensures.extends.arena

pub push_back-requires-clause-place : goal.push_back-requires-clause-place
push_back-requires-clause-place g c =
    let two = extends_then c.args.program.now c.args.items.now c.push_step.new.items c.push_forward.new.items c.args.bases.now.items c.push_step.new.bases.items c.push_forward.new.bases.items
    c.in_ok-push_step.ensures.extends c.in_ok-push_forward.ensures.extends in
    still_within c.args.program.now c.args.items.now c.args.bases.now.items c.push_forward.new.items c.push_forward.new.bases.items two c.args.place c.requires.place

pub returns : goal.returns
returns g c =
    on_ok c.push_back.result
    (along_all c.args.program.now c.args.items.now c.push_step.new.items c.push_forward.new.items c.push_back.new.items
    c.args.bases.now.items c.push_step.new.bases.items c.push_forward.new.bases.items c.push_back.new.bases.items c.args.place c.args.e c.in_ok-push_step.ensures c.in_ok-push_forward.ensures)
    c.push_back.ensures
