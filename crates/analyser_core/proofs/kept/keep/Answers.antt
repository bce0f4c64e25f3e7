use Rattle.std.proofs.Common.{subst, sym}
use Rattle.analyser_core.specs.States.{HasStates}
use Rattle.block_program.proofs.Lemmas.{none_at}
use Rattle.analyser_core.proofs.Keeping.{keeps_one, some_last}
use Rattle.analyser_core.proofs.kept.keep.Goals as goal

pub returns : goal.returns
returns c =
    let program = c.args.program.now in
    let node = c.args.node in
    let t = c.requires.last in
    rw (c.in_ok-push.ensures {u = tt})
    (keeps_one program c.args.blocks.now.merging node c.args.kept.now.items c.drop_before.new.kept.items c.wanted.result c.requires.kept c.drop_before.ensures
    (λ merged on. subst (HasStates program node) (sym (c.wanted.ensures (some_last on.next _ (t.from node on.next on.node on.follows))))
    (c.requires.made (none_at program c.requires.formed c.args.blocks.now c.requires.blocks node c.requires.node merged))))
