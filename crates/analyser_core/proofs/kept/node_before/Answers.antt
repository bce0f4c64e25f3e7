use Rattle.block_program.proofs.Lemmas.{step_read}
use Rattle.analyser_core.proofs.NodeStates.{follows_of}
use Rattle.analyser_core.proofs.kept.node_before.Goals as goal

pub returns : goal.returns
returns c =
    let e = c.index-as_slice-edge_into.result in
    follows_of c.args.program.now c.args.blocks.now.merging c.args.node e
    (step_read c.args.program.now c.requires.formed c.args.blocks.now c.requires.blocks c.args.node c.edge_into.result c.as_slice.result.now e c.requires.node c.edge_into.ensures c.as_slice.ensures
    c.index-as_slice-edge_into.is)
