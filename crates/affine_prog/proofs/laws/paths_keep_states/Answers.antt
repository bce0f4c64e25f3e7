use Rattle.affine_prog.proofs.Paths.{level_map, open_state}
use Rattle.affine_prog.proofs.laws.paths_keep_states.Goals as goal

pub returns : goal.returns
returns c = record {
  maps = λ program p u m formed path. level_map program formed p u m path;
  states = λ program start u v formed is_start path. open_state program formed start is_start u v path;
}
