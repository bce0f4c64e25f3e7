use Rattle.affine_prog.proofs.Ends.{end_of_level_path, open_path_ends, start_is_reached}
use Rattle.affine_prog.proofs.laws.paths_end_at_nodes.Goals as goal

pub returns : goal.returns
returns c = record {
  level = λ program p u m formed path. end_of_level_path program formed p u m path;
  open_paths = λ program start u v formed path. open_path_ends program formed start u v path;
  start = start_is_reached;
}
