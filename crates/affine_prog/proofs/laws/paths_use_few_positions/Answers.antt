use Rattle.affine_prog.proofs.Visible.{level_map_on, open_state_on}
use Rattle.affine_prog.proofs.Used.{level_maps_use_few, open_states_use_few}
use Rattle.affine_prog.proofs.laws.paths_use_few_positions.Goals as goal

pub returns : goal.returns
returns c = record {
  maps = λ program p u m formed path. level_map_on program formed p u m path;
  states = λ program start u v formed is_start path. open_state_on program formed start is_start u v path;
  few_maps = λ program u rows formed within are. level_maps_use_few program formed u rows are within;
  few_states = λ program u rows formed within are. open_states_use_few program formed u rows are within;
}
