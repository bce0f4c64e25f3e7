-- The laws of programs and paths that crates above cite, each with variables for all that it speaks of.
pub use Rattle.affine_prog.proofs.Steps.{step_is_linear, made-cons, step_map-cons, spread, HasNoConstant}
pub use Rattle.affine_prog.proofs.Choices.{ArePlaced, made_of_none, differences_of, differences_are_rows, under_zeros}
pub use Rattle.affine_prog.proofs.StepChoices.{made_is_choice, choice_is_made, step_is_affine_in_choices}
pub use Rattle.affine_prog.proofs.Calls.{call_map-affine, call_of_callees, call_of_callers, call_is_bilinear, opening_map-zeros, slot_words_are_linear}
pub use Rattle.affine_prog.proofs.Paths.{registers_below, visible_below, edge_at, step_placed, call_placed, IsAffine-matrix_of, IsAffine-opening_map, level_map, open_state}
pub use Rattle.affine_prog.proofs.Ends.{next_node, end_of_level_path, zero_start, start_is_reached, open_path_ends}
pub use Rattle.affine_prog.proofs.Visible.{opening_on, step_on, call_on, level_map_on, open_state_on}
pub use Rattle.affine_prog.proofs.Used.{level_maps_use_few, open_states_use_few}
pub use Rattle.affine_prog.proofs.Spanned.{holds_is_annihilation, starts_span}
pub use Rattle.affine_prog.proofs.Openings.{openings_span}
pub use Rattle.affine_prog.proofs.Columns.{choices_move_constants}
pub use Rattle.affine_prog.proofs.Appending.{matrix_is_row, matrix_of-append, Parts, Choice-append, Choice-parts}
