-- How many positions the maps of level paths and the states of open paths use.
use Rattle.std.proofs.Common.{ℕ, ◌+◌, ◌*◌, ◌≤◌, List, Contains}
use Rattle.row_modules.specs.Modules.{AreRows, IsWithin}
use Rattle.row_modules.specs.Positions.{with_constant, IsRowOn}
use Rattle.row_modules.specs.Bases.{used_positions}
use Rattle.row_modules.proofs.Laws.{generator, module_least, rows_on_are_module, few_used}
use Rattle.map_modules.specs.Matrices.{IsMatrixOn}
use Rattle.map_modules.proofs.Lemmas.{matrices_on_are_module, few_used_by_matrices}
use Rattle.affine_prog.specs.declared.Program.{Program}
use Rattle.affine_prog.specs.Programs.{owner_of, visible_in, IsWellFormed}
use Rattle.affine_prog.specs.Spans.{IsMapTo, IsStateAt}
use Rattle.affine_prog.proofs.Paths.{registers_below, visible_below}
use Rattle.affine_prog.proofs.Visible.{level_map_on, open_state_on}

module _ (program : Program) (w : IsWellFormed program) (u : ℕ) (rows : List (List ℕ)) where
  abbrev seen : ℕ
  seen = visible_in program (owner_of program u)

  pub level_maps_use_few : AreRows 289 (Contains rows) → IsWithin 289 (Contains rows) (IsMapTo program u) → used_positions 289 rows ≤ (program.width + 1) * (program.width + 1)
  level_maps_use_few are within =
      few_used_by_matrices rows program.width seen program.registers w.width (visible_below program w (owner_of program u)) (registers_below program w)
      (λ m h. module_least 289 (IsMatrixOn (with_constant seen) (with_constant program.registers)) (matrices_on_are_module (with_constant seen) (with_constant program.registers)) (IsMapTo program u)
      (λ n path. level_map_on program w (owner_of program u) u n path) m (within m (generator 289 (Contains rows) are m h)))

  pub open_states_use_few : AreRows 17 (Contains rows) → IsWithin 17 (Contains rows) (IsStateAt program u) → used_positions 17 rows ≤ program.width + 1
  open_states_use_few are within =
      few_used rows program.width seen w.width (visible_below program w (owner_of program u))
      (λ v h. (module_least 17 (IsRowOn 17 (with_constant seen)) (rows_on_are_module 17 (with_constant seen)) (IsStateAt program u)
      (λ s at. open_state_on program w at.start at.is_start u s at.path) v (within v (generator 17 (Contains rows) are v h))).hidden)
