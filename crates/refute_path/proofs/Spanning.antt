-- Closed items span the maps of all level paths.
use Rattle.std.proofs.Common.{ℕ, ◌<◌, List, Contains, length, ap, sym, ◌∙◌}
use Rattle.word_rows.specs.Rows.{IsRow}
use Rattle.row_modules.specs.Modules.{IsModule}
use Rattle.row_modules.specs.Maps.{IsLinear}
use Rattle.row_modules.proofs.Laws.{combinations, mapped_into, module_least}
use Rattle.map_modules.specs.Matrices.{product, linear_extension}
use Rattle.map_modules.proofs.Lemmas.{IsRow-matrix, product_second}
use Rattle.affine_prog.specs.declared.Program.{Program}
use Rattle.affine_prog.specs.declared.Assign.{Assign}
use Rattle.affine_prog.specs.declared.Kind.TheVariants.{Do, Call}
use Rattle.affine_prog.specs.Programs.{edge, entry_of, exit_of, slots_of, owner_of, IsWellFormed}
use Rattle.affine_prog.specs.Assignments.{Choice, matrix_of}
use Rattle.affine_prog.specs.LevelPaths.{opening_map, step_map, LevelPath, opening, step, call}
use Rattle.affine_prog.specs.Laws.{linear_call_map}
use Rattle.affine_prog.proofs.Lemmas.{step_is_linear, step_placed, call_placed, call_map-affine, call_of_callees, call_of_callers, level_map, end_of_level_path}
use Rattle.refute_path.specs.declared.Placed.{Placed}
use Rattle.refute_path.specs.Tags.{AreMade, At, Spanned, IsClosed}
use Rattle.refute_path.proofs.Simple.{IsSimpleStep, IsSimpleOpening, simple_steps_are_rows, step_is_spanned, opening_is_spanned}
use Rattle.refute_path.proofs.Tagged.{at_are_rows}

product_is_linear : (after : List ℕ) → IsLinear 289 289 (product after)
product_is_linear after = record { rows = λ v r. IsRow-matrix _; sum = product_second after }

call_is_linear_in_callees : (registers slots : ℕ) (before caller : List ℕ) → IsLinear 289 289 (λ n. linear_call_map registers slots before n caller)
call_is_linear_in_callees registers slots before caller = record { rows = λ v r. IsRow-matrix _; sum = call_of_callees registers slots before caller }

call_is_linear_in_callers : (registers slots : ℕ) (before callee : List ℕ) → IsLinear 289 289 (linear_call_map registers slots before callee)
call_is_linear_in_callers registers slots before callee = record { rows = λ v r. IsRow-matrix _; sum = call_of_callers registers slots before callee }

module _ (program : Program) (items : List Placed) (formed : IsWellFormed program) (are : AreMade program items) (closed : IsClosed program items) where
  pub modules : (u : ℕ) → IsModule 289 (Spanned items u)
  modules u = combinations 289 (At items u) (at_are_rows program items formed are u)

  opened : (p : ℕ) (words : List ℕ) → p < length program.procs → IsRow 16 words → Spanned items (entry_of program p) (opening_map program.registers (slots_of program p) words)
  opened p words within row =
      module_least 289 (Spanned items (entry_of program p)) (modules (entry_of program p)) (IsSimpleOpening program.registers (slots_of program p))
      (λ x (raised, slot, is). rw is (closed.openings p raised within slot)) _ (opening_is_spanned program.registers (slots_of program p) words row)

  stepped_at : (u v : ℕ) (assigns : List Assign) (words m : List ℕ) → Contains program.edges (edge u v (Do assigns)) → Choice assigns words
      → At items u m → Spanned items v (step_map assigns words m)
  stepped_at u v assigns words m contains choice h =
      module_least 289 (Spanned items v) (modules v) (IsSimpleStep assigns m) (λ x (raised, below, is). rw is (closed.steps u v assigns raised m contains below h)) _
      (step_is_spanned assigns m (step_placed program formed u v assigns contains) (at_are_rows program items formed are u m h) words choice)

  stepped : (u v : ℕ) (assigns : List Assign) (words m : List ℕ) → Contains program.edges (edge u v (Do assigns)) → Choice assigns words
      → Spanned items u m → Spanned items v (step_map assigns words m)
  stepped u v assigns words m contains choice h =
      mapped_into 289 289 (step_map assigns words) (step_is_linear assigns words) (At items u) (Spanned items v) (at_are_rows program items formed are u) (modules v)
      (λ x i. stepped_at u v assigns words x contains choice i) m h

  called_at : (q u v : ℕ) (assigns : List Assign) (words callee m : List ℕ) → Contains program.edges (edge u v (Call q assigns)) → Choice assigns words
      → At items (exit_of program q) callee → At items u m → Spanned items v (linear_call_map program.registers (slots_of program (owner_of program u)) (matrix_of assigns words) callee m)
  called_at q u v assigns words callee m contains choice g h =
      let e = linear_extension program.registers (slots_of program (owner_of program u)) callee in
      mapped_into 289 289 (product e) (product_is_linear e) (IsSimpleStep assigns m) (Spanned items v) (simple_steps_are_rows assigns m) (modules v)
      (λ x (raised, below, is). rw is (closed.calls q u v assigns raised callee m contains below g h)) (step_map assigns words m)
      (step_is_spanned assigns m (call_placed program formed u v q assigns contains) (at_are_rows program items formed are u m h) words choice)

  called : (q u v : ℕ) (assigns : List Assign) (words callee m : List ℕ) → Contains program.edges (edge u v (Call q assigns)) → Choice assigns words
      → Spanned items (exit_of program q) callee → Spanned items u m
      → Spanned items v (linear_call_map program.registers (slots_of program (owner_of program u)) (matrix_of assigns words) callee m)
  called q u v assigns words callee m contains choice g h =
      let r = program.registers in let s = slots_of program (owner_of program u) in let b = matrix_of assigns words in
      mapped_into 289 289 (linear_call_map r s b callee) (call_is_linear_in_callers r s b callee) (At items u) (Spanned items v) (at_are_rows program items formed are u) (modules v)
      (λ x i. mapped_into 289 289 (λ n. linear_call_map r s b n x) (call_is_linear_in_callees r s b x) (At items (exit_of program q)) (Spanned items v)
      (at_are_rows program items formed are (exit_of program q)) (modules v)
      (λ y j. called_at q u v assigns words y x contains choice j i) callee g) m h

  pub path_is_spanned : (p u : ℕ) (m : List ℕ) → LevelPath program p u m → Spanned items u m
  path_is_spanned p u m (opening p' u' words m' within at row is) = rw (is, at) (opened p words within row)
  path_is_spanned p v n (step p' u v' assigns words m n' path contains choice is) =
      rw is (stepped u v assigns words m contains choice (path_is_spanned p u m path))
  path_is_spanned p v n (call p' q u v' assigns words m callee n' path contains choice over is) =
      let affine = (level_map program formed q (exit_of program q) callee over).1 in
      let own = (end_of_level_path program formed p u m path).1 in
      let e = is ∙ call_map-affine program.registers (slots_of program p) (matrix_of assigns words) callee m affine
      ∙ ap (λ k. linear_call_map program.registers (slots_of program k) (matrix_of assigns words) callee m) (sym own) in
      rw e (called q u v assigns words callee m contains choice (path_is_spanned q (exit_of program q) callee over) (path_is_spanned p u m path))
