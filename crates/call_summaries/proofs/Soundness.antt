-- What an edge makes of combinations of maps of level paths is a combination of maps of level paths.
use Rattle.std.proofs.Common.{◌≡◌, ℕ, ◌<◌, ◌+◌, ◌*◌, List, Contains, length, if◌then◌else◌, refl, ap, ap₂, sym, subst, ◌∙◌, arith}
use Rattle.std.proofs.lemmas.Bool.{ne_eqb}
use Rattle.std.proofs.lemmas.List.Elements.{All-contains}
use Rattle.word_rows.specs.Words.{word}
use Rattle.word_rows.specs.Rows.{IsRow}
use Rattle.word_rows.proofs.Laws.{get_or-zeros, IsRow-zeros, IsRow-plus}
use Rattle.lead_basis.proofs.Laws.{index_of_sum}
use Rattle.row_modules.specs.Modules.{AreRows, IsModule}
use Rattle.row_modules.specs.Maps.{IsLinear}
use Rattle.row_modules.proofs.Laws.{combinations, combination_is_row, generator, mapped_into, module_least}
use Rattle.map_modules.specs.Matrices.{product}
use Rattle.map_modules.proofs.Lemmas.{IsRow-matrix}
use Rattle.map_modules.proofs.Lemmas.{product_second}
use Rattle.affine_prog.specs.declared.Program.{Program}
use Rattle.affine_prog.specs.declared.Kind.{Kind}
use Rattle.affine_prog.specs.declared.Assign.{Assign}
use Rattle.affine_prog.specs.declared.Kind.TheVariants.{Do, Call}
use Rattle.affine_prog.specs.Programs.{edge, entry_of, exit_of, slots_of, owner_of, IsEdgeOf, IsWellFormed}
use Rattle.affine_prog.specs.Assignments.{Choice, matrix_of}
use Rattle.affine_prog.specs.LevelPaths.{opening_map, step_map, LevelPath, opening, step, call}
use Rattle.affine_prog.specs.Laws.{linear_call_map}
use Rattle.affine_prog.specs.Spans.{IsMapTo}
use Rattle.affine_prog.proofs.Lemmas.{step_is_linear}
use Rattle.affine_prog.proofs.Lemmas.{call_map-affine, call_of_callees, call_of_callers}
use Rattle.affine_prog.proofs.Lemmas.{level_map}
use Rattle.call_summaries.specs.Sound.{IsSound}
use Rattle.row_images.specs.Images.{IsConstantRow}
use Rattle.call_summaries.specs.Pushes.{call_of}

pub call_is_linear_in_callers : (registers slots : ℕ) (before callee : List ℕ) → IsLinear 289 289 (linear_call_map registers slots before callee)
call_is_linear_in_callers registers slots before callee = record { rows = λ v r. IsRow-matrix _; sum = call_of_callers registers slots before callee }

pub call_is_linear_in_callees : (registers slots : ℕ) (before caller : List ℕ) → IsLinear 289 289 (λ n. linear_call_map registers slots before n caller)
call_is_linear_in_callees registers slots before caller = record { rows = λ v r. IsRow-matrix _; sum = call_of_callees registers slots before caller }

pub product_is_linear : (after : List ℕ) → IsLinear 289 289 (product after)
product_is_linear after = record { rows = λ v r. IsRow-matrix _; sum = product_second after }

-- rows whose last row is constant are a module
pub record IsConstantMap (m : List ℕ) : Type 0 where
  pub row : IsRow 289 m
  pub constant : IsConstantRow 17 m

constant_maps : IsModule 289 IsConstantMap
constant_maps = record {
  rows = λ v h. h.row;
  zero_row = record { row = IsRow-zeros 289; constant = λ j below. get_or-zeros 289 (17 * 16 + j) };
  sum = λ c v w g h. record {
    row = IsRow-plus 289 c v w g.row h.row;
    constant = λ j below. index_of_sum 289 c v w (17 * 16 + j) g.row h.row ∙ ap₂ (λ (x y : ℕ). word (x + c * y)) (g.constant j below) (h.constant j below) ∙ ap word (let e : 0 + c * 0 ≡ 0 = omega arith in e);
  };
}

module _ (program : Program) (formed : IsWellFormed program) where
  pub maps_are_rows : (u : ℕ) → AreRows 289 (IsMapTo program u)
  maps_are_rows u m path = (level_map program formed (owner_of program u) u m path).0

  pub sound_rows : (u : ℕ) → AreRows 289 (IsSound program u)
  sound_rows u m h = combination_is_row 289 (IsMapTo program u) (maps_are_rows u) m h

  pub sound_modules : (u : ℕ) → IsModule 289 (IsSound program u)
  sound_modules u = combinations 289 (IsMapTo program u) (maps_are_rows u)

  pub sound_constant : (u : ℕ) (m : List ℕ) → IsSound program u m → IsConstantMap m
  sound_constant u m h =
      module_least 289 IsConstantMap constant_maps (IsMapTo program u)
      (λ x path.
      let l = level_map program formed (owner_of program u) u x path in
      record { row = l.0; constant = λ j below. l.1 j (omega arith) ∙ ap (λ b. if b then 1 else 0) (ne_eqb j 16 (λ e. omega arith)) }) m h

  same_owner : (u v : ℕ) (kind : Kind) → Contains program.edges (edge u v kind) → owner_of program u ≡ owner_of program v
  same_owner u v kind contains = let e = All-contains (IsEdgeOf program) program.edges (edge u v kind) formed.edges contains in e.one_owner

  pub opening_sound : (p : ℕ) (words : List ℕ) → p < length program.procs → IsRow 16 words
      → IsSound program (entry_of program p) (opening_map program.registers (slots_of program p) words)
  opening_sound p words within row =
      let own : owner_of program (entry_of program p) ≡ p = (formed.procs p within).entry_owner in
      generator 289 (IsMapTo program (entry_of program p)) (maps_are_rows (entry_of program p)) (opening_map program.registers (slots_of program p) words)
      (rw own (opening p (entry_of program p) words (opening_map program.registers (slots_of program p) words) within refl row refl))

  pub step_sound : (u v : ℕ) (assigns : List Assign) (words m : List ℕ) → Contains program.edges (edge u v (Do assigns)) → Choice assigns words
      → IsSound program u m → IsSound program v (step_map assigns words m)
  step_sound u v assigns words m contains choice h =
      mapped_into 289 289 (step_map assigns words) (step_is_linear assigns words) (IsMapTo program u) (IsSound program v) (maps_are_rows u) (sound_modules v)
      (λ x path. generator 289 (IsMapTo program v) (maps_are_rows v) (step_map assigns words x)
      (let e = same_owner u v (Do assigns) contains in
      rw (← e) (step (owner_of program u) u v assigns words x (step_map assigns words x) path contains choice refl))) m h

  pub call_sound : (q u v : ℕ) (before : List Assign) (words callee m : List ℕ) → Contains program.edges (edge u v (Call q before)) → Choice before words
      → IsSound program (exit_of program q) callee → IsSound program u m
      → IsSound program v (call_of program u (matrix_of before words) callee m)
  call_sound q u v before words callee m contains choice g h =
      let r = program.registers in let s = slots_of program (owner_of program u) in let b = matrix_of before words in
      let edge_is = All-contains (IsEdgeOf program) program.edges (edge u v (Call q before)) formed.edges contains in
      let own : owner_of program (exit_of program q) ≡ q = (formed.procs q edge_is.kind.0).exit_owner in
      mapped_into 289 289 (linear_call_map r s b callee) (call_is_linear_in_callers r s b callee) (IsMapTo program u) (IsSound program v) (maps_are_rows u) (sound_modules v)
      (λ x path. mapped_into 289 289 (λ n. linear_call_map r s b n x) (call_is_linear_in_callees r s b x) (IsMapTo program (exit_of program q)) (IsSound program v)
      (maps_are_rows (exit_of program q)) (sound_modules v)
      (λ y called. generator 289 (IsMapTo program v) (maps_are_rows v) (linear_call_map r s b y x)
      (let called' : LevelPath program q (exit_of program q) y = subst (λ k. LevelPath program k (exit_of program q) y) own called in
      let is = call_map-affine r s b y x (level_map program formed q (exit_of program q) y called').1 in
      let made : LevelPath program (owner_of program u) v (linear_call_map r s b y x) = call (owner_of program u) q u v before words x y (linear_call_map r s b y x) path contains choice called' (sym is) in
      subst (λ k. LevelPath program k v (linear_call_map r s b y x)) edge_is.one_owner made)) callee g) m h
