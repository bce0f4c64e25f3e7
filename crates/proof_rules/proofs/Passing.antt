-- The modules of all level paths and of all entry states pass the rules, and rule 6 passes what holds.
use Rattle.std.proofs.Common.{◌≡◌, ℕ, ◌<◌, inl, inr, List, Contains, length, slice_index, refl, ap, sym, subst, ◌∙◌, arith}
use Rattle.std.proofs.lemmas.List.Elements.{All-contains}
use Rattle.word_rows.specs.Rows.{dot, IsRow}
use Rattle.word_rows.proofs.Laws.{IsRow-zeros, IsRow-unit, unit_elsewhere}
use Rattle.row_modules.specs.Modules.{AreRows, IsCombination, IsModule}
use Rattle.row_modules.specs.Forms.{Solutions}
use Rattle.row_modules.specs.Positions.{with_constant, IsZeroOutside, IsUnitOn}
use Rattle.row_modules.proofs.Laws.{combinations, generator, mapped_into, solutions_are_module, in_not_out, has_beyond}
use Rattle.map_modules.specs.Matrices.{apply}
use Rattle.map_modules.proofs.Lemmas.{IsRow-matrix, IsRow-vector, apply-product}
use Rattle.affine_prog.specs.declared.Program.{Program}
use Rattle.affine_prog.specs.declared.Assign.{Assign}
use Rattle.affine_prog.specs.declared.Kind.{Kind}
use Rattle.affine_prog.specs.declared.Kind.TheVariants.{Do, Call}
use Rattle.affine_prog.specs.Programs.{edge, entry_of, exit_of, slots_of, owner_of, IsEdgeOf, IsWellFormed}
use Rattle.affine_prog.specs.Assignments.{unknown_count, matrix_of}
use Rattle.affine_prog.specs.LevelPaths.{step_map, LevelPath, opening, step, call}
use Rattle.affine_prog.specs.OpenPaths.{Start, first, enter}
use Rattle.affine_prog.specs.Relations.{Holds}
use Rattle.affine_prog.specs.Laws.{linear_call_map}
use Rattle.affine_prog.specs.Spans.{rows_at, IsMapTo, IsStateAt, AreLevels}
use Rattle.affine_prog.proofs.Lemmas.{step_is_linear, call_map-affine, call_of_callees, call_of_callers, level_map, registers_below}
use Rattle.merged_heads.specs.declared.Merging.{Merging}
use Rattle.merged_heads.specs.Chains.{Chain}
use Rattle.merged_heads.specs.BlockPrograms.{IsBlockProgram}
use Rattle.merged_heads.specs.Laws.{OpenPathsAlongChains}
use Rattle.merged_heads.proofs.Lemmas.{formed}
use Rattle.proof_rules.specs.Simple.{IsSimple, IsSimpleStep, IsSimpleOpening}
use Rattle.proof_rules.specs.Rules.{InLevels, InEntries, rule_6, PassRules}
use Rattle.proof_rules.specs.Laws.{AreRowLists}
use Rattle.proof_rules.specs.Exact.{IsEntryState, began, called, AreEntries}
use Rattle.proof_rules.proofs.Choosing.{simple_choice}
use Rattle.proof_rules.proofs.Applying.{apply_by, step_then_apply}
use Rattle.proof_rules.proofs.Starting.{simple_start_by}
use Rattle.proof_rules.proofs.Claiming.{chain_owner, owner_alike}

module _ (small : Program) (w : IsWellFormed small) (levels entries : List (List (List ℕ))) (level_rows : AreRowLists 289 levels) (entry_rows : AreRowLists 17 entries)
    (exact_levels : AreLevels small levels) (exact_entries : AreEntries small entries) where
  map_rows : (u : ℕ) → AreRows 289 (IsMapTo small u)
  map_rows u m path = (level_map small w (owner_of small u) u m path).0

  start_row : (v : List ℕ) → Start small v → IsRow 17 v
  start_row v s = s.state.row

  state_rows : (p : ℕ) → AreRows 17 (IsEntryState small p)
  state_rows p v (began is start) = start_row v start
  state_rows p v (called u to before words state at contains choice is) = rw is (IsRow-vector _)

  level_modules : (u : ℕ) → IsModule 289 (InLevels levels u)
  level_modules u = combinations 289 (Contains (rows_at levels u)) (level_rows u)

  entry_modules : (p : ℕ) → IsModule 17 (InEntries entries p)
  entry_modules p = combinations 17 (Contains (rows_at entries p)) (entry_rows p)

  the_edge : (u v : ℕ) (kind : Kind) → Contains small.edges (edge u v kind) → IsEdgeOf small (edge u v kind)
  the_edge u v kind contains = All-contains (IsEdgeOf small) small.edges (edge u v kind) w.edges contains

  map_in : (u : ℕ) (m : List ℕ) → u < small.nodes → IsMapTo small u m → InLevels levels u m
  map_in u m within path = (exact_levels.exact u within).back m (generator 289 (IsMapTo small u) (map_rows u) m path)

  state_in : (p : ℕ) (v : List ℕ) → p < length small.procs → IsEntryState small p v → InEntries entries p v
  state_in p v within state = (exact_entries.exact p within).back v (generator 17 (IsEntryState small p) (state_rows p) v state)

  row_of_maps : (u : ℕ) (m : List ℕ) → u < small.nodes → Contains (rows_at levels u) m → IsCombination 289 (IsMapTo small u) m
  row_of_maps u m within h = (exact_levels.exact u within).there m (generator 289 (Contains (rows_at levels u)) (level_rows u) m h)

  row_of_states : (p : ℕ) (v : List ℕ) → p < length small.procs → Contains (rows_at entries p) v → IsCombination 17 (IsEntryState small p) v
  row_of_states p v within h = (exact_entries.exact p within).there v (generator 17 (Contains (rows_at entries p)) (entry_rows p) v h)

  owner_within : (u : ℕ) → u < small.nodes → owner_of small u < length small.procs
  owner_within u below = w.owned u 0 (let e = w.owners in omega arith)

  opening_passes : (p : ℕ) → p < length small.procs → (m : List ℕ) → IsSimpleOpening small.registers (slots_of small p) m → InLevels levels (entry_of small p) m
  opening_passes p within m simple =
      let ends = w.procs p within in
      map_in (entry_of small p) m ends.entry (subst (λ k. LevelPath small k (entry_of small p) m) (sym ends.entry_owner) (path simple))
    where
      path : IsSimpleOpening small.registers (slots_of small p) m → LevelPath small p (entry_of small p) m
      path (inl e) = opening p (entry_of small p) _ m within refl (IsRow-zeros 16) e
      path (inr (u, on, e)) = opening p (entry_of small p) u m within refl (subst (IsRow 16) (sym on.is) (IsRow-unit 16 on.position)) e

  step_passes : (u v : ℕ) (assigns : List Assign) → Contains small.edges (edge u v (Do assigns)) → (m n : List ℕ) → Contains (rows_at levels u) m → IsSimpleStep assigns m n → InLevels levels v n
  step_passes u v assigns contains m n h (words, simple, is) =
      let e = the_edge u v (Do assigns) contains in
      rw is (mapped_into 289 289 (step_map assigns words) (step_is_linear assigns words) (IsMapTo small u) (InLevels levels v) (map_rows u) (level_modules v)
      (λ x path. map_in v (step_map assigns words x) e.to
      (subst (λ k. LevelPath small k v (step_map assigns words x)) e.one_owner
      (step (owner_of small u) u v assigns words x (step_map assigns words x) path contains (simple_choice (unknown_count assigns) words simple) refl)))
      m (row_of_maps u m e.from h))

  call_passes : (u v q : ℕ) (before : List Assign) → Contains small.edges (edge u v (Call q before)) → (m callee words : List ℕ) → Contains (rows_at levels u) m
      → Contains (rows_at levels (exit_of small q)) callee → IsSimple (unknown_count before) words
      → InLevels levels v (linear_call_map small.registers (slots_of small (owner_of small u)) (matrix_of before words) callee m)
  call_passes u v q before contains m callee words h g simple =
      let e = the_edge u v (Call q before) contains in let ends = w.procs q e.kind.0 in
      let r = small.registers in let s = slots_of small (owner_of small u) in let b = matrix_of before words in
      mapped_into 289 289 (linear_call_map r s b callee) (record { rows = λ x i. IsRow-matrix _; sum = call_of_callers r s b callee }) (IsMapTo small u) (InLevels levels v)
      (map_rows u) (level_modules v)
      (λ x path. mapped_into 289 289 (λ n. linear_call_map r s b n x) (record { rows = λ y i. IsRow-matrix _; sum = call_of_callees r s b x }) (IsMapTo small (exit_of small q))
      (InLevels levels v) (map_rows (exit_of small q)) (level_modules v)
      (λ y came.
      let back : LevelPath small q (exit_of small q) y = subst (λ k. LevelPath small k (exit_of small q) y) ends.exit_owner came in
      let same = call_map-affine r s b y x (level_map small w q (exit_of small q) y back).1 in
      map_in v (linear_call_map r s b y x) e.to
      (subst (λ k. LevelPath small k v (linear_call_map r s b y x)) e.one_owner
      (call (owner_of small u) q u v before words x y (linear_call_map r s b y x) path contains (simple_choice (unknown_count before) words simple) back (sym same))))
      callee (row_of_maps (exit_of small q) callee ends.exit g)) m (row_of_maps u m e.from h)

  -- an entry state and the map of a level path make the state of an open path
  comes_to : (u : ℕ) (x y : List ℕ) → IsMapTo small u x → IsEntryState small (owner_of small u) y → IsStateAt small u (apply x y)
  comes_to u x y path (began own start) = record {
    start = y;
    is_start = start;
    path = first u x (apply x y) (subst (λ k. LevelPath small k u x) own path) refl;
  }
  comes_to u x y path (called u' to before words state at contains choice is) = record {
    start = at.start;
    is_start = at.is_start;
    path = enter (owner_of small u) u' to u before words x state (apply x y) at.path contains choice path (ap (apply x) is);
  }

  -- what holds of all states at a node, after a step, holds of rows of maps and of entry states
  module _ (u : ℕ) (within : u < small.nodes) (assigns : List Assign) (words : List ℕ) (S : List ℕ → Type 0) (closed : IsModule 17 S)
      (states : (v : List ℕ) → IsStateAt small u v → S (apply (matrix_of assigns words) v)) where
    all_states : (m s : List ℕ) → Contains (rows_at levels u) m → Contains (rows_at entries (owner_of small u)) s → S (apply (step_map assigns words m) s)
    all_states m s h g =
        mapped_into 17 17 (apply (step_map assigns words m)) (apply_by (step_map assigns words m)) (IsEntryState small (owner_of small u)) S
        (state_rows (owner_of small u)) closed
        (λ y state. mapped_into 289 17 (λ x. apply (step_map assigns words x) y) (step_then_apply assigns words y) (IsMapTo small u) S (map_rows u) closed
        (λ x path. subst S (sym (apply-product (matrix_of assigns words) x y)) (states (apply x y) (comes_to u x y path state)))
        m (row_of_maps u m within h)) s (row_of_states (owner_of small u) s (owner_within u within) g)

  entry_passes : (u v q : ℕ) (before : List Assign) → Contains small.edges (edge u v (Call q before)) → (m n s : List ℕ) → Contains (rows_at levels u) m
      → IsSimpleStep before m n → Contains (rows_at entries (owner_of small u)) s → InEntries entries q (apply n s)
  entry_passes u v q before contains m n s h (words, simple, is) g =
      let e = the_edge u v (Call q before) contains in
      rw is (all_states u e.from before words (InEntries entries q) (entry_modules q)
      (λ x at. state_in q (apply (matrix_of before words) x) e.kind.0 (called u v before words x at contains (simple_choice (unknown_count before) words simple) refl)) m s h g)

  no_constant : (u : List ℕ) → IsUnitOn 17 small.registers u → slice_index u 16 ≡ 0
  no_constant u h =
      ap (λ x. slice_index x 16) h.is ∙ unit_elsewhere 17 h.position 16
      (λ same. in_not_out small.registers h.position h.there
      (has_beyond small.width small.registers h.position (registers_below small w) (let e = w.width in omega (arith, same))))

  pub exact_rows_pass : PassRules small levels entries
  exact_rows_pass = record {
    openings = opening_passes;
    steps = step_passes;
    calls = call_passes;
    starts = λ v simple. state_in small.start v w.start (began refl (simple_start_by small no_constant v simple));
    enters = entry_passes;
  }

module _ (program : Program) (w : IsWellFormed program) (table : Merging) (heads : List ℕ) (small : Program) (blocks : IsBlockProgram program table heads small) (along : OpenPathsAlongChains)
    (levels entries : List (List (List ℕ))) (level_rows : AreRowLists 289 levels) (entry_rows : AreRowLists 17 entries)
    (exact_levels : AreLevels small levels) (exact_entries : AreEntries small entries) where
  start_back : (v : List ℕ) → Start small v → Start program v
  start_back v s = record { state = s.state; registers = subst (λ (r : ℕ). IsZeroOutside (with_constant r) v) blocks.registers s.registers }

  pub claim_passes : (i u : ℕ) (chain : List Assign) (a : List ℕ) → i < length heads → Chain program table (slice_index heads i) u chain → Holds program u a
      → rule_6 levels entries i (owner_of program u) chain a
  claim_passes i u chain a within leads holds m n s h (words, simple, is) g =
      let own : owner_of small i ≡ owner_of program u = owner_alike program w table heads small blocks i within ∙ chain_owner program w table (slice_index heads i) u chain leads in
      let below : i < small.nodes = let e = blocks.nodes in omega arith in
      let solved = all_states small (formed program table heads small w blocks) levels entries level_rows entry_rows exact_levels exact_entries i below chain words
      (Solutions 17 (λ b. b ≡ a)) (solutions_are_module 17 (λ b. b ≡ a))
      (λ x at. record {
        row = IsRow-vector _;
        zero_at = λ f same. ap (λ b. dot b (apply (matrix_of chain words) x)) same
            ∙ holds.zero at.start (apply (matrix_of chain words) x) (start_back at.start at.is_start)
            ((along program table heads small w blocks at.start i u chain (apply (matrix_of chain words) x) within leads).1
            (record { words = words; first = x; choice = simple_choice (unknown_count chain) words simple; path = at.path; state = refl }));
      }) m s h (subst (λ k. Contains (rows_at entries k) s) (sym own) g) in
      ap (λ x. dot a (apply x s)) is ∙ solved.zero_at a refl
