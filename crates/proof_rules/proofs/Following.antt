-- Rows of the same modules pass the same rules: a row of the one list is a combination of the other's.
use Rattle.std.proofs.Common.{◌≡◌, ℕ, List, Contains, refl, ap, ◌∙◌}
use Rattle.word_rows.specs.Rows.{dot}
use Rattle.row_modules.specs.Forms.{Solutions}
use Rattle.row_modules.proofs.Laws.{combinations, generator, solutions_are_module}
use Rattle.map_modules.specs.Matrices.{product, apply, linear_extension}
use Rattle.map_modules.proofs.Lemmas.{IsRow-vector}
use Rattle.affine_prog.specs.declared.Program.{Program}
use Rattle.affine_prog.specs.declared.Assign.{Assign}
use Rattle.affine_prog.specs.declared.Kind.TheVariants.{Do, Call}
use Rattle.affine_prog.specs.Programs.{edge, entry_of, exit_of, slots_of, owner_of, IsWellFormed}
use Rattle.affine_prog.specs.Assignments.{unknown_count}
use Rattle.affine_prog.specs.LevelPaths.{step_map}
use Rattle.affine_prog.specs.Spans.{rows_at}
use Rattle.affine_prog.proofs.Lemmas.{ArePlaced, step_placed, call_placed}
use Rattle.proof_rules.specs.Simple.{IsSimpleStep}
use Rattle.proof_rules.specs.Rules.{InLevels, InEntries, rule_3, rule_4, rule_5, rule_6}
use Rattle.proof_rules.specs.Laws.{AreRowLists}
use Rattle.proof_rules.specs.Alike.{AreAlike, RulesFollow}
use Rattle.proof_rules.proofs.Choosing.{simple_choice}
use Rattle.proof_rules.proofs.Applying.{stepped, called, applied}

module _ (small : Program) (formed : IsWellFormed small) (levels others entries states : List (List (List ℕ))) (level_rows : AreRowLists 289 levels)
    (other_rows : AreRowLists 289 others) (entry_rows : AreRowLists 17 entries) (state_rows : AreRowLists 17 states)
    (maps_alike : AreAlike 289 levels others) (states_alike : AreAlike 17 entries states) where
  level_of : (u : ℕ) (m : List ℕ) → Contains (rows_at others u) m → InLevels levels u m
  level_of u m h = let alike = maps_alike u in alike.back m (generator 289 (Contains (rows_at others u)) (other_rows u) m h)

  entry_of_list : (p : ℕ) (s : List ℕ) → Contains (rows_at states p) s → InEntries entries p s
  entry_of_list p s h = let alike = states_alike p in alike.back s (generator 17 (Contains (rows_at states p)) (state_rows p) s h)

  follow_step : (u v : ℕ) (assigns : List Assign) → Contains small.edges (edge u v (Do assigns)) → rule_3 small levels u v assigns → rule_3 small others u v assigns
  follow_step u v assigns contains rule m n h (words, simple, is) =
      let alike = maps_alike v in
      rw is (alike.there (step_map assigns words m)
      (stepped assigns (step_placed small formed u v assigns contains) words (simple_choice (unknown_count assigns) words simple) (rows_at levels u) (level_rows u)
      (InLevels levels v) (combinations 289 (Contains (rows_at levels v)) (level_rows v)) rule m (level_of u m h)))

  follow_call : (u v q : ℕ) (before : List Assign) → Contains small.edges (edge u v (Call q before)) → rule_4 small levels u v q before → rule_4 small others u v q before
  follow_call u v q before contains rule m callee words h g simple =
      let alike = maps_alike v in
      alike.there _
      (called before (call_placed small formed u v q before contains) words (simple_choice (unknown_count before) words simple) small.registers
      (slots_of small (owner_of small u)) (rows_at levels u) (rows_at levels (exit_of small q)) (level_rows u) (level_rows (exit_of small q)) (InLevels levels v)
      (combinations 289 (Contains (rows_at levels v)) (level_rows v)) (λ x y n i j step. one x y n i j step) m callee (level_of u m h) (level_of (exit_of small q) callee g))
    where
      one : (x y n : List ℕ) → Contains (rows_at levels u) x → Contains (rows_at levels (exit_of small q)) y → IsSimpleStep before x n
          → InLevels levels v (product (linear_extension small.registers (slots_of small (owner_of small u)) y) n)
      one x y n i j (given, plain, is) = rw is (rule x y given i j plain)

  follow_entry : (u v q : ℕ) (before : List Assign) → Contains small.edges (edge u v (Call q before)) → rule_5 small levels entries u q before
      → rule_5 small others states u q before
  follow_entry u v q before contains rule m n s h (words, simple, is) g =
      let alike = states_alike q in
      rw is (alike.there (apply (step_map before words m) s)
      (applied before (call_placed small formed u v q before contains) words (simple_choice (unknown_count before) words simple) (rows_at levels u)
      (rows_at entries (owner_of small u)) (level_rows u) (entry_rows (owner_of small u)) (InEntries entries q)
      (combinations 17 (Contains (rows_at entries q)) (entry_rows q)) rule m s (level_of u m h) (entry_of_list (owner_of small u) s g)))

  follow_claim : (i p : ℕ) (chain : List Assign) (a : List ℕ) → ArePlaced chain → rule_6 levels entries i p chain a → rule_6 others states i p chain a
  follow_claim i p chain a placed rule m n s h (words, simple, is) g =
      let solved = applied chain placed words (simple_choice (unknown_count chain) words simple) (rows_at levels i) (rows_at entries p) (level_rows i) (entry_rows p)
      (Solutions 17 (λ b. b ≡ a)) (solutions_are_module 17 (λ b. b ≡ a))
      (λ x y t at step in_entries. record {
        row = IsRow-vector _;
        zero_at = λ f same. ap (λ b. dot b (apply y t)) same ∙ rule x y t at step in_entries;
      }) m s (level_of i m h) (entry_of_list p s g) in
      ap (λ x. dot a (apply x s)) is ∙ solved.zero_at a refl

  pub rules_follow : RulesFollow small levels others entries states
  rules_follow = record {
    openings = λ p rule m simple. let alike = maps_alike (entry_of small p) in alike.there m (rule m simple);
    steps = follow_step;
    calls = follow_call;
    starts = λ rule v simple. let alike = states_alike small.start in alike.there v (rule v simple);
    enters = follow_entry;
    claims = follow_claim;
  }
