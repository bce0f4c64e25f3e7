-- The states of points: at a head, behind one edge more, and what vanishes on them.
use Rattle.std.proofs.Common.{◌≡◌, ℕ, List, [], ◌++◌, Contains, All, refl, ap, sym, ◌∙◌, ◌↔◌}
use Rattle.std.proofs.lemmas.List.Elements.{All-contains, All-contains_itself, All-weaker}
use Rattle.word_rows.specs.Rows.{dot}
use Rattle.row_modules.specs.Modules.{AreRows, IsCombination, SameModule}
use Rattle.row_modules.specs.Maps.{Products}
use Rattle.row_modules.specs.Forms.{Solutions}
use Rattle.row_modules.proofs.Laws.{combinations, generator, mapped_into, module_least, solutions_are_module, vanishes_on_module, within_from_generators}
use Rattle.map_modules.specs.Matrices.{product, apply}
use Rattle.map_modules.proofs.Lemmas.{IsRow-vector, apply-product, product-product, product-identity_first, apply_second}
use Rattle.affine_prog.specs.declared.Assign.{Assign}
use Rattle.affine_prog.specs.Assignments.{unknown_count, Choice, matrix_of}
use Rattle.affine_prog.specs.LevelPaths.{step_map}
use Rattle.affine_prog.specs.Spans.{rows_at}
use Rattle.affine_prog.proofs.Lemmas.{ArePlaced}
use Rattle.affine_prog.proofs.Lemmas.{matrix_of-append, Choice-append, Choice-parts}
use Rattle.merged_heads.specs.Pushes.{MakesOf}
use Rattle.proof_rules.specs.Rules.{rule_6}
use Rattle.proof_rules.specs.Laws.{AreRowLists}
use Rattle.proof_rules.proofs.Lemmas.{simple_choice, applied}
use Rattle.proof_verify.specs.Points.{IsPointState, HasPointStates}

module _ (levels entries : List (List (List ℕ))) (level_rows : AreRowLists 289 levels) (entry_rows : AreRowLists 17 entries) (i p : ℕ) where
  point_rows : (chain : List Assign) → AreRows 17 (IsPointState levels entries i p chain)
  point_rows chain v s = let e = s.is in rw e (IsRow-vector _)

  -- at a head: what its rows make of the entry rows
  pub at_head : (rows : List (List ℕ)) → AreRows 17 (Contains rows) → SameModule 17 (Contains rows) (Products apply (Contains (rows_at levels i)) (Contains (rows_at entries p)))
      → HasPointStates levels entries i p [] rows
  at_head rows are same = record {
    are_rows = are;
    same = record {
      there = λ v h. within_from_generators 17 (Products apply (Contains (rows_at levels i)) (Contains (rows_at entries p))) (IsPointState levels entries i p []) (point_rows [])
          (λ w m. generator 17 (IsPointState levels entries i p []) (point_rows []) w (record {
            words = [];
            map = m.left;
            entered = m.right;
            choice = record { width = refl; words = refl };
            in_levels = m.member_left;
            in_entries = m.member_right;
            is = m.is ∙ ap (λ x. apply x m.right) (sym (product-identity_first m.left (level_rows i m.left m.member_left)));
          })) v (same.there v h);
      back = within_from_generators 17 (IsPointState levels entries i p []) (Contains rows) are
          (λ w s. same.back w (generator 17 (Products apply (Contains (rows_at levels i)) (Contains (rows_at entries p)))
          (λ x m. let e = m.is in rw e (IsRow-vector _)) w (record {
            left = s.map;
            right = s.entered;
            member_left = s.in_levels;
            member_right = s.in_entries;
            is = s.is ∙ ap (λ x. apply x s.entered) (product-identity_first s.map (level_rows i s.map s.in_levels));
          })));
    };
  }

  -- one step more
  two_steps : (chain assigns : List Assign) (words more m s : List ℕ) → Choice chain words
      → apply (matrix_of assigns more) (apply (step_map chain words m) s) ≡ apply (step_map (chain ++ assigns) (words ++ more) m) s
  two_steps chain assigns words more m s choice =
      sym (apply-product (matrix_of assigns more) (step_map chain words m) s)
      ∙ ap (λ x. apply x s) (product-product (matrix_of assigns more) (matrix_of chain words) m ∙ ap (λ b. product b m) (sym (matrix_of-append chain assigns words more choice.width)))

  pub behind_edge : (chain assigns : List Assign) (rows pushed : List (List ℕ)) → AreRows 17 (Contains pushed) → HasPointStates levels entries i p chain rows
      → SameModule 17 (Contains pushed) (MakesOf assigns rows) → HasPointStates levels entries i p (chain ++ assigns) pushed
  behind_edge chain assigns rows pushed are so_far same = record {
    are_rows = are;
    same = record {
      there = λ v h. within_from_generators 17 (MakesOf assigns rows) (IsPointState levels entries i p (chain ++ assigns)) next_rows made_in v (same.there v h);
      back = within_from_generators 17 (IsPointState levels entries i p (chain ++ assigns)) (Contains pushed) are (λ w s. same.back w (generator 17 (MakesOf assigns rows) (λ x m. let e = m.is in rw e (IsRow-vector _)) w (state_made w s)));
    };
  } where
    next_rows : AreRows 17 (IsPointState levels entries i p (chain ++ assigns))
    next_rows = point_rows (chain ++ assigns)

    made_in : (w : List ℕ) → MakesOf assigns rows w → IsCombination 17 (IsPointState levels entries i p (chain ++ assigns)) w
    made_in w made =
        let (more, chosen, by) = made.member_left in
        let e : w ≡ apply (matrix_of assigns more) made.right = made.is ∙ ap (λ b. apply b made.right) by in
        rw e (mapped_into 17 17 (apply (matrix_of assigns more)) (record { rows = λ x r. IsRow-vector _; sum = apply_second (matrix_of assigns more) })
        (IsPointState levels entries i p chain) (IsCombination 17 (IsPointState levels entries i p (chain ++ assigns))) (point_rows chain) (combinations 17 (IsPointState levels entries i p (chain ++ assigns)) next_rows)
        (λ x s. generator 17 (IsPointState levels entries i p (chain ++ assigns)) next_rows (apply (matrix_of assigns more) x) (record {
          words = s.words ++ more;
          map = s.map;
          entered = s.entered;
          choice = Choice-append chain assigns s.words more s.choice chosen;
          in_levels = s.in_levels;
          in_entries = s.in_entries;
          is = ap (apply (matrix_of assigns more)) s.is ∙ two_steps chain assigns s.words more s.map s.entered s.choice;
        })) made.right (so_far.same.there made.right made.member_right))

    state_made : (w : List ℕ) → (IsPointState levels entries i p (chain ++ assigns)) w → MakesOf assigns rows w
    state_made w s =
        let parts = Choice-parts chain assigns s.words s.choice in
        let before = apply (step_map chain parts.first s.map) s.entered in record {
          left = matrix_of assigns parts.second;
          right = before;
          member_left = (parts.second, parts.second_choice, refl);
          member_right = so_far.same.back before (generator 17 (IsPointState levels entries i p chain) (point_rows chain) before (record {
            words = parts.first;
            map = s.map;
            entered = s.entered;
            choice = parts.first_choice;
            in_levels = s.in_levels;
            in_entries = s.in_entries;
            is = refl;
          }));
          is = s.is ∙ ap (λ ws. apply (step_map (chain ++ assigns) ws s.map) s.entered) (sym parts.both)
              ∙ sym (two_steps chain assigns parts.first parts.second s.map s.entered parts.first_choice);
        }

  -- rule 6 is tried on the rows that generate the states
  pub tried_on_rows : (chain : List Assign) (rows : List (List ℕ)) (a : List ℕ) → ArePlaced chain → HasPointStates levels entries i p chain rows
      → All (λ v. dot a v ≡ 0) rows ↔ rule_6 levels entries i p chain a
  tried_on_rows chain rows a placed states = (
    λ all m n s h (words, simple, is) g.
        let v = apply (step_map chain words m) s in
        let in_module = states.same.back v (generator 17 (IsPointState levels entries i p chain) (point_rows chain) v (record {
          words = words;
          map = m;
          entered = s;
          choice = simple_choice (unknown_count chain) words simple;
          in_levels = h;
          in_entries = g;
          is = refl;
        })) in
        ap (λ x. dot a (apply x s)) is ∙ vanishes_on_module 17 (Contains rows) states.are_rows a (λ w k. All-contains (λ x. dot a x ≡ 0) rows w all k) v in_module,
    λ rule. All-weaker (Contains rows) (λ v. dot a v ≡ 0)
        (λ v k. (module_least 17 (Solutions 17 (λ b. b ≡ a)) (solutions_are_module 17 (λ b. b ≡ a)) (IsPointState levels entries i p chain)
        (λ w s. let e = s.is in rw e (applied chain placed s.words s.choice (rows_at levels i) (rows_at entries p) (level_rows i) (entry_rows p)
        (Solutions 17 (λ b. b ≡ a)) (solutions_are_module 17 (λ b. b ≡ a))
        (λ m n x h step g. record { row = IsRow-vector _; zero_at = λ f same. ap (λ b. dot b (apply n x)) same ∙ rule m n x h step g })
        s.map s.entered (generator 289 (Contains (rows_at levels i)) (level_rows i) s.map s.in_levels)
        (generator 17 (Contains (rows_at entries p)) (entry_rows p) s.entered s.in_entries)))
        v (states.same.there v (generator 17 (Contains rows) states.are_rows v k))).zero_at a refl)
        rows (All-contains_itself rows),
  )
