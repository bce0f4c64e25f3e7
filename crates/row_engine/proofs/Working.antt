-- One turn of the loop over queued nodes, and its end.
use Rattle.std.proofs.Common.{◌≡◌, ℕ, ◌<◌, ◌⊎◌, inl, inr, List, [], ◌∷◌, ◌++◌, Contains, All, length, map, get_or, set, slice_index, ap, sym, subst, ◌∙◌, arith}
use Rattle.std.proofs.lemmas.Bool.{cases_eq}
use Rattle.std.proofs.Math.ListN.{length-set}
use Rattle.std.proofs.lemmas.List.{get_or-set_same, get_or-set_other}
use Rattle.std.proofs.lemmas.List.Elements.{Contains-append_left, Contains-append_right, Contains-append_cases}
use Rattle.word_rows.specs.Rows.{lead}
use Rattle.row_modules.specs.Modules.{AreRows, Either, IsCombination}
use Rattle.row_modules.specs.Bases.{IsLeadingBasis}
use Rattle.row_modules.proofs.Laws.{generator, within_from_generators}
use Rattle.row_engine.specs.States.{State, state, rows_at, mark_at, IsUnmarkedAt, InModule, AreQueued, IsState}
use Rattle.row_engine.specs.Growth.{Grows, Queues}
use Rattle.row_engine.specs.Turns.{AreChanged, IsSound, Pushes, IsClosed, IsDone, IsWorking, Works}
use Rattle.row_engine.proofs.Members.{nothing_in, first_in, only_in, map_in, map_out, all_rows}

-- modules that grow by combinations of states alone
pub sound_with : (n : ℕ) (states : ℕ → List ℕ → Type 0) (old new : State) (before after : ℕ) → ((u : ℕ) → AreRows n (states u)) → All (IsLeadingBasis n) old.bases
    → IsSound n states old → Grows n (λ w x. IsCombination n (states w) x) old new before after → IsSound n states new
sound_with n states old new before after are all sound grows u v h =
    within_from_generators n (Either (Contains (rows_at old u)) (λ x. IsCombination n (states u) x)) (states u) (are u)
    (λ x i. elim i [ inl k ↦ sound u x (generator n (Contains (rows_at old u)) (all_rows n old.bases all u) x k) | inr k ↦ k ]) v (grows.only u v h)

module _ (n count : ℕ) (makes : ℕ → ℕ → List ℕ → List ℕ → Type 0) (joins : ℕ → ℕ → ℕ → List ℕ → List ℕ → List ℕ → Type 0) (states : ℕ → List ℕ → Type 0)
    (are : (u : ℕ) → AreRows n (states u)) where
  module _ (done : List (ℕ × List ℕ)) (bases : List (List (List ℕ))) (marks : List (List ℕ)) (rest : List ℕ) (u : ℕ) (changed : List (List ℕ)) (zeros : List ℕ)
      (w : IsWorking n count makes joins states done (state bases marks (rest ++ u ∷ []))) (zeros_are : (k : ℕ) → slice_index zeros k ≡ 0) where
    abbrev cleared : State
    cleared = state bases (set marks u zeros) rest

    pub node_in : u < count
    node_in = w.is.numbers u (Contains-append_right rest (u ∷ []) u (first_in u []))

    marks_below : u < length marks
    marks_below = let a = node_in in let b = w.is.marked in omega arith

    mark_here : (k : ℕ) → mark_at cleared u k ≡ 0
    mark_here k = ap (λ y. slice_index y k) (get_or-set_same marks u zeros [] marks_below) ∙ zeros_are k

    mark_elsewhere : (v k : ℕ) → (v ≡ u → ⊥) → mark_at cleared v k ≡ slice_index (get_or marks v []) k
    mark_elsewhere v k other = ap (λ y. slice_index y k) (get_or-set_other marks u v zeros [] other)

    pub cleared_is : IsState n count cleared
    cleared_is = record {
      nodes = w.is.nodes;
      marked = length-set marks u zeros ∙ w.is.marked;
      leading = w.is.leading;
      numbers = λ v h. w.is.numbers v (Contains-append_left rest (u ∷ []) v h);
    }

    cleared_queued : AreQueued cleared
    cleared_queued v out k = elim (cases_eq v u) [
      | inl e ↦ subst (λ y. mark_at cleared y k ≡ 0) (sym e) (mark_here k)
      | inr other ↦
          mark_elsewhere v k other
          ∙ w.queued v (λ h. elim (Contains-append_cases rest (u ∷ []) v h) [ inl c ↦ out c | inr c ↦ other (only_in u v c) ]) k
    ]

    -- what is pushed in this turn lies in the module, and so it is sound
    module _ (these : AreChanged (get_or bases u []) (get_or marks u []) changed) where
      changed_in : (v : List ℕ) → Contains changed v → IsCombination n (Contains (get_or bases u [])) v
      changed_in v h = generator n (Contains (get_or bases u [])) (all_rows n bases w.is.leading u) v (these.only v h)

      pub changed_sound : (v : List ℕ) → Contains changed v → IsCombination n (states u) v
      changed_sound v h = w.sound u v (changed_in v h)

      -- the turn
      module _ (new : State) (before after : ℕ) (grows : Grows n (λ x y. IsCombination n (states x) y) cleared new before after) (queues : Queues cleared new before after)
          (pushes : Pushes n makes joins cleared new u changed) where
        abbrev now_done : List (ℕ × List ℕ)
        now_done = map (λ v. (u, v)) changed ++ done

        pushed_now : (v : List ℕ) → Contains changed v → IsDone now_done u v
        pushed_now v h = Contains-append_left (map (λ x. (u, x)) changed) done (u, v) (map_in (λ x. (u, x)) changed v h)

        pushed_before : (x : ℕ) (v : List ℕ) → IsDone done x v → IsDone now_done x v
        pushed_before x v h = Contains-append_right (map (λ y. (u, y)) changed) done (x, v) h

        -- a row that was pushed is one of this turn's, or an earlier one
        cases : (x : ℕ) (v : List ℕ) → IsDone now_done x v → ((x ≡ u) × Contains changed v) ⊎ IsDone done x v
        cases x v h = elim (Contains-append_cases (map (λ y. (u, y)) changed) done (x, v) h) [
          | inl k ↦
              let (y, c, e) = map_out (λ z. (u, z)) changed (x, v) k in
              let f : v ≡ y = ap (λ (p : ℕ × List ℕ). p.1) e in
              inl (ap (λ (p : ℕ × List ℕ). p.0) e, subst (Contains changed) (sym f) c)
          | inr k ↦ inr k
        ]

        -- all that was pushed lay in the modules when the turn began
        was_in : (x : ℕ) (v : List ℕ) → IsDone now_done x v → InModule n cleared x v
        was_in x v h = elim (cases x v h) [
          | inl k ↦ let e = k.0 in rw e (changed_in v k.1)
          | inr k ↦ w.done_in x v k
        ]

        known_now : (x : ℕ) (v : List ℕ) → Contains (rows_at new x) v → IsUnmarkedAt new x v → IsDone now_done x v
        known_now x v h m =
            let old : Contains (get_or bases x []) v = grows.frame x v h m in
            let was : mark_at cleared x (lead v) ≡ 0 = grows.kept x (lead v) m in
            elim (cases_eq x u) [
              | inl e ↦
                  subst (λ y. IsDone now_done y v) (sym e)
                  (let here : Contains (get_or bases u []) v = subst (λ y. Contains (get_or bases y []) v) e old in
                  elim (these.all v here) [ inl c ↦ pushed_now v c | inr z ↦ pushed_before u v (w.known u v here z) ])
              | inr other ↦ pushed_before x v (w.known x v old (sym (mark_elsewhere x (lead v) other) ∙ was))
            ]

        closed_now : IsClosed n makes joins (IsDone now_done) new
        closed_now = record {
          alone = λ x y v z d move. elim (cases x v d) [
            | inl k ↦ pushes.alone y v z k.1 (subst (λ (i : ℕ). makes i y v z) k.0 move)
            | inr k ↦ grows.grown y z (w.closed.alone x y v z k move)
          ];
          pairs = λ a b y l r z d e move. elim (cases a l d) [
            | inl k ↦ pushes.left b y l r z k.1 (was_in b r e) (subst (λ (i : ℕ). joins i b y l r z) k.0 move)
            | inr k ↦ elim (cases b r e) [
              | inl q ↦ pushes.right a y l r z (w.done_in a l k) q.1 (subst (λ (i : ℕ). joins a i y l r z) q.0 move)
              | inr q ↦ grows.grown y z (w.closed.pairs a b y l r z k q move)
            ]
          ];
        }

        pub still_working : IsWorking n count makes joins states now_done new
        still_working = record {
          is = record {
            nodes = grows.nodes ∙ w.is.nodes;
            marked = grows.marked ∙ cleared_is.marked;
            leading = grows.leading w.is.leading;
            numbers = λ x h. let b = queues.numbers (λ y k. let c = cleared_is.numbers y k in let d = w.is.nodes in omega arith) x h in let d = w.is.nodes in omega arith;
          };
          sound = sound_with n states cleared new before after are w.is.leading w.sound grows;
          queued = queues.queued cleared_queued;
          known = known_now;
          done_in = λ x v h. grows.grown x v (was_in x v h);
          closed = closed_now;
        }

        pub turned : Works n count makes joins states new
        turned = record { done = now_done; working = still_working }

  -- the start, where each row has a mark
  pub started : (s : State) → IsState n count s → IsSound n states s → AreQueued s → ((u : ℕ) (v : List ℕ) → Contains (rows_at s u) v → IsUnmarkedAt s u v → ⊥) → Works n count makes joins states s
  started s is sound queued fresh = record {
    done = [];
    working = record {
      is = is;
      sound = sound;
      queued = queued;
      known = λ u v h m. absurd (fresh u v h m);
      done_in = λ u v h. absurd (nothing_in (u, v) h);
      closed = record {
        alone = λ u y v z d move. absurd (nothing_in (u, v) d);
        pairs = λ a b y l r z d e move. absurd (nothing_in (a, l) d);
      };
    };
  }

  -- the end, where no node is queued
  pub closed_at_end : (s : State) → s.queue ≡ [] → Works n count makes joins states s → IsClosed n makes joins (λ u v. Contains (rows_at s u) v) s
  closed_at_end s empty works =
      let w = works.working in
      let clear : (u : ℕ) (k : ℕ) → mark_at s u k ≡ 0 = λ u k. w.queued u (λ h. nothing_in u (subst (λ q. Contains q u) empty h)) k in
      record {
        alone = λ u y v z h move. w.closed.alone u y v z (w.known u v h (clear u (lead v))) move;
        pairs = λ a b y l r z h k move. w.closed.pairs a b y l r z (w.known a l h (clear a (lead l))) (w.known b r k (clear b (lead r))) move;
      }
