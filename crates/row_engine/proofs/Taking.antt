-- What offering one row to a node does.
use Rattle.std.proofs.Common.{◌≡◌, ℕ, ◌<◌, ◌+◌, ◌≤◌, inl, inr, length-append, Bool, IsTrue, IsFalse, List, [], ◌∷◌, ◌++◌, Contains, length, get_or, set, slice_index, Result, Ok, refl, ap, sym, subst, ◌∙◌, arith}
use Rattle.std.proofs.lemmas.Bool.{cases_eq}
use Rattle.std.proofs.Math.ListN.{length-set}
use Rattle.std.proofs.lemmas.List.{get_or-set_same, get_or-set_other, get_or_default}
use Rattle.std.proofs.lemmas.List.Elements.{All-set, Contains-append_left, Contains-append_right, Contains-append_cases}
use Rattle.std.proofs.lemmas.List.Sums.{sum_by-set}
use Rattle.word_rows.specs.Rows.{lead, IsRow}
use Rattle.row_modules.specs.Modules.{Either, IsCombination, IsWithin}
use Rattle.row_modules.specs.Bases.{IsLeadingBasis, basis_length}
use Rattle.row_modules.proofs.Laws.{spans_more, first_or_later}
use Rattle.lead_basis.specs.Inserts.{Adds}
use Rattle.lead_basis.specs.Marks.{Writes}
use Rattle.row_engine.specs.States.{state, InModule, AreQueued}
use Rattle.row_engine.specs.Growth.{Offered, Grows, Queues}
use Rattle.row_engine.proofs.Members.{first_in, only_in}

-- an item of a list, and the list with another one there
module _ {X : Type 0} (old : List X) (to : ℕ) (item new d : X) (within : to < length old) (is : item ≡ get_or old to item) where
  was : get_or old to d ≡ item
  was = get_or_default old to d item within ∙ sym is

  -- a fact of each place, where it holds of the old and of the new item at the one
  each_place : (F : ℕ → X → X → Type 0) → F to item new → ((v : ℕ) → (v ≡ to → ⊥) → F v (get_or old v d) (get_or old v d))
      → (v : ℕ) → F v (get_or old v d) (get_or (set old to new) v d)
  each_place F here same v = elim (cases_eq v to) [
    | inl e ↦ rw e (subst (λ y. F to (get_or old to d) y) (sym (get_or-set_same old to new d within)) (subst (λ x. F to x new) (sym was) here))
    | inr other ↦ subst (F v (get_or old v d)) (sym (get_or-set_other old to v new d other)) (same v other)
  ]

module _ (n : ℕ) (bases : List (List (List ℕ))) (marks : List (List ℕ)) (queue : List ℕ) (to : ℕ) (row : List ℕ) (basis new : List (List ℕ)) (own written : List ℕ)
    (within : to < length bases) (marked : length marks ≡ length bases) (is : basis ≡ get_or bases to basis) (own_is : own ≡ get_or marks to own) (is_row : IsRow n row) where
  inside : to < length marks
  inside = omega arith

  rows_were : get_or bases to [] ≡ basis
  rows_were = was bases to basis new [] within is

  rows_are : get_or (set bases to new) to [] ≡ new
  rows_are = get_or-set_same bases to new [] within

  marks_were : get_or marks to [] ≡ own
  marks_were = was marks to own written [] inside own_is

  marks_are : get_or (set marks to written) to [] ≡ written
  marks_are = get_or-set_same marks to written [] inside

  module _ {E : Type 0} (result : Result Bool E) (before after : ℕ) (adds : Adds n basis row new result before after) (writes : Writes basis new result own written) where
    pub grows_one : (entered : List ℕ) → Grows n (Offered n to (row ∷ [])) (state bases marks queue) (state (set bases to new) (set marks to written) entered) before after
    grows_one entered = record {
      nodes = length-set bases to new;
      marked = length-set marks to written;
      leading = λ all. All-set (IsLeadingBasis n) bases to new adds.between.basis all;
      grown = each_place bases to basis new [] within is (λ v a b. IsWithin n (Contains a) (Contains b)) adds.between.kept (λ v other w h. h);
      only = each_place bases to basis new [] within is (λ v a b. IsWithin n (Contains b) (Either (Contains a) (Offered n to (row ∷ []) v)))
          (λ w h. spans_more n (Contains (row ∷ basis)) (Either (Contains basis) (Offered n to (row ∷ []) to))
          (λ x i. elim (first_or_later row basis x i) [ inl e ↦ inr (rw e (refl, is_row, first_in row [])) | inr k ↦ inl k ]) w (adds.between.within w h))
          (λ v other. spans_more n (Contains (get_or bases v [])) (Either (Contains (get_or bases v [])) (Offered n to (row ∷ []) v)) (λ x h. inl h));
      frame = λ u. each_place bases to basis new [] within is
          (λ v a b. (x : List ℕ) → Contains b x → slice_index (get_or (set marks to written) v []) (lead x) ≡ 0 → Contains a x)
          (λ x h m. writes.frame x h (subst (λ y. slice_index y (lead x) ≡ 0) marks_are m)) (λ v other x h m. h) u;
      kept = each_place marks to own written [] inside own_is (λ v a b. (k : ℕ) → slice_index b k ≡ 0 → slice_index a k ≡ 0) writes.kept (λ v other k z. z);
      rises = adds.never_falls;
      bounded = let e = sum_by-set basis_length bases to new [] within in let f = ap basis_length rows_were in let b = adds.bounded in omega arith;
    }

  module _ {E : Type 0} (grew : Bool) (before after : ℕ) (adds : Adds {E = E} n basis row new (Ok grew) before after) (writes : Writes {E = E} basis new (Ok grew) own written) where
    pub taken_one : (entered : List ℕ) (u : ℕ) (v : List ℕ) → Offered n to (row ∷ []) u v → InModule n (state (set bases to new) (set marks to written) entered) u v
    taken_one entered u v h =
        let e = h.0 in let f = only_in row v h.2 in rw (e, f) (subst (λ rows. IsCombination n (Contains rows) row) (sym rows_are) adds.added)

    counted_one : length new + before ≤ length basis + after
    counted_one = adds.counts_rows

    -- the marks of each node are 0 unless it is in the queue, where that holds of the one node
    queued_so : (entered : List ℕ) → ((u : ℕ) → (u ≡ to → ⊥) → (Contains entered u → ⊥) → Contains queue u → ⊥)
        → ((Contains entered to → ⊥) → AreQueued (state bases marks queue) → (k : ℕ) → slice_index written k ≡ 0)
        → AreQueued (state bases marks queue) → AreQueued (state (set bases to new) (set marks to written) entered)
    queued_so entered less here all u out = elim (cases_eq u to) [
      | inl e ↦ λ k. subst (λ y. slice_index y k ≡ 0) (sym (ap (λ v. get_or (set marks to written) v []) e ∙ marks_are)) (here (λ c. out (subst (Contains entered) (sym e) c)) all k)
      | inr other ↦ λ k. subst (λ y. slice_index y k ≡ 0) (sym (get_or-set_other marks to u written [] other)) (all u (λ c. less u other out c) k)
    ]

    own_zero : AreQueued (state bases marks queue) → (Contains queue to → ⊥) → (k : ℕ) → slice_index own k ≡ 0
    own_zero all out k = subst (λ y. slice_index y k ≡ 0) marks_were (all to out k)

    module _ (queued : AreQueued (state bases marks queue) → AreQueued (state (set bases to new) (set marks to written) queue)) where
      stays : Queues (state bases marks queue) (state (set bases to new) (set marks to written) queue) before after
      stays = record {
        queued = queued;
        numbers = λ all. all;
        fewer = let e = sum_by-set basis_length bases to new [] within in let f = ap basis_length rows_were in let b = adds.bounded in let r = adds.never_falls in omega arith;
        counted = let e = sum_by-set length bases to new [] within in let f = ap length rows_were in let c = counted_one in omega arith;
      }

    -- the module didn't grow
    pub stays_same : IsFalse grew → Queues (state bases marks queue) (state (set bases to new) (set marks to written) queue) before after
    stays_same quiet = stays (queued_so queue (λ u other out c. out c) (λ out all k. rw (writes.quiet quiet) (own_zero all out k)))

    -- the node was in the queue
    pub stays_in : (((k : ℕ) → slice_index own k ≡ 0) → ⊥) → Queues (state bases marks queue) (state (set bases to new) (set marks to written) queue) before after
    stays_in some = stays (queued_so queue (λ u other out c. out c) (λ out all k. absurd (some (own_zero all out))))

    -- the node enters the queue
    pub enters : IsTrue grew → Queues (state bases marks queue) (state (set bases to new) (set marks to written) (queue ++ to ∷ [])) before after
    enters gain = record {
      queued = queued_so (queue ++ to ∷ []) (λ u other out c. out (Contains-append_left queue (to ∷ []) u c)) (λ out all k. absurd (out (Contains-append_right queue (to ∷ []) to (first_in to []))));
      numbers = λ all u c. elim (Contains-append_cases queue (to ∷ []) u c) [ inl k ↦ all u k | inr k ↦ let e = only_in to u k in let b = within in omega arith ];
      fewer =
          let e = sum_by-set basis_length bases to new [] within in let f = ap basis_length rows_were in let b = adds.bounded in let r = adds.counts_growth gain in
          let l = length-append queue (to ∷ []) in omega arith;
      counted = let e = sum_by-set length bases to new [] within in let f = ap length rows_were in let c = counted_one in omega arith;
    }
