-- Offers in turn.
use Rattle.std.proofs.Common.{◌≡◌, ℕ, ◌<◌, ◌+◌, ◌⊎◌, inl, inr, is_err, List, [], ◌∷◌, Contains, All, length, take, get_or, Result, Ok, true, refl, ◌∙◌, arith}
use Rattle.word_rows.specs.Rows.{lead}
use Rattle.row_modules.specs.Modules.{AreRows, Either}
use Rattle.row_modules.specs.Bases.{IsLeadingBasis}
use Rattle.row_modules.proofs.Laws.{spans_more, generator, within_from_generators, either_rows}
use Rattle.row_engine.specs.States.{State, rows_at, InModule}
use Rattle.row_engine.specs.Growth.{Offered, Grows, Queues, Takes}
use Rattle.row_engine.proofs.Members.{first_in, only_in, taken_in, now_taken, earlier_or_now, all_rows, on_err}

pub grows_none : (n : ℕ) (offered : ℕ → List ℕ → Type 0) (old : State) (before : ℕ) → Grows n offered old old before before
grows_none n offered old before = record {
  nodes = refl;
  marked = refl;
  leading = λ all. all;
  grown = λ u w h. h;
  only = λ u. spans_more n (Contains (rows_at old u)) (Either (Contains (rows_at old u)) (offered u)) (λ v h. inl h);
  frame = λ u v h m. h;
  kept = λ u k z. z;
  rises = omega arith;
  bounded = omega arith;
}

pub grows_more : (n : ℕ) (offered more : ℕ → List ℕ → Type 0) (old new : State) (before after : ℕ) → ((u : ℕ) (v : List ℕ) → offered u v → more u v)
    → Grows n offered old new before after → Grows n more old new before after
grows_more n offered more old new before after less g = record {
  nodes = g.nodes;
  marked = g.marked;
  leading = g.leading;
  grown = g.grown;
  only = λ u w h. spans_more n (Either (Contains (rows_at old u)) (offered u)) (Either (Contains (rows_at old u)) (more u))
      (λ v j. elim j [ inl l ↦ inl l | inr l ↦ inr (less u v l) ]) w (g.only u w h);
  frame = g.frame;
  kept = g.kept;
  rises = g.rises;
  bounded = g.bounded;
}

pub grows_then : (n : ℕ) (offered : ℕ → List ℕ → Type 0) (old mid new : State) (before between after : ℕ) → ((u : ℕ) → AreRows n (offered u)) → All (IsLeadingBasis n) old.bases
    → Grows n offered old mid before between → Grows n offered mid new between after → Grows n offered old new before after
grows_then n offered old mid new before between after rows all first next = record {
  nodes = next.nodes ∙ first.nodes;
  marked = next.marked ∙ first.marked;
  leading = λ leading. next.leading (first.leading leading);
  grown = λ u w h. next.grown u w (first.grown u w h);
  only = λ u w h.
      let good = either_rows n (Contains (rows_at old u)) (offered u) (all_rows n old.bases all u) (rows u) in
      within_from_generators n (Either (Contains (rows_at mid u)) (offered u)) (Either (Contains (rows_at old u)) (offered u)) good
      (λ v i. elim i [
        | inl k ↦ first.only u v (generator n (Contains (rows_at mid u)) (all_rows n mid.bases (first.leading all) u) v k)
        | inr k ↦ generator n (Either (Contains (rows_at old u)) (offered u)) good v (inr k)
      ]) w (next.only u w h);
  frame = λ u v h m. first.frame u v (next.frame u v h m) (next.kept u (lead v) m);
  kept = λ u k z. first.kept u k (next.kept u k z);
  rises = let a = first.rises in let b = next.rises in omega arith;
  bounded = let a = first.bounded in let b = next.bounded in omega arith;
}

pub queues_none : (old : State) (before : ℕ) → Queues old old before before
queues_none old before = record { queued = λ all. all; numbers = λ all. all; fewer = omega arith; counted = omega arith }

pub queues_then : (old mid new : State) (before between after : ℕ) → length mid.bases ≡ length old.bases → Queues old mid before between → Queues mid new between after → Queues old new before after
queues_then old mid new before between after nodes first next = record {
  queued = λ all. next.queued (first.queued all);
  numbers = λ all u h. let b = next.numbers (λ v k. let d = first.numbers all v k in omega arith) u h in omega arith;
  fewer = let a = first.fewer in let b = next.fewer in omega arith;
  counted = let a = first.counted in let b = next.counted in omega arith;
}

-- what a loop over offers keeps: offered are all that may be offered, and so_far what was
pub record TakenSoFar (n : ℕ) (offered so_far : ℕ → List ℕ → Type 0) (old new : State) (before after : ℕ) : Type 0 where
  pub grows : Grows n offered old new before after
  pub queues : Queues old new before after
  pub taken : (u : ℕ) (v : List ℕ) → so_far u v → InModule n new u v

pub taken_none : (n : ℕ) (offered so_far : ℕ → List ℕ → Type 0) (old : State) (before : ℕ) → ((u : ℕ) (v : List ℕ) → so_far u v → ⊥) → TakenSoFar n offered so_far old old before before
taken_none n offered so_far old before nothing = record {
  grows = grows_none n offered old before;
  queues = queues_none old before;
  taken = λ u v h. absurd (nothing u v h);
}

-- where memory is wanting before anything is offered
pub takes_not : {X E : Type 0} (n : ℕ) (offered : ℕ → List ℕ → Type 0) (old : State) (before : ℕ) (failed : Result X E) → is_err failed ≡ true → Takes n offered old old failed before before
takes_not n offered old before failed fails = record { grows = grows_none n offered old before; queues = on_err _ failed fails; taken = on_err _ failed fails }

pub taken_fails : {X E : Type 0} {n : ℕ} {offered so_far : ℕ → List ℕ → Type 0} {old new : State} {before after : ℕ} → TakenSoFar n offered so_far old new before after
    → (failed : Result X E) → is_err failed ≡ true → Takes n offered old new failed before after
taken_fails t failed fails = record { grows = t.grows; queues = on_err _ failed fails; taken = on_err _ failed fails }

-- one turn: now are the rows that it offers
module _ (n : ℕ) (offered so_far now more : ℕ → List ℕ → Type 0) (old mid new : State) (before between after : ℕ)
    (rows : (u : ℕ) → AreRows n (offered u)) (all : All (IsLeadingBasis n) old.bases) (less : (u : ℕ) (v : List ℕ) → now u v → offered u v)
    (first : TakenSoFar n offered so_far old mid before between) where
  pub turn_grows : Grows n now mid new between after → Grows n offered old new before after
  turn_grows grown = grows_then n offered old mid new before between after rows all first.grows (grows_more n now offered mid new between after less grown)

  pub turn_takes : ((u : ℕ) (v : List ℕ) → more u v → so_far u v ⊎ now u v) → {X E : Type 0} (x : X) → Takes {X = X} {E = E} n now mid new (Ok x) between after → TakenSoFar n offered more old new before after
  turn_takes either x next = record {
    grows = turn_grows next.grows;
    queues = queues_then old mid new before between after first.grows.nodes first.queues next.queues;
    taken = λ u v h. elim (either u v h) [ inl k ↦ next.grows.grown u v (first.taken u v k) | inr k ↦ next.taken u v k ];
  }

  pub turn_fails : {X Y E : Type 0} (result : Result X E) (failed : Result Y E) → is_err failed ≡ true → Takes n now mid new result between after → Takes n offered old new failed before after
  turn_fails result failed is next = record { grows = turn_grows next.grows; queues = on_err _ failed is; taken = on_err _ failed is }

pub all_taken : {X E : Type 0} (x : X) (n : ℕ) (offered so_far : ℕ → List ℕ → Type 0) (old new : State) (before after : ℕ) → ((u : ℕ) (v : List ℕ) → offered u v → so_far u v)
    → TakenSoFar n offered so_far old new before after → Takes {X = X} {E = E} n offered old new (Ok x) before after
all_taken x n offered so_far old new before after all t = record { grows = t.grows; queues = t.queues; taken = λ u v h. t.taken u v (all u v h) }

-- a loop over rows
module _ (n to : ℕ) (rows : List (List ℕ)) (i : ℕ) (x : List ℕ) (below : i < length rows) (is : x ≡ get_or rows i x) where
  pub offered_less : (u : ℕ) (v : List ℕ) → Offered n to (x ∷ []) u v → Offered n to rows u v
  offered_less u v h = (h.0, h.1, let e = only_in x v h.2 in taken_in rows (i + 1) v (rw e (now_taken rows i x below is)))

  pub offered_either : (u : ℕ) (v : List ℕ) → Offered n to (take (i + 1) rows) u v → Offered n to (take i rows) u v ⊎ Offered n to (x ∷ []) u v
  offered_either u v h = elim (earlier_or_now rows i x below is v h.2) [ inl k ↦ inl (h.0, h.1, k) | inr e ↦ inr (h.0, h.1, rw e (first_in x [])) ]
