-- Pushing in turn.
use Rattle.std.proofs.Common.{◌≡◌, ℕ, ◌+◌, ◌<◌, inl, inr, is_err, true, List, [], ◌∷◌, Contains, All, length, take, get_or, Result, Ok, sym, subst, ◌∙◌, arith}
use Rattle.row_modules.specs.Modules.{AreRows, IsCombination, IsWithin}
use Rattle.row_modules.specs.Bases.{IsLeadingBasis}
use Rattle.row_modules.proofs.Laws.{combinations}
use Rattle.row_engine.specs.States.{State, rows_at, InModule, IsState}
use Rattle.row_engine.specs.Growth.{Grows, Queues, Takes}
use Rattle.row_engine.specs.Turns.{IsSound, Pushes, Grown}
use Rattle.row_engine.proofs.Members.{nothing_in, first_in, earlier_or_now, on_err, on_ok}
use Rattle.row_engine.proofs.InTurn.{grows_none, grows_more, grows_then, queues_none, queues_then}
use Rattle.row_engine.proofs.Working.{sound_with}

-- what a loop keeps
pub record GrownSoFar (n : ℕ) (states : ℕ → List ℕ → Type 0) (old new : State) (before after : ℕ) (P : Type 0) : Type 0 where
  pub grows : Grows n (λ w x. IsCombination n (states w) x) old new before after
  pub queues : Queues old new before after
  pub holds : P

pub grown_none : (n : ℕ) (states : ℕ → List ℕ → Type 0) (old : State) (before : ℕ) {P : Type 0} → P → GrownSoFar n states old old before before P
grown_none n states old before p = record { grows = grows_none n (λ w x. IsCombination n (states w) x) old before; queues = queues_none old before; holds = p }

-- where memory is wanting at once
pub grown_not : {X E : Type 0} (n : ℕ) (states : ℕ → List ℕ → Type 0) (old : State) (before : ℕ) {P : Type 0} (failed : Result X E) → is_err failed ≡ true → Grown n states old old failed before before P
grown_not n states old before failed fails = record { grows = grows_none n (λ w x. IsCombination n (states w) x) old before; queues = on_err _ failed fails; pushes = on_err _ failed fails }

-- rows that are offered, and that states span
pub grown_by : {X E : Type 0} {n : ℕ} {states offered : ℕ → List ℕ → Type 0} {old new : State} {result : Result X E} {before after : ℕ} {P : Type 0} → ((w : ℕ) (x : List ℕ) → offered w x → IsCombination n (states w) x)
    → (((w : ℕ) (x : List ℕ) → offered w x → InModule n new w x) → P) → Takes n offered old new result before after → Grown n states old new result before after P
grown_by {n = n} {states = states} {offered = offered} {old = old} {new = new} {result = result} {before = before} {after = after} less then takes = record {
  grows = grows_more n offered (λ w x. IsCombination n (states w) x) old new before after less takes.grows;
  queues = takes.queues;
  pushes = on_ok _ _ result then takes.taken;
}

pub grown_all : {X E : Type 0} {n : ℕ} {states : ℕ → List ℕ → Type 0} {old new : State} {before after : ℕ} {P Q : Type 0} {x : X} → (P → Q) → GrownSoFar n states old new before after P
    → Grown {X = X} {E = E} n states old new (Ok x) before after Q
grown_all then s = record { grows = s.grows; queues = s.queues; pushes = then s.holds }

pub grown_stays : {n : ℕ} {states : ℕ → List ℕ → Type 0} {old new : State} {before after : ℕ} {P Q : Type 0} → GrownSoFar n states old new before after P → (P → Q) → GrownSoFar n states old new before after Q
grown_stays s then = record { grows = s.grows; queues = s.queues; holds = then s.holds }

-- what was done before goes on
pub so_far : {X E : Type 0} {n : ℕ} {states : ℕ → List ℕ → Type 0} {old new : State} {before after : ℕ} {P : Type 0} {x : X} → Grown {X = X} {E = E} n states old new (Ok x) before after P → GrownSoFar n states old new before after P
so_far s = record { grows = s.grows; queues = s.queues; holds = s.pushes }

module _ {n : ℕ} {states : ℕ → List ℕ → Type 0} {old mid : State} {before between : ℕ} {P : Type 0} (are : (u : ℕ) → AreRows n (states u)) (all : All (IsLeadingBasis n) old.bases)
    (first : GrownSoFar n states old mid before between P) where
  pub grown_sound : IsSound n states old → IsSound n states mid
  grown_sound sound = sound_with n states old mid before between are all sound first.grows

  pub grown_state : (count : ℕ) → IsState n count old → IsState n count mid
  grown_state count is = record {
    nodes = first.grows.nodes ∙ is.nodes;
    marked = first.grows.marked ∙ is.marked;
    leading = first.grows.leading is.leading;
    numbers = λ v h. let b = first.queues.numbers (λ y k. let c = is.numbers y k in let d = is.nodes in omega arith) v h in let d = is.nodes in omega arith;
  }

  then_grows : (new : State) (after : ℕ) → Grows n (λ w x. IsCombination n (states w) x) mid new between after → Grows n (λ w x. IsCombination n (states w) x) old new before after
  then_grows new after next = grows_then n (λ w x. IsCombination n (states w) x) old mid new before between after (λ v x h. (combinations n (states v) (are v)).rows x h) all first.grows next

  module _ {X E : Type 0} {new : State} {after : ℕ} {Q R : Type 0} where
    pub grown_then : {x : X} → Grown {X = X} {E = E} n states mid new (Ok x) between after Q → (P → Q → R) → GrownSoFar n states old new before after R
    grown_then next then = record {
      grows = then_grows new after next.grows;
      queues = queues_then old mid new before between after first.grows.nodes first.queues next.queues;
      holds = then first.holds next.pushes;
    }

    pub grown_fails : {Y F : Type 0} {result : Result X E} → Grown n states mid new result between after Q → (failed : Result Y F) → is_err failed ≡ true → Grown n states old new failed before after R
    grown_fails next failed fails = record { grows = then_grows new after next.grows; queues = on_err _ failed fails; pushes = on_err _ failed fails }

-- rows in turn
module _ (n : ℕ) (makes : ℕ → ℕ → List ℕ → List ℕ → Type 0) (joins : ℕ → ℕ → ℕ → List ℕ → List ℕ → List ℕ → Type 0) where
  pub pushes_none : (s : State) (u : ℕ) → Pushes n makes joins s s u []
  pushes_none s u = record {
    alone = λ w v x h move. absurd (nothing_in v h);
    left = λ b w r y x h k move. absurd (nothing_in r h);
    right = λ a w r y x k h move. absurd (nothing_in y h);
  }

  pub pushes_more : (rows : List (List ℕ)) (i : ℕ) (y : List ℕ) (u : ℕ) (old mid new : State) → i < length rows → y ≡ get_or rows i y
      → ((w : ℕ) → IsWithin n (Contains (rows_at old w)) (Contains (rows_at mid w))) → ((w : ℕ) → IsWithin n (Contains (rows_at mid w)) (Contains (rows_at new w)))
      → Pushes n makes joins old mid u (take i rows) → Pushes n makes joins mid new u (y ∷ []) → Pushes n makes joins old new u (take (i + 1) rows)
  pushes_more rows i y u old mid new below is earlier later first next = record {
    alone = λ w v x h move. elim (earlier_or_now rows i y below is v h) [
      | inl k ↦ later w x (first.alone w v x k move)
      | inr e ↦ next.alone w v x (own v e) move
    ];
    left = λ b w r s x h c move. elim (earlier_or_now rows i y below is r h) [
      | inl k ↦ later w x (first.left b w r s x k c move)
      | inr e ↦ next.left b w r s x (own r e) (earlier b s c) move
    ];
    right = λ a w r s x c h move. elim (earlier_or_now rows i y below is s h) [
      | inl k ↦ later w x (first.right a w r s x c k move)
      | inr e ↦ next.right a w r s x (earlier a r c) (own s e) move
    ];
  } where
    own : (v : List ℕ) → v ≡ y → Contains (y ∷ []) v
    own v e = subst (Contains (y ∷ [])) (sym e) (first_in y [])

-- two steps, with the answer of the second
pub grown_both : {X E : Type 0} {n : ℕ} {states : ℕ → List ℕ → Type 0} {old mid new : State} {before between after : ℕ} {P Q R : Type 0} {result : Result X E} (are : (u : ℕ) → AreRows n (states u)) (all : All (IsLeadingBasis n) old.bases)
    (first : GrownSoFar n states old mid before between P) → Grown n states mid new result between after Q → (P → Q → R) → Grown n states old new result before after R
grown_both {n = n} {states = states} {old = old} {mid = mid} {new = new} {before = before} {between = between} {after = after} {result = result} are all first next then = record {
  grows = grows_then n (λ w x. IsCombination n (states w) x) old mid new before between after (λ v x h. (combinations n (states v) (are v)).rows x h) all first.grows next.grows;
  queues = on_ok _ _ result (λ q. queues_then old mid new before between after first.grows.nodes first.queues q) next.queues;
  pushes = on_ok _ _ result (then first.holds) next.pushes;
}
