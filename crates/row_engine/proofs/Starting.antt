-- Where the loop starts: rows offered to nodes whose modules are zero.
use Rattle.std.proofs.Common.{◌≡◌, ℕ, zero, suc, ◌+◌, ◌≤◌, List, [], Contains, All, length, get_or, slice_index, replicate, sym, subst, refl, ◌∙◌, arith}
use Rattle.std.proofs.lemmas.List.{length-replicate}
use Rattle.std.proofs.lemmas.List.Elements.{All-replicate}
use Rattle.std.proofs.lemmas.List.Sums.{sum_by-cons}
use Rattle.word_rows.proofs.Laws.{get_or-zeros}
use Rattle.row_modules.specs.Modules.{AreRows, IsCombination}
use Rattle.row_modules.specs.Bases.{IsLeadingBasis, basis_length}
use Rattle.row_modules.proofs.Laws.{spans_more}
use Rattle.row_engine.specs.States.{State, state, rows_at, IsUnmarkedAt, AreQueued, AreNodes, IsState, begin, total, row_count}
use Rattle.row_engine.specs.Growth.{Grows, Queues}
use Rattle.row_engine.specs.Turns.{IsSound}
use Rattle.row_engine.proofs.Members.{nothing_in}
use Rattle.row_engine.proofs.Working.{sound_with}

rows_none : (count u : ℕ) → rows_at (state (replicate count []) [] []) u ≡ []
rows_none zero u = refl
rows_none (suc count) zero = refl
rows_none (suc count) (suc u) = rows_none count u

marks_none : (n count u k : ℕ) → slice_index (get_or (replicate count (replicate n 0)) u []) k ≡ 0
marks_none n zero u k = refl
marks_none n (suc count) zero k = get_or-zeros n k
marks_none n (suc count) (suc u) k = marks_none n count u k

no_total : (count : ℕ) → total (replicate count []) ≡ 0
no_total zero = refl
no_total (suc count) = let e = sum_by-cons basis_length [] (replicate count []) in let h = no_total count in omega arith

no_count : (count : ℕ) → row_count (replicate count []) ≡ 0
no_count zero = refl
no_count (suc count) = let e = sum_by-cons (length {A = List ℕ}) [] (replicate count []) in let h = no_count count in omega arith

pub begin_is : (n count : ℕ) → IsState n count (begin n count)
begin_is n count = record {
  nodes = length-replicate {A = List (List ℕ)} count [];
  marked = length-replicate {A = List ℕ} count (replicate n 0);
  leading = All-replicate (IsLeadingBasis n) count [] tt;
  numbers = λ u h. absurd (nothing_in u h);
}

pub begin_queued : (n count : ℕ) → AreQueued (begin n count)
begin_queued n count u out k = marks_none n count u k

pub begin_sound : (n count : ℕ) (states : ℕ → List ℕ → Type 0) → IsSound n states (begin n count)
begin_sound n count states u v h =
    spans_more n (Contains (get_or (replicate count []) u [])) (states u) (λ x i. absurd (nothing_in x (subst (λ l. Contains l x) (rows_none count u) i))) v h

pub begin_nodes : (n count : ℕ) → AreNodes n (begin n count)
begin_nodes n count = let b = begin_is n count in record { leading = b.leading; marked = b.marked ∙ sym b.nodes }

-- after first rows, of states, were offered
module _ (n count : ℕ) (states : ℕ → List ℕ → Type 0) (are : (u : ℕ) → AreRows n (states u)) (start : State) (start_is : start ≡ begin n count) (new : State) (before after : ℕ)
    (given : Grows n (λ w x. IsCombination n (states w) x) start new before after) where
  grows : Grows n (λ w x. IsCombination n (states w) x) (begin n count) new before after
  grows = subst (λ s. Grows n (λ w x. IsCombination n (states w) x) s new before after) start_is given

  pub first_leading : All (IsLeadingBasis n) new.bases
  first_leading = grows.leading (begin_is n count).leading

  pub first_sound : IsSound n states new
  first_sound = sound_with n states (begin n count) new before after are (begin_is n count).leading (begin_sound n count states) grows

  pub first_marked : (u : ℕ) (v : List ℕ) → Contains (rows_at new u) v → IsUnmarkedAt new u v → ⊥
  first_marked u v h m = nothing_in v (subst (λ l. Contains l v) (rows_none count u) (grows.frame u v h m))

  pub first_nodes : length new.bases ≡ count
  first_nodes = grows.nodes ∙ (begin_is n count).nodes

  pub first_bounded : after ≤ before + total new.bases
  first_bounded = let a = grows.bounded in let z = no_total count in omega arith

  module _ (since : Queues start new before after) where
    queues : Queues (begin n count) new before after
    queues = subst (λ s. Queues s new before after) start_is since

    pub first_is : IsState n count new
    first_is = record {
      nodes = first_nodes;
      marked = grows.marked ∙ (begin_is n count).marked;
      leading = first_leading;
      numbers = λ u h. let x = queues.numbers (λ w k. absurd (nothing_in w k)) u h in let e = (begin_is n count).nodes in omega arith;
    }

    pub first_queued : AreQueued new
    first_queued = queues.queued (begin_queued n count)

    pub first_counted : row_count new.bases + before ≤ after
    first_counted = let a = queues.counted in let z = no_count count in omega arith
