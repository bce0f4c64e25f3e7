-- From the relations of a module to those of the states that span it.
use Rattle.std.proofs.Common.{◌≡◌, ◌≢◌, ℕ, ◌*◌, inl, inr, List, replicate, get_or, set, slice_index, ap, sym, ◌∙◌, arith, lit<, length-set, get_or-set_same, get_or-set_other}
use Rattle.std.proofs.Math.Nat.{mod-eq_of_lt}
use Rattle.std.proofs.lemmas.Bool.{cases_lt}
use Rattle.std.proofs.lemmas.Grind.{same_number_lists}
use Rattle.word_rows.specs.Words.{word}
use Rattle.word_rows.specs.Rows.{dot_sum, dot, lead, IsRow, IsState}
use Rattle.word_rows.proofs.Laws.{get_or-zeros, get_or_before_lead, get_or_at_lead, dot_sum-unit, IsWord-get_or}
use Rattle.row_modules.specs.Modules.{IsCombination, none, more}
use Rattle.row_modules.proofs.Laws.{generator}
use Rattle.lead_basis.proofs.Laws.{same_annihilators}
use Rattle.relation_solver.specs.Laws.{FollowStates}

-- an empty set spans the zero row alone
zero_alone : (n : ℕ) (P : List ℕ → Type 0) → ((v : List ℕ) → ¬ P v) → (v : List ℕ) → IsCombination n P v → v ≡ replicate n 0
zero_alone n P empty v (none v' e) = e
zero_alone n P empty w (more c v row w' m p e) = absurd (empty row p)

-- a row that leads at position 16 isn't 0 at a state
lead_at_constant : (a v : List ℕ) → IsRow 17 a → IsState v → lead a ≡ 16 → dot a v ≢ 0
lead_at_constant a v row state e zero =
    let w = row.width in
    let size = length-set (replicate 17 0) 16 (get_or a 16 0) in
    let own : a ≡ set (replicate 17 0) 16 (get_or a 16 0) = same_number_lists a (set (replicate 17 0) 16 (get_or a 16 0)) (w ∙ sym size) (λ k below. elim (cases_lt k 16) [
      | inl lt ↦ get_or_before_lead a k (omega arith) ∙ sym (get_or-set_other (replicate 17 0) 16 k (get_or a 16 0) 0 (λ s. omega arith) ∙ get_or-zeros 17 k)
      | inr ge ↦ let s : k ≡ 16 = omega arith in rw s (sym (get_or-set_same (replicate 17 0) 16 (get_or a 16 0) 0 (lit< tt)))
    ]) in
    let one = state.constant in
    let sum : dot_sum a v ≡ get_or a 16 0 = ap (λ (x : List ℕ). dot_sum x v) own ∙ dot_sum-unit (get_or a 16 0) 17 16 v (lit< tt) ∙ ap (λ (k : ℕ). get_or a 16 0 * k) one ∙ (let s : get_or a 16 0 * 1 ≡ get_or a 16 0 = omega arith in s) in
    let here : get_or a 16 0 ≡ 0 = sym (mod-eq_of_lt (IsWord-get_or 17 a row 16)) ∙ ap word (sym sum) ∙ zero in
    get_or_at_lead a (omega arith) (rw e here)

pub follow_states : (P : List ℕ → Type 0) → FollowStates P
follow_states P = record {
  unreached = λ basis states same. (
    λ zero v h.
        let e = zero v (same.there v (generator 17 P (λ u i. (states u i).row) v h)) in
        let one = (states v h).constant in
        let at : slice_index v 16 ≡ 0 = ap (λ (x : List ℕ). slice_index x 16) e ∙ get_or-zeros 17 16 in absurd (omega arith),
    λ empty v m. zero_alone 17 P empty v (same.back v m),
  );
  generated = λ basis rows visible states same generates.
      let tell = same_annihilators P _ (λ u i. (states u i).row) same visible in
      record { inside = λ a h. (tell a).1 (generates.inside a h); all = λ a n. generates.all a ((tell a).0 n) };
  no_constant = λ v a visible h state n e. lead_at_constant a v n.on_visible.row state e (n.vanishes v h);
}
