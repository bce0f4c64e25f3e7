-- A list filled from its end with the words of a row.
use Rattle.std.proofs.Common.{◌≡◌, ℕ, ◌+◌, ◌-◌, ◌<◌, ◌≤◌, inl, inr, List, length, get_or, set, replicate, reverse, ap, sym, ◌∙◌, arith, length-set, get_or-set_same, get_or-set_other}
use Rattle.std.proofs.lemmas.Bool.{cases_eq}
use Rattle.std.proofs.lemmas.List.{length-reverse, length-replicate, get_or-reverse}
use Rattle.std.proofs.lemmas.Grind.{same_number_lists}
use Rattle.word_rows.proofs.Laws.{get_or-zeros}

-- the first i words of the row stand at the end of the list, turned, and zeros before them
pub record IsTurned (row words : List ℕ) (i : ℕ) : Type 0 where
  pub width : length words ≡ 17
  pub zeros : (k : ℕ) → k + i < 17 → get_or words k 0 ≡ 0
  pub done : (k : ℕ) → 17 ≤ k + i → k < 17 → get_or words k 0 ≡ get_or row (16 - k) 0

pub turned_none : (row : List ℕ) → IsTurned row (replicate 17 0) 0
turned_none row = record {
  width = length-replicate {A = ℕ} 17 0;
  zeros = λ k below. get_or-zeros 17 k;
  done = λ k from below. absurd (omega arith);
}

pub turned_more : (row words : List ℕ) (i x : ℕ) → i < 17 → x ≡ get_or row i 0 → IsTurned row words i → IsTurned row (set words (16 - i) x) (i + 1)
turned_more row words i x below is t =
    let w = t.width in
    record {
      width = length-set words (16 - i) x ∙ t.width;
      zeros = λ k before. get_or-set_other words (16 - i) k x 0 (λ e. omega arith) ∙ t.zeros k (omega arith);
      done = λ k from lt. elim (cases_eq k (16 - i)) [
        | inl e ↦
            let at : get_or (set words (16 - i) x) (16 - i) 0 ≡ get_or row (16 - (16 - i)) 0 =
            get_or-set_same words (16 - i) x 0 (omega arith) ∙ is ∙ ap (λ (n : ℕ). get_or row n 0) (let f : i ≡ 16 - (16 - i) = omega arith in f) in
            rw e at
        | inr ne ↦ get_or-set_other words (16 - i) k x 0 ne ∙ t.done k (omega arith) lt
      ];
    }

-- a word that is 0 need not be written
pub turned_zero : (row words : List ℕ) (i : ℕ) → i < 17 → get_or row i 0 ≡ 0 → IsTurned row words i → IsTurned row words (i + 1)
turned_zero row words i below z t =
    let w = t.width in
    record {
      width = t.width;
      zeros = λ k before. t.zeros k (omega arith);
      done = λ k from lt. elim (cases_eq k (16 - i)) [
        | inl e ↦
            let at : get_or words (16 - i) 0 ≡ get_or row (16 - (16 - i)) 0 =
            t.zeros (16 - i) (omega arith) ∙ sym z ∙ ap (λ (n : ℕ). get_or row n 0) (let f : i ≡ 16 - (16 - i) = omega arith in f) in
            rw e at
        | inr ne ↦ t.done k (omega arith) lt
      ];
    }

pub turned_all : (row words : List ℕ) → length row ≡ 17 → IsTurned row words 17 → words ≡ reverse row
turned_all row words wide t =
    let w = t.width in let l = length-reverse row in
    same_number_lists words (reverse row) (omega arith)
    (λ k below. t.done k (omega arith) (omega arith)
    ∙ sym (get_or-reverse row k 0 (omega arith) ∙ ap (λ (n : ℕ). get_or row n 0) (let f : length row - 1 - k ≡ 16 - k = omega arith in f)))
