-- Combinations of any set of rows: they are rows, and closed under sums, multiples and wraps; the module
-- of a set is the least one that has the set.
use Rattle.std.proofs.Common.{◌≡◌, ℕ, ◌*◌, List, length, replicate, refl, ap, sym, ◌∙◌}
use Rattle.word_rows.specs.Rows.{words_of, IsRow, plus, times}
use Rattle.word_rows.proofs.Laws.{words_of-plus_first, words_of-plus_second, plus-zeros, plus-zeros_first, plus-plus_second, times-one, IsRow-zeros, IsRow-plus}
use Rattle.row_modules.specs.Modules.{AreRows, IsCombination, none, more, IsModule}

-- the zero row with a multiple added
pub zeros-plus : (n c : ℕ) (v : List ℕ) → length v ≡ n → words_of (plus c (replicate n 0) v) ≡ words_of (times c v)
zeros-plus n c v e = ap words_of (plus-zeros_first c n v e)

-- a row with nothing added
pub plus_zeros : (n c : ℕ) (v : List ℕ) → IsRow n v → words_of (plus c v (replicate n 0)) ≡ v
plus_zeros n c v p = ap words_of (plus-zeros c v n p.width) ∙ p.words

-- a multiple of a sum, under one wrap
pub plus_sum : (c d : ℕ) (v w r : List ℕ) → words_of (plus c v (words_of (plus d w r))) ≡ words_of (plus (c * d) (words_of (plus c v w)) r)
plus_sum c d v w r =
    words_of-plus_second c v (plus d w r) ∙ ap words_of (plus-plus_second c d v w r) ∙ sym (words_of-plus_first (c * d) (plus c v w) r)

module _ (n : ℕ) (P : List ℕ → Type 0) (rows : AreRows n P) where
  pub combination_is_row : (v : List ℕ) → IsCombination n P v → IsRow n v
  combination_is_row v (none v' e) = rw e (IsRow-zeros n)
  combination_is_row w (more c v row w' m p e) = rw e (IsRow-plus n c v row (combination_is_row v m) (rows row p))

  pub combination_sum : (c : ℕ) (v w : List ℕ) → IsCombination n P v → IsCombination n P w → IsCombination n P (words_of (plus c v w))
  combination_sum c v w m (none w' e) =
      let z : words_of (plus c v w') ≡ v = ap (λ x. words_of (plus c v x)) e ∙ plus_zeros n c v (combination_is_row v m) in rw z m
  combination_sum c v w m (more d u row w' k p e) =
      more (c * d) (words_of (plus c v u)) row (words_of (plus c v w')) (combination_sum c v u m k) p
      (ap (λ x. words_of (plus c v x)) e ∙ plus_sum c d v u row)

  pub combinations : IsModule n (IsCombination n P)
  combinations = record { rows = combination_is_row; zero_row = none (replicate n 0) refl; sum = combination_sum }

  pub generator : (v : List ℕ) → P v → IsCombination n P v
  generator v p =
      let r = rows v p in
      more 1 (replicate n 0) v v (none (replicate n 0) refl) p (sym (zeros-plus n 1 v r.width ∙ ap words_of (times-one v) ∙ r.words))

-- what holds in each module
module _ (n : ℕ) (S : List ℕ → Type 0) (m : IsModule n S) where
  pub module_multiple : (c : ℕ) (v : List ℕ) → S v → S (words_of (times c v))
  module_multiple c v s =
      let e = zeros-plus n c v (m.rows v s).width in rw (← e) (m.sum c (replicate n 0) v m.zero_row s)

  pub module_least : (P : List ℕ → Type 0) → ((v : List ℕ) → P v → S v) → (v : List ℕ) → IsCombination n P v → S v
  module_least P h v (none v' e) = rw e m.zero_row
  module_least P h w (more c v row w' k p e) = rw e (m.sum c v row (module_least P h v k) (h row p))
