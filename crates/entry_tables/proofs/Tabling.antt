-- A list of values that is written place by place.
use Rattle.std.proofs.Common.{◌≡◌, inl, inr, ℕ, zero, suc, ◌+◌, ◌<◌, ◌≤◌, List, [], ◌∷◌, get_or, slice_set, length, refl, sym, ap, subst, ◌∙◌, arith}
use Rattle.std.proofs.lemmas.Bool.{cases_lt}
use Rattle.std.proofs.lemmas.List.{same_lists}
use Rattle.std.proofs.lemmas.List.FromFn.{get_or-map-range_with_len, length-map-range_with_len}
use Rattle.entry_values.specs.declared.values.Value.{Value}
use Rattle.entry_values.specs.Values.{unknown}
use Rattle.entry_values.specs.States.{values_of}

set_same : (xs : List Value) (n : ℕ) (v d : Value) → n < length xs → get_or (slice_set xs n v) n d ≡ v
set_same [] n v d within = absurd (omega (arith, within))
set_same (x ∷ xs) zero v d within = refl
set_same (x ∷ xs) (suc n) v d within = set_same xs n v d (omega (arith, within))

set_below : (xs : List Value) (n k : ℕ) (v d : Value) → k < n → get_or (slice_set xs n v) k d ≡ get_or xs k d
set_below [] n k v d below = refl
set_below (x ∷ xs) zero k v d below = absurd (omega (arith, below))
set_below (x ∷ xs) (suc n) zero v d below = refl
set_below (x ∷ xs) (suc n) (suc k) v d below = set_below xs n k v d (omega (arith, below))

pub set_length : (xs : List Value) (n : ℕ) (v : Value) → length (slice_set xs n v) ≡ length xs
set_length [] n v = refl
set_length (x ∷ xs) zero v = refl
set_length (x ∷ xs) (suc n) v = ap (λ (m : ℕ). suc m) (set_length xs n v)

any_default : (xs : List Value) (k : ℕ) (d e : Value) → k < length xs → get_or xs k d ≡ get_or xs k e
any_default [] k d e within = absurd (omega (arith, within))
any_default (x ∷ xs) zero d e within = refl
any_default (x ∷ xs) (suc k) d e within = any_default xs k d e (omega (arith, within))

pub put_more : (values : List Value) (m r : ℕ) (v : Value) (f : ℕ → Value) → length values ≡ 32 → m ≡ r → r < 32 → v ≡ f r
    → ((k : ℕ) → k < r → get_or values k unknown ≡ f k) → (k : ℕ) → k < r + 1 → get_or (slice_set values m v) k unknown ≡ f k
put_more values m r v f wide same small is below k within = elim (cases_lt k r) [
  | inl h ↦ set_below values m k v unknown (omega (arith, h, same)) ∙ below k h
  | inr h ↦
      let at : m ≡ k = omega (arith, same, h, within) in
      let there : r ≡ k = omega (arith, h, within) in
      subst (λ (n : ℕ). get_or (slice_set values m v) n unknown ≡ v) at (set_same values m v unknown (omega (arith, same, small, wide))) ∙ is ∙ ap f there
]

pub ends : (values : List Value) (f : ℕ → Value) (r : ℕ) → length values ≡ 32 → ((k : ℕ) → k < r → get_or values k unknown ≡ f k) → 32 ≤ r → values ≡ values_of f
ends values f r wide all past =
    let long = length-map-range_with_len f 0 32 in
    same_lists values (values_of f) (wide ∙ sym long) (λ k d h.
    let small : k < 32 = omega (arith, h, wide) in
    any_default values k d unknown h ∙ all k (omega (arith, small, past)) ∙ sym (get_or-map-range_with_len f 0 32 k k d small (omega arith)))
