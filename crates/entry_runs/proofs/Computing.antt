-- What is known of a computed word.
use Rattle.std.proofs.Common.{◌≡◌, ℕ, ◌+◌, ◌%◌, ◌^◌, ◌<◌, ◌==◌, pos, ◌-ℤ◌, Bool, true, false, List, slice_index, refl, ap, sym, ◌∙◌, arith, ◌&&◌}
use Rattle.std.specs.Prelude.{if◌then◌else◌}
use Rattle.std.proofs.lemmas.Bool.{eqb-true}
use Rattle.rv_step.specs.Words.{word}
use Rattle.entry_values.specs.declared.values.Value.{Value}
use Rattle.entry_values.specs.declared.values.Value.TheVariants.{Is, Any}
use Rattle.entry_values.specs.Values.{Means, FitsWord}
use Rattle.entry_values.specs.Transfers.{folded_one, folded_two, added, subtracted}
use Rattle.entry_values.specs.declared.values.Kind.TheVariants.{Computed}
use Rattle.entry_runs.proofs.Describing.{AreWords, constant_means}
use Rattle.entry_runs.proofs.Leaving.{both}
use Rattle.entry_runs.proofs.Words.{difference}

-- the word of a known value
known_word : (entry : List ℕ) (b k w : ℕ) → AreWords entry → k < 2 ^ 64 → Means entry (Is b k) w → b ≡ 0 → w ≡ k
known_word entry b k w words small means none =
    let here : w ≡ (slice_index entry 0 + k) % 2 ^ 64 = means ∙ ap (λ (c : ℕ). (slice_index entry c + k) % 2 ^ 64) none in
    let zero_is = words.zero_is in
    omega arith

module _ (entry : List ℕ) (words : AreWords entry) (pc : ℕ) where
  pub folded_one_means : (v : Value) (w : ℕ) (f : ℕ → ℕ) → FitsWord v → Means entry v w → ((a : ℕ) → a < 2 ^ 64 → f a < 2 ^ 64)
      → Means entry (folded_one pc v f) (f w)
  folded_one_means (Any a kind) w f fits means small = tt
  folded_one_means (Is b k) w f fits means small = by (b == 0) refl
    where
      by : (t : Bool) → (b == 0) ≡ t → Means entry (if t then Is 0 (f k) else Any pc Computed) (f w)
      by false e = tt
      by true e = ap f (known_word entry b k w words fits means (eqb-true b 0 e)) ∙ constant_means entry (f k) words.zero_is (small k fits)

  pub folded_two_means : (v u : Value) (w x : ℕ) (f : ℕ → ℕ → ℕ) → FitsWord v → FitsWord u → Means entry v w → Means entry u x
      → ((a b : ℕ) → a < 2 ^ 64 → b < 2 ^ 64 → f a b < 2 ^ 64) → Means entry (folded_two pc v u f) (f w x)
  folded_two_means (Any a kind) u w x f fits fit means mean small = tt
  folded_two_means (Is b k) (Any a kind) w x f fits fit means mean small = tt
  folded_two_means (Is b k) (Is c l) w x f fits fit means mean small = by (b == 0 && c == 0) refl
    where
      by : (t : Bool) → (b == 0 && c == 0) ≡ t → Means entry (if t then Is 0 (f k l) else Any pc Computed) (f w x)
      by false e = tt
      by true e =
          let parts = both (b == 0) (c == 0) e in
          ap (λ (y : ℕ). f y x) (known_word entry b k w words fits means (eqb-true b 0 parts.0))
          ∙ ap (f k) (known_word entry c l x words fit mean (eqb-true c 0 parts.1)) ∙ constant_means entry (f k l) words.zero_is (small k l fits fit)

  pub added_means : (v u : Value) (w x : ℕ) → FitsWord v → FitsWord u → Means entry v w → Means entry u x → Means entry (added pc v u) (word (pos (w + x)))
  added_means (Any a kind) u w x fits fit means mean = tt
  added_means (Is b k) (Any a kind) w x fits fit means mean = tt
  added_means (Is b k) (Is c l) w x fits fit means mean = by (b == 0) refl (c == 0) refl
    where
      by : (t : Bool) → (b == 0) ≡ t → (u : Bool) → (c == 0) ≡ u
          → Means entry (if t then Is c (word (pos (k + l))) else if u then Is b (word (pos (k + l))) else Any pc Computed) (word (pos (w + x)))
      by true e u g = let same = known_word entry b k w words fits means (eqb-true b 0 e) in let is = mean in omega arith
      by false e true g = let same = known_word entry c l x words fit mean (eqb-true c 0 g) in let is = means in omega arith
      by false e false g = tt

  pub subtracted_means : (v u : Value) (w x : ℕ) → w < 2 ^ 64 → x < 2 ^ 64 → FitsWord v → FitsWord u → Means entry v w → Means entry u x
      → Means entry (subtracted pc v u) (word (pos w -ℤ pos x))
  subtracted_means (Any a kind) u w x low small fits fit means mean = tt
  subtracted_means (Is b k) (Any a kind) w x low small fits fit means mean = tt
  subtracted_means (Is b k) (Is c l) w x low small fits fit means mean = by (c == 0) refl (b == c) refl
    where
      by : (t : Bool) → (c == 0) ≡ t → (u : Bool) → (b == c) ≡ u
          → Means entry (if t then Is b (word (pos k -ℤ pos l)) else if u then Is 0 (word (pos k -ℤ pos l)) else Any pc Computed) (word (pos w -ℤ pos x))
      by true e u g =
          let same = known_word entry c l x words fit mean (eqb-true c 0 e) in
          let is = means in
          let left = difference w x low small in
          let right = difference k l fits fit in
          omega arith
      by false e true g =
          let here : x ≡ (slice_index entry b + l) % 2 ^ 64 = mean ∙ ap (λ (d : ℕ). (slice_index entry d + l) % 2 ^ 64) (sym (eqb-true b c g)) in
          let is = means in
          let left = difference w x low small in
          let right = difference k l fits fit in
          let zero_is = words.zero_is in
          let base = words.words b in
          omega arith
      by false e false g = tt
