-- Rows that are joined with what is known, register by register.
use Rattle.std.proofs.Common.{◌≡◌, ℕ, ◌+◌, ◌*◌, ◌<◌, ◌≤◌, Bool, true, false, ◌||◌, if◌then◌else◌, List, length, set, refl, sym, ap, subst, ◌∙◌, arith, inl, inr, length-set, get_or-set_same, get_or-set_other}
use Rattle.std.proofs.lemmas.Bool.{cases_eq, cases_lt}
use Rattle.std.proofs.lemmas.List.{set-get_or}
use Rattle.frame_offsets.specs.Tables.{IsRowJoined, Knows, joined, known_at, weight_of}
use Rattle.frame_offsets.specs.declared.known.Known.{Known}
use Rattle.frame_offsets.specs.declared.known.Known.TheVariants.{Unmet}

either_false : (a b : Bool) → (a || b) ≡ false → (a ≡ false) × (b ≡ false)
either_false true b e = cc
either_false false b e = (refl, e)

less : (a b : Bool) (x y z : ℕ) → x + (if a then 1 else 0) ≤ y → y + (if b then 1 else 0) ≤ z → x + (if a || b then 1 else 0) ≤ z
less true true x y z h k = omega arith
less true false x y z h k = omega arith
less false true x y z h k = omega arith
less false false x y z h k = omega arith

-- one register more
module _ (old mid new : List Known) (i n : ℕ) (row : ℕ → Known) (rose risen : Bool) (so_far : IsRowJoined old mid i row n rose)
    (lt : n < 32) (room : 32 * i + 32 ≤ length old) (after : new ≡ set mid (32 * i + n) (joined (known_at mid i n) (row n)))
    (fell : weight_of new + (if risen then 1 else 0) ≤ weight_of mid) (still : risen ≡ false → Knows (known_at mid i n) (row n)) where
  elsewhere : (j r : ℕ) → (32 * j + r ≡ 32 * i + n → ⊥) → known_at new j r ≡ known_at mid j r
  elsewhere j r other =
      ap (λ (t : List Known). known_at t j r) after
      ∙ get_or-set_other mid (32 * i + n) (32 * j + r) (joined (known_at mid i n) (row n)) Unmet other

  here : (r : ℕ) → r < n + 1 → known_at new i r ≡ joined (known_at old i r) (row r)
  here r below =
      elim (cases_lt r n) [
        | inl h ↦ elsewhere i r (λ e. omega arith) ∙ so_far.here r h
        | inr h ↦
            let same : r ≡ n = omega arith in
            let within : 32 * i + n < length mid = omega (arith, so_far.size) in
            let first = so_far.rest i n lt (λ e. omega arith) in
            subst (λ (k : ℕ). known_at new i k ≡ joined (known_at old i k) (row k)) (sym same)
            (ap (λ (t : List Known). known_at t i n) after
            ∙ get_or-set_same mid (32 * i + n) (joined (known_at mid i n) (row n)) Unmet within
            ∙ ap (λ (k : Known). joined k (row n)) first)
      ]

  pub row_more : IsRowJoined old new i row (n + 1) (risen || rose)
  row_more =
      record {
        size = ap length after ∙ length-set mid (32 * i + n) (joined (known_at mid i n) (row n)) ∙ so_far.size;
        here = here;
        rest = λ j r below past. elim (cases_eq (32 * j + r) (32 * i + n)) [
          | inl same ↦
              let ji : j ≡ i = omega arith in
              let more = past ji in
              let rn : r ≡ n = omega arith in
              absurd (let no : n + 1 ≤ n → ⊥ = λ h. omega arith in no (omega (arith, more, rn)))
          | inr other ↦ elsewhere j r other ∙ so_far.rest j r below (λ e. let more = past e in omega arith)
        ];
        fell = less risen rose (weight_of new) (weight_of mid) (weight_of old) fell so_far.fell;
        still = λ e.
            let both = either_false risen rose e in
            after ∙ ap (set mid (32 * i + n)) (still both.0) ∙ set-get_or mid (32 * i + n) Unmet ∙ so_far.still both.1;
      }
