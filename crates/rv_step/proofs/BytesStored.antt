-- What a store of one byte more leaves in memory.
use Rattle.std.proofs.Common.{◌≡◌, ◌≢◌, ℕ, ◌+◌, ◌-◌, ◌*◌, ◌/◌, ◌%◌, ◌^◌, ◌<◌, ◌≤◌, ◌⊎◌, inl, inr, IsSome, subst, sym, ap, ◌∙◌, arith}
use Rattle.std.specs.BTreeMap.{get}
use Rattle.std.specs.Ordering.{nat_cmp}
use Rattle.std.proofs.lemmas.Grind.{common_steps}
use Rattle.rv_step.specs.Effects.{distance, stored}
use Rattle.rv_step.specs.Pages.{HasPage, page_size}
use Rattle.rv_step.specs.declared.pages.Pages.{Pages}

pub stored_here : (k a value : ℕ) (memory : ℕ → ℕ) (b : ℕ) → a < 2 ^ 64 → k < 8 → b ≡ (a + k) % 2 ^ 64
    → stored (k + 1) a value memory b ≡ value / 2 ^ (8 * k) % 2 ^ 8
stored_here k a value memory b small few here =
    let far : distance a b ≡ k = omega arith in
    rw far (grind (arith, common_steps))

pub stored_elsewhere : (k a value : ℕ) (memory : ℕ → ℕ) (b : ℕ) → a < 2 ^ 64 → b < 2 ^ 64 → b ≢ (a + k) % 2 ^ 64
    → stored (k + 1) a value memory b ≡ stored k a value memory b
stored_elsewhere k a value memory b small within elsewhere =
    let far : distance a b ≢ k = omega arith in
    grind (arith, common_steps)

-- the pages of the first and the last byte are those of each byte between
pub page_between : (memory : Pages) (a k width : ℕ) → a < 2 ^ 64 → k < width → width ≤ 8 → HasPage memory a
    → HasPage memory ((a + (width - 1)) % 2 ^ 64) → HasPage memory ((a + k) % 2 ^ 64)
page_between memory a k width small within few first last =
    let P : ℕ → Type 0 = λ number. IsSome (get nat_cmp memory.pages number) in
    let either : ((a + k) % 2 ^ 64 / page_size ≡ a / page_size) ⊎ ((a + k) % 2 ^ 64 / page_size ≡ (a + (width - 1)) % 2 ^ 64 / page_size) = grind arith in
    elim either [ inl same ↦ subst P (sym same) first | inr same ↦ subst P (sym same) last ]

-- a store of k bytes, and then the next byte
pub stored_more : (k a value : ℕ) (old now new : ℕ → ℕ) → a < 2 ^ 64 → k < 8
    → ((b : ℕ) → b < 2 ^ 64 → now b ≡ stored k a value old b)
    → new ((a + k) % 2 ^ 64) ≡ value / 2 ^ (8 * k) % 2 ^ 8
    → ((b : ℕ) → b ≢ (a + k) % 2 ^ 64 → new b ≡ now b)
    → (b : ℕ) → b < 2 ^ 64 → new b ≡ stored (k + 1) a value old b
stored_more k a value old now new small few before here elsewhere b within =
    let either : (b ≡ (a + k) % 2 ^ 64) ⊎ (b ≢ (a + k) % 2 ^ 64) = grind arith in
    elim either [
      | inl same ↦ ap new same ∙ here ∙ sym (stored_here k a value old b small few same)
      | inr apart ↦ elsewhere b apart ∙ before b within ∙ sym (stored_elsewhere k a value old b small within apart)
    ]
