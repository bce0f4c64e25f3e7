-- A store that is near no slot but writable ones, and near no instruction, changes nothing that is watched.
use Rattle.std.proofs.Common.{◌≡◌, ℕ, ◌+◌, ◌-◌, ◌%◌, ◌^◌, ◌<◌, ◌≤◌, Bool, true, false, nat_lt, ◌&&◌, ◌||◌, not, List, [], ◌∷◌, Option, None, Some, IfSome, refl, sym, subst, ap, ◌∙◌, arith}
use Rattle.std.specs.List.{list_any}
use Rattle.std.proofs.lemmas.Bool.{le-ltb, ltb-false}
use native.Mathlib.Nat.{mod-add-mod}
use Rattle.rv_step.specs.Effects.{distance}
use Rattle.run_watch.specs.declared.places.SlotAt.{SlotAt}
use Rattle.run_watch.specs.Slots.{byte_at}
use Rattle.run_watch.specs.Moments.{Moment}
use Rattle.run_watch.specs.Judges.{holds_kept, is_writable}
use Rattle.run_watch.specs.Quiet.{is_close, may_change, IsLeft, IsSpared}
use Rattle.run_watch.proofs.Nearby.{none_kept, no_code_changed}
use Rattle.run_watch.proofs.Unmarked.{from_place}

far_off : (y k : ℕ) → k < 8 → 15 ≤ (y + 7) % 2 ^ 64 → 8 ≤ (y + k) % 2 ^ 64
far_off y k below far = omega (arith, below, far)

not_close : (place a k : ℕ) → k < 8 → is_close place a ≡ false → nat_lt (distance place (byte_at a k)) 8 ≡ false
not_close place a k below far =
    let x : ℕ = 2 ^ 64 - place in
    let sum : 15 ≤ (a + x + 7) % 2 ^ 64 = subst (λ n. 15 ≤ n) (mod-add-mod (a + x) (2 ^ 64) 7) (ltb-false _ _ far) in
    le-ltb _ _ (subst (λ n. 8 ≤ n) (sym (from_place a k x)) (far_off (a + x) k below sum))

and_none : (a b : Bool) → b ≡ false → (a && b) ≡ false
and_none true b e = e
and_none false b e = refl

neither : (a b : Bool) → (a || b) ≡ false → (a ≡ false) × (b ≡ false)
neither true b e = cc
neither false b e = (refl, e)

not_changed : (depth writable a k : ℕ) (slot : SlotAt) → k < 8 → may_change depth writable a slot ≡ false
    → holds_kept depth writable (byte_at a k) slot ≡ false
not_changed depth writable a k slot below none =
    let w : Bool = not (is_writable depth writable slot) in
    elim (is_close slot.address a) as (λ b. is_close slot.address a ≡ b → (b && w) ≡ false → holds_kept depth writable (byte_at a k) slot ≡ false) [
      | true ↦ λ e only. and_none (nat_lt (distance slot.address (byte_at a k)) 8) w only
      | false ↦ λ e only. ap (λ b. b && w) (not_close slot.address a k below e)
    ] refl none

none_of : (p q : SlotAt → Bool) (xs : List SlotAt) → ((s : SlotAt) → p s ≡ false → q s ≡ false)
    → list_any p xs ≡ false → list_any q xs ≡ false
none_of p q [] h none = refl
none_of p q (x ∷ xs) h none =
    let parts = neither (p x) (list_any p xs) none in
    ap (λ b. b || list_any q xs) (h x parts.0) ∙ none_of p q xs h parts.1

pub spared : (m : Moment) (a : ℕ) → IsLeft m.slots m.depth m.writable m.code a → IsSpared m a
spared m a left = record {
  slots = λ store e.
      let at : IsLeft m.slots m.depth m.writable m.code store.address = subst (λ b. IsLeft m.slots m.depth m.writable m.code b) (sym e) left in
      none_kept m.slots m.depth m.writable store at.earlier (λ k below.
      none_of (may_change m.depth m.writable store.address) (holds_kept m.depth m.writable (byte_at store.address k)) m.slots.last
      (λ s none. not_changed m.depth m.writable store.address k s below none) at.last);
  code = λ store e.
      let at : IsLeft m.slots m.depth m.writable m.code store.address = subst (λ b. IsLeft m.slots m.depth m.writable m.code b) (sym e) left in
      sym (no_code_changed m.code store at.instructions);
}

pub if_some_then : {A : Type 0} (P Q : A → Type 0) (o : Option A) → ((a : A) → P a → Q a) → IfSome o P → IfSome o Q
if_some_then P Q None f h = tt
if_some_then P Q (Some a) f h = f a h
