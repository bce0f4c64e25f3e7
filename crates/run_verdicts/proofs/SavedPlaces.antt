-- The registers s0 to s11 by their places among these.
use Rattle.std.proofs.Common.{◌≡◌, ℕ, suc, ◌+◌, ◌-◌, ◌<◌, ◌≤◌, nat_le, ◌==◌, true, ◌&&◌, ◌||◌, List, Contains, slice_index, inl, inr, ap, sym, ◌∙◌, arith}
use Rattle.std.proofs.lemmas.Bool.{and_parts, eqb-true, leb-true, or_cases}
use Rattle.std.proofs.lemmas.List.{get_or-map}
use Rattle.std.proofs.lemmas.List.FromFn.{get_or-range_with_len}
use Rattle.run_paths.specs.Discipline.{is_saved}
use Rattle.run_watch.specs.Activations.{saved_registers, saved_words}
use Rattle.run_watch.specs.Judges.{saved_places}

-- a saved register has a place among them
pub record HasPlace (r : ℕ) : Type 0 where
  pub place : ℕ
  pub low : place < 12
  pub is : slice_index saved_registers place ≡ r

pub saved_place : (r : ℕ) → is_saved r ≡ true → HasPlace r
saved_place r saved =
    elim (or_cases (r == 8 || r == 9) (nat_le 18 r && nat_le r 27) saved) [
      | inl low ↦
          elim (or_cases (r == 8) (r == 9) low) [
            | inl first ↦ record { place = 0; low = omega arith; is = sym (eqb-true r 8 first) }
            | inr second ↦ record { place = 1; low = omega arith; is = sym (eqb-true r 9 second) }
          ]
      | inr rest ↦
          let parts = and_parts (nat_le 18 r) (nat_le r 27) rest in later (leb-true 18 r parts.0) (leb-true r 27 parts.1)
    ]
  where
    later : 18 ≤ r → r ≤ 27 → HasPlace r
    later least most = record {
      place = r - 16;
      low = omega (arith, least, most);
      is = ap (slice_index saved_registers) (let e : r - 16 ≡ suc (suc (r - 18)) = omega (arith, least) in e)
          ∙ get_or-range_with_len 18 10 (r - 18) 0 (omega (arith, least, most))
          ∙ (let e : 18 + (r - 18) ≡ r = omega (arith, least) in e);
    }

pub place_there : (i : ℕ) → i < 12 → Contains saved_places i
place_there i below = (i, below, get_or-range_with_len 0 12 i i below ∙ (let e : 0 + i ≡ i = omega arith in e))

pub place_low : (i : ℕ) → Contains saved_places i → i < 12
place_low i there =
    let is = sym (get_or-range_with_len 0 12 there.0 i there.1) ∙ there.2 in
    let low : there.0 < 12 = there.1 in omega (arith, is, low)

pub saved_word : (regs : List ℕ) (i : ℕ) → i < 12
    → slice_index (saved_words regs) i ≡ slice_index regs (slice_index saved_registers i)
saved_word regs i below = get_or-map (λ (r : ℕ). slice_index regs r) saved_registers i 0 0 below
