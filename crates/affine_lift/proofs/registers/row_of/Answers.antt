use Rattle.std.proofs.Common.{◌≡◌, ◌∙◌, ℕ, ◌<◌, ◌≤◌, ◌^◌, ◌==◌, false, cond, inl, inr, List, length, get_or, slice_get, Option, None, Some, refl, sym, ap, arith}
use Rattle.std.specs.Option.{option_map_or}
use Rattle.std.proofs.Math.Nat.{mod-eq_of_lt, mod-mod}
use Rattle.std.proofs.lemmas.Bool.{cases_lt, ne_eqb}
use Rattle.std.proofs.lemmas.Option.{slice_get_past}
use Rattle.map_modules.proofs.Entries.{vector_from_index}
use Rattle.word_rows.specs.Words.{IsWord, word}
use Rattle.report_text.specs.declared.names.Name.{Name}
use Rattle.report_text.specs.declared.names.Name.TheVariants.{Register, Slot}
use Rattle.affine_lift.specs.declared.value.Term.{Term}
use Rattle.affine_lift.specs.Values.{factor_of}
use Rattle.affine_lift.proofs.registers.row_of.Goals as goal

factor_is_word : (f g : Term) (o : Option Name) → word (option_map_or (factor_of f g) o 0) ≡ option_map_or (factor_of f g) o 0
factor_is_word f g None = refl
factor_is_word f g (Some (Register r)) = mod-mod _ (2 ^ 64)
factor_is_word f g (Some (Slot p n)) = refl

-- the word at each position of the row of a sum
factor_is : (names : List Name) (row : List ℕ) (f g : Term) (c k : ℕ) → length names ≤ 16 → IsWord c → k < 17 →
    ((j : ℕ) → j < length names → get_or row j 0 ≡ option_map_or (factor_of f g) (slice_get names j) 0) →
    ((j : ℕ) → length names ≤ j → j < 16 → get_or row j 0 ≡ 0) → get_or row 16 0 ≡ c →
    get_or row k 0 ≡ word (cond (k == 16) c (option_map_or (factor_of f g) (slice_get names k) 0))
factor_is names row f g c k few word_c below factors zeros constant =
    elim (cases_lt k 16) [
      | inl under ↦
          let other : (k == 16) ≡ false = ne_eqb k 16 (λ is. omega arith) in
          rw other (elim (cases_lt k (length names)) [
            | inl named ↦ factors k named ∙ sym (factor_is_word f g (slice_get names k))
            | inr free ↦ zeros k free under ∙ ap (λ (o : Option Name). word (option_map_or (factor_of f g) o 0)) (sym (slice_get_past names k free))
          ])
      | inr last ↦
          let is : k ≡ 16 = omega arith in
          rw is (constant ∙ sym (mod-eq_of_lt word_c))
    ]

pub returns : goal.returns
returns c =
    let all : c.loop-i.i ≡ length c.args.names.now = omega arith in
    vector_from_index c.loop-i.row _ c.loop-i.invariant.width (λ k below.
    factor_is c.args.names.now c.loop-i.row c.args.first c.args.second c.args.constant k c.requires c.ranges.constant.fits below
    (λ j under. c.loop-i.invariant.factors j (omega arith)) (λ j least most. c.loop-i.invariant.zeros j (omega arith) most) c.loop-i.invariant.constant)
