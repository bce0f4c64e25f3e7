-- The name of a register has no equals sign.
use Rattle.std.proofs.Common.{◌≡◌, ◌∙◌, ℕ, ◌<◌, ◌==◌, ◌&&◌, Bool, true, false, not, List, [], ◌∷◌, Some}
use Rattle.std.proofs.Common.{get_or, inl, inr, refl, sym, ap, subst, codes, arith}
use Rattle.std.specs.Prelude.{find}
use Rattle.std.specs.List.{list_all, range_with_len}
use Rattle.std.specs.Str.{bytes_eq}
use Rattle.std.specs.Cmp.Lexicographic.{bytes_decides}
use Rattle.std.proofs.lemmas.Bool.{and_parts, eq-eqb, or_cases}
use Rattle.std.proofs.lemmas.List.Folds.{list_all_at}
use Rattle.std.proofs.lemmas.List.FromFn.{get_or-range_with_len, length-range_with_len}
use Rattle.std.proofs.lemmas.List.Sums.{AllPass-from_list_all}
use Rattle.rv_decode.specs.Registers.{is_spelling, name_of_register, number_of_register, register_of}
use Rattle.rv_decode.proofs.RegisterNames.{register_of-range}
use Rattle.start_registers.specs.Settings.{HasNoEquals}

abbrev is_other : ℕ → Bool
is_other byte = not (byte == 61)

abbrev is_clean : List ℕ → Bool
is_clean text = list_all is_other text

has_none : (text : List ℕ) → is_clean text ≡ true → HasNoEquals text
has_none text clean i below is =
    let other : not (get_or text i 0 == 61) ≡ true = AllPass-from_list_all is_other text clean i 0 below in
    let sign : not (get_or text i 0 == 61) ≡ false = ap (λ (b : Bool). not b) (eq-eqb (get_or text i 0) 61 is) in
    let bad : true ≡ false = sym other ∙ sign in absurd cc

abbrev both_clean : ℕ → Bool
both_clean r = is_clean (name_of_register r) && is_clean (number_of_register r)

all_clean : list_all both_clean (range_with_len 0 32) ≡ true
unfolding name_of_register number_of_register
all_clean = refl

clean_below : (p : ℕ → Bool) (n r : ℕ) → list_all p (range_with_len 0 n) ≡ true → r < n → p r ≡ true
clean_below p n r all small = grind
    (arith, list_all_at p (range_with_len 0 n) r 0, get_or-range_with_len 0 n r 0, length-range_with_len 0 n)

found_passes : (p : ℕ → Bool) (xs : List ℕ) (r : ℕ) → find p xs ≡ Some r → p r ≡ true
found_passes p [] r found = absurd (cc)
found_passes p (x ∷ xs) r found = grind (arith, found_passes p xs r)

pub name_has_none : (name : List ℕ) (r : ℕ) → register_of name ≡ Some r → HasNoEquals name
unfolding register_of
name_has_none name r found =
    let both = and_parts _ _ (clean_below both_clean 32 r all_clean (register_of-range name r found)) in
    elim (or_cases _ _ (found_passes (is_spelling name) (range_with_len 0 32) r found)) [
      | inl spelled ↦
          elim (or_cases _ _ spelled) [
            | inl named ↦ same (name_of_register r) named both.0
            | inr numbered ↦ same (number_of_register r) numbered both.1
          ]
      | inr other ↦ same (codes "fp") (and_parts _ _ other).1 refl
    ]
  where
    same : (text : List ℕ) → bytes_eq name text ≡ true → is_clean text ≡ true → HasNoEquals name
    same text e clean = subst HasNoEquals (sym ((bytes_decides name text).0 e)) (has_none text clean)
