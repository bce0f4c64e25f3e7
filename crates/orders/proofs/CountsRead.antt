-- Numbers in orders.
use Rattle.std.proofs.Common.{◌≡◌, ℕ, ◌≤◌, List, [], ◌∷◌, length, Bool, true, false, not, Some, None, if◌then◌else◌, refl, sym, ap, subst, arith}
use Rattle.std.specs.Prelude.{nat_lt}
use Rattle.std.specs.List.{list_all}
use Rattle.std.specs.Char.{digit_value}
use Rattle.std.specs.Str.Parse.{AllDigits, IsNumeral, digits_value}
use Rattle.std.specs.Cmp.Derive.{both_true}
use Rattle.std.proofs.lemmas.Bool.{le-leb, leb-true, lt-ltb, ltb-true}
use Rattle.clap.proofs.WalkLemmas.{both}
use Rattle.orders.specs.Orders.{count_of, has_zeros, is_count, most_count}

digits_pass : (text : List ℕ) → AllDigits 10 text → list_all (λ c. nat_lt (digit_value c) 10) text ≡ true
digits_pass [] h = refl
digits_pass (c ∷ cs) h = both_true (lt-ltb (digit_value c) 10 h.0) (digits_pass cs h.1)

passed_digits : (text : List ℕ) → list_all (λ c. nat_lt (digit_value c) 10) text ≡ true → AllDigits 10 text
passed_digits [] h = tt
passed_digits (c ∷ cs) h = let (here, rest) = both _ _ h in (ltb-true (digit_value c) 10 here, passed_digits cs rest)

pub counted : (text : List ℕ) (n : ℕ) → IsNumeral 10 text → has_zeros text ≡ false → n ≡ digits_value 10 text → n ≤ most_count →
    Some n ≡ count_of text
counted text n numeral plain value small =
    let below : digits_value 10 text ≤ most_count = omega arith in
    let test : is_count text ≡ true =
    both_true (both_true (both_true (lt-ltb 0 (length text) numeral.0) (digits_pass text numeral.1)) (ap not plain))
    (le-leb (digits_value 10 text) most_count below) in
    subst (λ b. Some n ≡ (if b then Some (digits_value 10 text) else None)) (sym test) (ap Some value)

not_false : (b : Bool) → not b ≡ true → b ≡ false
not_false true h = sym h
not_false false h = refl

pub no_count : (text : List ℕ) → (IsNumeral 10 text → has_zeros text ≡ false → digits_value 10 text ≤ most_count → ⊥) →
    None ≡ count_of text
no_count text never = go (is_count text) refl
  where
    go : (b : Bool) → is_count text ≡ b → None ≡ count_of text
    go true e =
        let (digits, small) = both _ _ e in
        let (numeral, plain) = both _ _ digits in
        let (some, all) = both _ _ numeral in
        absurd (never (ltb-true 0 (length text) some, passed_digits text all) (not_false (has_zeros text) plain)
        (leb-true (digits_value 10 text) most_count small))
    go false e = subst (λ b. None ≡ (if b then Some (digits_value 10 text) else None)) (sym e) refl
