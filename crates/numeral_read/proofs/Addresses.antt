-- Addresses as text.
use Rattle.std.proofs.Common.{◌≡◌, ◌∙◌, ℕ, ◌<◌, ◌≤◌, ◌^◌, List, ◌∷◌, length, Option, None, Some, MatchOption, sym, ap, subst, arith}
use Rattle.std.specs.Option.{SomeIff}
use Rattle.std.specs.Str.Parse.{IsNumeral, digits_value}
use Rattle.std.proofs.lemmas.Int.Digits.{digits_value-lt}
use Rattle.std.proofs.Math.Nat.{pow-le-pow_right}
use Rattle.numeral_read.specs.Reading.{IsAddress}

short_numeral : (digits : List ℕ) → IsNumeral 16 digits → length digits ≤ 16 → digits_value 16 digits < 2 ^ 64
short_numeral digits numeral short =
    let below = digits_value-lt 16 digits numeral.1 in
    let most : 16 ^ length digits ≤ 16 ^ 16 = pow-le-pow_right {n = 16} (omega arith) {i = length digits} {j = 16} short in
    omega arith

pub numeral_is_address : (text digits : List ℕ) (o : Option ℕ) → text ≡ 48 ∷ 120 ∷ digits → length digits ≤ 16
    → SomeIff o (IsNumeral 16 digits × (digits_value 16 digits < 2 ^ 64)) (digits_value 16 digits)
    → MatchOption o ((p : ℕ) → IsAddress text p → ⊥) (IsAddress text)
numeral_is_address text digits None split short none = λ p is.
    let same : is.digits ≡ digits = cc in
    let numeral = subst (IsNumeral 16) same is.numeral in
    none (numeral, short_numeral digits numeral short)
numeral_is_address text digits (Some p) split short found =
    record { digits = digits; text_is = split; numeral = found.0.0; short = short; value = found.1 }

pub one_address : (text : List ℕ) (p q : ℕ) → IsAddress text p → IsAddress text q → p ≡ q
one_address text p q h k =
    let same : h.digits ≡ k.digits = let e = sym h.text_is ∙ k.text_is in cc in
    h.value ∙ ap (digits_value 16) same ∙ sym k.value
