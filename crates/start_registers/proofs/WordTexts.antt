-- Words as text.
use Rattle.std.proofs.Common.{◌≡◌, ◌≢◌, ◌∙◌, ℕ, ◌<◌, ◌^◌, List, ◌∷◌, Option, None, Some, MatchOption, sym, subst, arith}
use Rattle.std.specs.Str.Parse.{AllDigits}
use Rattle.std.proofs.lemmas.Fmt.{decimal_injective, decimal_is_IsNumeral}
use Rattle.number_text.specs.Numerals.{dec}
use Rattle.numeral_read.specs.Reading.{IsAddress, IsNumberOf}
use Rattle.numeral_read.proofs.Addresses.{one_address}
use Rattle.start_registers.specs.Settings.{IsWordText, decimal, hexadecimal}

-- a decimal numeral doesn't begin with `0x`
no_prefix : (w : ℕ) (rest : List ℕ) → w < 2 ^ 64 → dec w ≢ 48 ∷ 120 ∷ rest
no_prefix w rest small e =
    let digits = subst (AllDigits 10) e (decimal_is_IsNumeral w small).0.1 in
    let bad : 33 < 10 = digits.1.0 in absurd (omega arith)

pub one_word : (text : List ℕ) (v w : ℕ) → IsWordText text v → IsWordText text w → v ≡ w
one_word text v w (decimal small e) (decimal little f) = decimal_injective v w small little (sym e ∙ f)
one_word text v w (decimal small e) (hexadecimal is) = absurd (no_prefix v is.digits small (sym e ∙ is.text_is))
one_word text v w (hexadecimal is) (decimal small f) = absurd (no_prefix w is.digits small (sym f ∙ is.text_is))
one_word text v w (hexadecimal is) (hexadecimal also) = one_address text v w is also

-- a text that is no address is a word where it is a decimal numeral
pub decimal_is : (text : List ℕ) (o : Option ℕ) → ((p : ℕ) → IsAddress text p → ⊥) → IsNumberOf dec text o
    → MatchOption o ((w : ℕ) → IsWordText text w → ⊥) (IsWordText text)
decimal_is text (Some w) none is = decimal is.0 is.1
decimal_is text None none never = by
  where
    by : (w : ℕ) → IsWordText text w → ⊥
    by w (decimal small e) = never w small e
    by w (hexadecimal is) = none w is
