use Rattle.std.proofs.Common.{◌≡◌, ◌<◌, ◌^◌, false, arith, ap, sym, ◌∙◌, ℕ}
use Rattle.std.specs.Fmt.{digits}
use Rattle.std.specs.Str.Parse.{digits_value}
use Rattle.std.proofs.lemmas.Fmt.{digits_is_IsNumeral}
use Rattle.number_text.proofs.hex_is_injective.Goals as goal

-- the number that the digits have
value : (n : ℕ) → n < 2 ^ 64 → digits_value 16 (digits 16 false n) ≡ n
value n small = (digits_is_IsNumeral 16 false (omega arith) (omega arith) n (omega arith)).1

pub returns : goal.returns
returns c m n m_small n_small same =
    let numerals : digits 16 false m ≡ digits 16 false n = cc in
    sym (value m m_small) ∙ ap (digits_value 16) numerals ∙ value n n_small
