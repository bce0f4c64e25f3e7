-- Numerals have digits alone.
use Rattle.std.proofs.Common.{◌≡◌, ℕ, ◌<◌, ◌≤◌, ◌^◌, false, eqb, List, [], ◌∷◌, subst, arith}
use Rattle.std.specs.List.{AllByRecursion}
use Rattle.std.specs.Str.Parse.{AllDigits}
use Rattle.std.specs.Char.{digit_value}
use Rattle.std.proofs.lemmas.Bool.{ne_eqb}
use Rattle.std.proofs.lemmas.List.Elements.{All-from_recursion}
use Rattle.std.proofs.lemmas.Fmt.{decimal_is_IsNumeral, digits_is_IsNumeral}
use Rattle.number_text.specs.Numerals.{dec, hex}
use Rattle.report_lines.specs.Parts.{HasNo}

clean : (radix byte : ℕ) (ds : List ℕ) → radix ≤ digit_value byte → AllDigits radix ds → AllByRecursion (λ b. eqb b byte ≡ false) ds
clean radix byte [] other d = tt
clean radix byte (c ∷ cs) other d =
    (ne_eqb c byte (λ e. let k : digit_value byte < radix = subst (λ (x : ℕ). digit_value x < radix) e d.0 in omega arith), clean radix byte cs other d.1)

pub dec_has_no : (byte n : ℕ) → 10 ≤ digit_value byte → n < 2 ^ 64 → HasNo byte (dec n)
dec_has_no byte n other small =
    All-from_recursion (λ b. eqb b byte ≡ false) (dec n) (clean 10 byte (dec n) other (decimal_is_IsNumeral n small).0.1)

wide : 2 ^ 64 ≤ 16 ^ 64
wide = omega arith

pub hex_has_no : (byte n : ℕ) → 16 ≤ digit_value byte → eqb 48 byte ≡ false → eqb 120 byte ≡ false → n < 2 ^ 64 → HasNo byte (hex n)
hex_has_no byte n other no_zero no_x small =
    All-from_recursion (λ b. eqb b byte ≡ false) (hex n) (
      no_zero,
      (
        no_x,
        clean 16 byte _ other (digits_is_IsNumeral 16 false (omega arith) (omega arith) n (omega (arith, wide))).0.1,
      ),
    )
