-- Numbers as text: bytes in ASCII, digits in lower case.
--
--   dec n            n in decimal without leading zeros
--   hex n            `0x` and the hexadecimal digits of n without leading zeros, `0x0` for 0
--   hex_digit n k    the hexadecimal digit of n at place k, counted from the right from 0
--   hex8 n           the eight hexadecimal digits of n at the places 7 to 0
--   hex4 n           its last four, at the places 3 to 0
use Rattle.std.specs.Prelude.{ℕ, ◌*◌, ◌/◌, ◌%◌, ◌^◌, false, List, [], ◌∷◌, ◌++◌, map, codes}
use Rattle.std.specs.Fmt.{decimal, digits, digit_glyph}

abbrev pub dec : ℕ → List ℕ
dec n = decimal n

abbrev pub hex : ℕ → List ℕ
hex n = codes "0x" ++ digits 16 false n

abbrev pub hex_digit : ℕ → ℕ → ℕ
hex_digit n k = digit_glyph false (n / 2 ^ (4 * k) % 16)

abbrev pub hex8 : ℕ → List ℕ
hex8 n = map (hex_digit n) (7 ∷ 6 ∷ 5 ∷ 4 ∷ 3 ∷ 2 ∷ 1 ∷ 0 ∷ [])

abbrev pub hex4 : ℕ → List ℕ
hex4 n = map (hex_digit n) (3 ∷ 2 ∷ 1 ∷ 0 ∷ [])
