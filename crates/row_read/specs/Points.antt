-- A point's text.
--
--   point_text procedure address   both numbers in hexadecimal, with a comma between them
--   IsPointReading text point      the point is the one whose text it is, or None where it is no point's
use Rattle.std.specs.Prelude.{◌≡◌, ◌≢◌, ℕ, ◌<◌, ◌^◌, List, ◌++◌, codes, Option, Some, None}
use Rattle.number_text.specs.Numerals.{hex}

abbrev pub point_text : ℕ → ℕ → List ℕ
point_text procedure address = hex procedure ++ codes "," ++ hex address

abbrev pub IsPointReading : List ℕ → Option (ℕ × ℕ) → Type 0
IsPointReading text None = (procedure address : ℕ) → procedure < 2 ^ 64 → address < 2 ^ 64 → text ≢ point_text procedure address
IsPointReading text (Some (procedure, address)) =
    (procedure < 2 ^ 64) × (address < 2 ^ 64) × (text ≡ point_text procedure address)
