-- What reading a name gives.
--
--   IsSlotReading text slot    the slot's procedure and number of bytes are those that the text tells, or None where it
--                              tells none
--   IsAddressed name           a slot's procedure is an address, a word
--   IsNameReading text name    the name is the one whose text it is, or None where it is no name's
use Rattle.std.specs.Prelude.{◌≡◌, ◌≢◌, ℕ, ◌<◌, ◌^◌, List, ◌++◌, codes, Option, Some, None}
use Rattle.number_text.specs.Numerals.{dec, hex}
use Rattle.report_text.specs.declared.names.Name.{Name}
use Rattle.report_text.specs.declared.names.Name.TheVariants.{Register, Slot}
use Rattle.report_text.specs.Names.{IsName}
use Rattle.report_text.specs.Text.{name_text}

abbrev pub IsSlotReading : List ℕ → Option (ℕ × ℕ) → Type 0
IsSlotReading text None =
    (p n : ℕ) → p < 2 ^ 64 → n < 2 ^ 64 → text ≢ hex p ++ codes ":-" ++ dec n
IsSlotReading text (Some (p, n)) = (p < 2 ^ 64) × (n < 2 ^ 64) × (text ≡ hex p ++ codes ":-" ++ dec n)

abbrev pub IsAddressed : Name → Type 0
IsAddressed (Register r) = Unit {0}
IsAddressed (Slot p below) = p < 2 ^ 64

abbrev pub IsNameReading : List ℕ → Option Name → Type 0
IsNameReading text None = (name : Name) → IsName name → IsAddressed name → text ≢ name_text name
IsNameReading text (Some name) = IsName name × IsAddressed name × (text ≡ name_text name)
