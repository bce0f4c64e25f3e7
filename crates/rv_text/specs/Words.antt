-- Instruction words as text.
--
--   word_text word length   the digits of an instruction word of this length: four for two bytes, else eight
use Rattle.std.specs.Prelude.{ℕ, ◌==◌, if◌then◌else◌, List}
use Rattle.number_text.specs.Numerals.{hex4, hex8}

abbrev pub word_text : ℕ → ℕ → List ℕ
word_text word length = if length == 2 then hex4 word else hex8 word
