-- The lines of a proof file that no report has, without their newlines.
--
--   line_text line           the line's text
--   IsPlace a                a point's address is a word
--   IsLine width line        such a line can be written, where rows have so many words
--   IsLineReading width piece line     the line whose text the piece is, or None where it is none's
--   IsLineReadingOr width piece r      so it is; want of memory is free
--   IsPlaceReading text a    the address or the exit whose text it is, or None where it is none's
use Rattle.std.specs.Prelude.{◌≡◌, ◌≢◌, ℕ, ◌<◌, ◌^◌, List, ◌++◌, codes, Option, Some, None, Result, Ok, Err}
use Rattle.std.specs.List.{flat_map}
use Rattle.std.specs.declared.alloc.AllocError.{AllocError}
use Rattle.number_text.specs.Numerals.{hex}
use Rattle.proof_text.specs.Files.{IsRowLine}
use Rattle.proof_text.specs.Text.{place_text, word_text}
use Rattle.proof_lines.specs.declared.lines.Line.{Line}
use Rattle.proof_lines.specs.declared.lines.Line.TheVariants.{Head, Entry, Row, Claims}

abbrev pub line_text : Line → List ℕ
line_text (Head proc_entry address) = codes "head " ++ hex proc_entry ++ codes " " ++ place_text address
line_text (Entry proc_entry) = codes "entry " ++ hex proc_entry
line_text (Row row) = codes "row" ++ flat_map word_text row.words
line_text Claims = codes "claims"

abbrev pub IsPlace : Option ℕ → Type 0
IsPlace None = Unit {0}
IsPlace (Some address) = address < 2 ^ 64

abbrev pub IsLine : ℕ → Line → Type 0
IsLine width (Head proc_entry address) = (proc_entry < 2 ^ 64) × IsPlace address
IsLine width (Entry proc_entry) = proc_entry < 2 ^ 64
IsLine width (Row row) = IsRowLine width row
IsLine width Claims = Unit {0}

abbrev pub IsLineReading : ℕ → List ℕ → Option Line → Type 0
IsLineReading width piece None = (line : Line) → IsLine width line → piece ≢ line_text line
IsLineReading width piece (Some line) = IsLine width line × (piece ≡ line_text line)

abbrev pub IsLineReadingOr : ℕ → List ℕ → Result (Option Line) AllocError → Type 0
IsLineReadingOr width piece (Ok line) = IsLineReading width piece line
IsLineReadingOr width piece (Err fault) = Unit {0}

abbrev pub IsPlaceReading : List ℕ → Option (Option ℕ) → Type 0
IsPlaceReading text None = (address : Option ℕ) → IsPlace address → text ≢ place_text address
IsPlaceReading text (Some address) = IsPlace address × (text ≡ place_text address)
