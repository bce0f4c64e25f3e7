-- Lines of a report, without their newlines.
--
--   Line                      what a line behind the first two tells; the names are any texts without a space
--   line_text line            its text
--   IsLine line               such a line can be written
--   is_relation line          it is a relation's
--   line_of line              a line that was read, without where it lies in memory
--   IsLineReading piece line  the line is the one whose text the piece is, or None where it is none's but maybe a relation's
--   IsPlainReading piece line so it is, for the lines that are one word
--   IsCertReading text cert   the name and what is certified that a certificate's line has behind its first word
--   IsCertWordReading text word   what is certified by this word
--   header_text version       the first line
--   IsHeaderReading piece version   the version whose first line it is, or None where it is none's
use Rattle.std.specs.Prelude.{◌≡◌, ◌≢◌, ℕ, ◌<◌, ◌≤◌, ◌^◌, Bool, true, false, List, ◌++◌, codes, Option, Some, None}
use Rattle.std.specs.Borrow.{Bor}
use Rattle.number_text.specs.Numerals.{dec, hex}
use Rattle.report_text.specs.declared.certs.CertWord.{CertWord}
use Rattle.report_text.specs.Text.{cert_word_text}
use Rattle.report_lines.specs.declared.lines.Line.{Line as ReadLine}
use Rattle.report_lines.specs.declared.lines.Line.TheVariants as lines
use Rattle.report_lines.specs.Terms.{Term, IsNameText}
use Rattle.report_lines.specs.Relations.{IsRelation, relation_text}

pub data Line : Type 0 where
  Proc : (address : ℕ) → Line
  Cert : (name : List ℕ) (word : CertWord) → Line
  At : (address : ℕ) → Line
  NoRows : Line
  Unreached : Line
  Rel : (terms : List Term) (constant : ℕ) → Line
  End : Line

abbrev pub line_text : Line → List ℕ
line_text (Proc address) = codes "proc " ++ hex address
line_text (Cert name word) = codes "cert " ++ name ++ codes " " ++ cert_word_text word
line_text (At address) = codes "at " ++ hex address
line_text NoRows = codes "none"
line_text Unreached = codes "unreached"
line_text (Rel terms constant) = codes "rel " ++ relation_text terms constant
line_text End = codes "end"

abbrev pub IsLine : Line → Type 0
IsLine (Proc address) = address < 2 ^ 64
IsLine (Cert name word) = IsNameText name
IsLine (At address) = address < 2 ^ 64
IsLine NoRows = Unit {0}
IsLine Unreached = Unit {0}
IsLine (Rel terms constant) = IsRelation terms constant
IsLine End = Unit {0}

abbrev pub is_relation : Line → Bool
is_relation (Proc address) = false
is_relation (Cert name word) = false
is_relation (At address) = false
is_relation NoRows = false
is_relation Unreached = false
is_relation (Rel terms constant) = true
is_relation End = false

abbrev pub line_of : ReadLine → Line
line_of (lines.Proc address) = Proc address
line_of (lines.Cert name word) = Cert name.now word
line_of (lines.At address) = At address
line_of lines.NoRows = NoRows
line_of lines.Unreached = Unreached
line_of lines.End = End

abbrev pub IsLineReading : List ℕ → Option ReadLine → Type 0
IsLineReading piece None = (line : Line) → IsLine line → is_relation line ≡ false → piece ≢ line_text line
IsLineReading piece (Some line) = IsLine (line_of line) × (piece ≡ line_text (line_of line))

abbrev pub IsPlainReading : List ℕ → Option ReadLine → Type 0
IsPlainReading piece None = (piece ≢ codes "none") × (piece ≢ codes "unreached") × (piece ≢ codes "end")
IsPlainReading piece (Some line) = IsLine (line_of line) × (piece ≡ line_text (line_of line))

abbrev pub IsCertReading : List ℕ → Option (Bor (List ℕ) × CertWord) → Type 0
IsCertReading text None = (name : List ℕ) (word : CertWord) → IsNameText name → text ≢ name ++ codes " " ++ cert_word_text word
IsCertReading text (Some (name, word)) = IsNameText name.now × (text ≡ name.now ++ codes " " ++ cert_word_text word)

abbrev pub IsCertWordReading : List ℕ → Option CertWord → Type 0
IsCertWordReading text None = (word : CertWord) → text ≢ cert_word_text word
IsCertWordReading text (Some word) = text ≡ cert_word_text word

abbrev pub header_text : ℕ → List ℕ
header_text version = codes "affine-report " ++ dec version

abbrev pub IsHeaderReading : List ℕ → Option ℕ → Type 0
IsHeaderReading piece None = (version : ℕ) → 1 ≤ version → version ≤ 2 → piece ≢ header_text version
IsHeaderReading piece (Some version) = (1 ≤ version) × (version ≤ 2) × (piece ≡ header_text version)
