-- What is wrong with a text that is no report's, told over its lines alone.
--
-- Lists of lines have the last line first: `past` has those behind the first two lines and in front of the one that is judged.
--
--   last_procedure past      the address of the procedure's line that came last
--   last_address past        the address of the point's line that came last
--   last_certs past          how many lines of certificates stand last
--   line_number past         the number of the line behind them in the text
--   point_number past        the number of the point's line that came last
--   is_start past            there are none
--   is_opened past           a procedure's line or one of a certificate stands last
--   is_pointed past          a point's line stands last
--   is_related past          a relation's line stands last
--   is_point_told past       the last line of what is told of a point stands last
--   may_follow version past line        the grammar of this version has the line there, by its kind
--   AreNamesKnown names past line       the names in the line are names, and seen in the procedure
--   IsNextRegister names count name     it is the name of the register whose certificate comes behind this many
--   IsInOrder version names past line   procedures, points, certificates and a relation's names are in order, and none of the
--                            certificates of version 2 is left out
--   AreRows names past rows  the lines of relations that stand last tell these rows
--   IsReducedBasis rows      the rows are a reduced basis
--   AreReduced names past    where relations stand last, their rows are one
--   AreNotReduced names past   relations stand last, and their rows are none
--   IsWritten piece line     the piece is the line's text
--   IsClosedBefore names past line      the line is one more relation, or those before it are complete
--   IsRight version names past line     the line is as it should be there
--   AreRight version names past         each line is as it should be behind those before it
--   line_texts past          the lines' texts, in the order of the text
--   IsWrongLine version names past piece refusal   the piece is no line that is as it should be there; of the causes the first is
--                            told: relations before it that are no reduced basis, with the number of their point's line, then the
--                            grammar, the names and the order, with the line's own number
--   IsEnded past             the last line stands last
--   IsWrongEnd names past rest refusal   so it is with what stands behind the last newline: the last line must be `end`,
--                            and nothing may stand behind it
use Rattle.std.specs.Prelude.{◌≡◌, ◌≢◌, ◌⊎◌, ℕ, ◌+◌, ◌<◌, ◌≤◌, Bool, true, false, ◌&&◌, ◌||◌, List, [], ◌∷◌, ◌++◌, length, Some, slice_get, ◌==◌}
use Rattle.rv_decode.specs.Registers.{name_of_register}
use Rattle.row_modules.specs.Bases.{IsLeadingBasis, IsReduced}
use Rattle.report_text.specs.declared.names.Name.{Name}
use Rattle.report_text.specs.Certificates.{certified_names}
use Rattle.report_lines.specs.Lines.{Line, Proc, Cert, At, NoRows, Unreached, Rel, End, IsLine, is_relation, line_text}
use Rattle.report_lines.specs.Relations.{AreRising, IsRowOf}
use Rattle.report_lines.specs.Relations.{AreKnown as AreKnownTerms}
use Rattle.refusals.specs.declared.report.ReportRefusal.{ReportRefusal}
use Rattle.refusals.specs.declared.report.ReportRefusal.TheVariants as refusals
use Rattle.report_read.specs.Drafts.{IsRegisterOf, wanted_in}
use Rattle.report_read.specs.Judging.{IsRelationPiece}

abbrev pub last_procedure : List Line → ℕ
last_procedure [] = 0
last_procedure (Proc entry ∷ past) = entry
last_procedure (line ∷ past) = last_procedure past

abbrev pub last_address : List Line → ℕ
last_address [] = 0
last_address (At address ∷ past) = address
last_address (line ∷ past) = last_address past

abbrev pub last_certs : List Line → ℕ
last_certs (Cert name word ∷ past) = last_certs past + 1
last_certs past = 0

abbrev pub line_number : List Line → ℕ
line_number past = length past + 3

abbrev pub point_number : List Line → ℕ
point_number [] = 0
point_number (At address ∷ past) = line_number past
point_number (line ∷ past) = point_number past

abbrev pub is_opened : List Line → Bool
is_opened (Proc entry ∷ past) = true
is_opened (Cert name word ∷ past) = true
is_opened past = false

abbrev pub is_pointed : List Line → Bool
is_pointed (At address ∷ past) = true
is_pointed past = false

abbrev pub is_related : List Line → Bool
is_related (Rel terms constant ∷ past) = true
is_related past = false

abbrev pub is_point_told : List Line → Bool
is_point_told (NoRows ∷ past) = true
is_point_told (Unreached ∷ past) = true
is_point_told past = is_related past

abbrev pub is_start : List Line → Bool
is_start [] = true
is_start past = false

abbrev pub may_follow : ℕ → List Line → Line → Bool
may_follow version past (Proc entry) = is_start past || is_point_told past
may_follow version past (Cert name word) = is_opened past && version == 2
may_follow version past (At address) = is_opened past || is_point_told past
may_follow version past NoRows = is_pointed past
may_follow version past Unreached = is_pointed past
may_follow version past (Rel terms constant) = is_pointed past || is_related past
may_follow version past End = is_start past || is_point_told past

abbrev pub AreNamesKnown : List Name → List Line → Line → Type 0
AreNamesKnown names past (Cert name word) = IsRegisterOf names name
AreNamesKnown names past (Rel terms constant) = AreKnownTerms names (last_procedure past) terms
AreNamesKnown names past line = Unit {0}

-- certificates stand in the order of the certified ones of the tracked registers
abbrev pub IsNextRegister : List Name → ℕ → List ℕ → Type 0
IsNextRegister names count name = (r : ℕ) × (slice_get (certified_names names) count ≡ Some r) × (name ≡ name_of_register r)

abbrev pub IsInOrder : ℕ → List Name → List Line → Line → Type 0
IsInOrder version names past (Proc entry) = is_point_told past ≡ true → last_procedure past < entry
IsInOrder version names past (Cert name word) = IsNextRegister names (last_certs past) name
IsInOrder version names past (At address) =
    (is_opened past ≡ true → length (wanted_in version names) ≤ last_certs past) × (is_point_told past ≡ true → last_address past < address)
IsInOrder version names past (Rel terms constant) = AreRising names terms
IsInOrder version names past line = Unit {0}

abbrev pub AreRows : List Name → List Line → List (List ℕ) → Type 0
AreRows names (Rel terms constant ∷ past) rows =
    (before : List (List ℕ)) × (row : List ℕ) × AreRows names past before × IsRowOf names (last_procedure past) terms constant row
    × (rows ≡ before ++ row ∷ [])
AreRows names past rows = rows ≡ []

abbrev pub IsReducedBasis : List (List ℕ) → Type 0
IsReducedBasis rows = IsLeadingBasis 17 rows × IsReduced rows

abbrev pub AreReduced : List Name → List Line → Type 0
AreReduced names past = is_related past ≡ true → (rows : List (List ℕ)) × AreRows names past rows × IsReducedBasis rows

abbrev pub AreNotReduced : List Name → List Line → Type 0
AreNotReduced names past =
    (is_related past ≡ true) × ((rows : List (List ℕ)) × AreRows names past rows × (IsReducedBasis rows → ⊥))

abbrev pub IsWritten : List ℕ → Line → Type 0
IsWritten piece line = IsLine line × (piece ≡ line_text line)

abbrev pub IsClosedBefore : List Name → List Line → Line → Type 0
IsClosedBefore names past line = (is_relation line ≡ true) ⊎ AreReduced names past

pub record IsRight (version : ℕ) (names : List Name) (past : List Line) (line : Line) : Type 0 where
  pub can : IsLine line
  pub closed : IsClosedBefore names past line
  pub allowed : may_follow version past line ≡ true
  pub known : AreNamesKnown names past line
  pub ordered : IsInOrder version names past line

abbrev pub AreRight : ℕ → List Name → List Line → Type 0
AreRight version names [] = Unit {0}
AreRight version names (line ∷ past) = AreRight version names past × IsRight version names past line

abbrev pub line_texts : List Line → List (List ℕ)
line_texts [] = []
line_texts (line ∷ past) = line_texts past ++ line_text line ∷ []

pub data IsWrongLine (version : ℕ) (names : List Name) (past : List Line) (piece : List ℕ) (refusal : ReportRefusal) : Type 0 where
  not_reduced : (IsRelationPiece piece → ⊥) → AreNotReduced names past → refusal ≡ refusals.NotReduced (point_number past)
      → IsWrongLine version names past piece refusal
  not_allowed : IsRelationPiece piece ⊎ AreReduced names past
      → ((line : Line) → IsWritten piece line → may_follow version past line ≢ true)
      → refusal ≡ refusals.Syntax (line_number past) → IsWrongLine version names past piece refusal
  not_known : (line : Line) → IsWritten piece line → IsClosedBefore names past line → may_follow version past line ≡ true
      → (AreNamesKnown names past line → ⊥) → refusal ≡ refusals.UnknownName (line_number past)
      → IsWrongLine version names past piece refusal
  not_ordered : (line : Line) → IsWritten piece line → IsClosedBefore names past line → may_follow version past line ≡ true
      → AreNamesKnown names past line → (IsInOrder version names past line → ⊥) → refusal ≡ refusals.Order (line_number past)
      → IsWrongLine version names past piece refusal

abbrev pub IsEnded : List Line → Type 0
IsEnded (End ∷ past) = Unit {0}
IsEnded past = ⊥

pub data IsWrongEnd (names : List Name) (past : List Line) (rest : List ℕ) (refusal : ReportRefusal) : Type 0 where
  not_reduced : AreNotReduced names past → refusal ≡ refusals.NotReduced (point_number past) → IsWrongEnd names past rest refusal
  unfinished : AreReduced names past → (IsEnded past × (rest ≡ []) → ⊥) → refusal ≡ refusals.Syntax (line_number past)
      → IsWrongEnd names past rest refusal
