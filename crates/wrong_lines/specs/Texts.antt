-- What is wrong with a whole text that is no report's, told over its lines.
--
--   IsWrongBehind version names text refusal   the lines behind the first two are right up to one that is wrong, or up to the end,
--                              which is
--   IsWrongTrack version text refusal          the second line is no list of names, or has one that is none or stands twice, or so
--                              it is with the lines behind it
--   IsWrongText bytes refusal                  the first line is none of a report, or so it is with those behind it
--   RefusalsAreOverLines                       each refusal that bytes are judged by is told so, whatever the reader keeps
use Rattle.std.specs.Prelude.{◌≡◌, ◌≢◌, ℕ, ◌≤◌, List, [], ◌∷◌, ◌++◌, All, AllPairs, Err}
use Rattle.report_text.specs.declared.names.Name.{Name}
use Rattle.report_lines.specs.Lines.{Line, header_text}
use Rattle.report_lines.specs.Parts.{HasNo, parts_of}
use Rattle.report_lines.specs.Tracks.{AreListed, AreReadNames, IsNamed, track_text}
use Rattle.refusals.specs.declared.report.ReportRefusal.{ReportRefusal}
use Rattle.refusals.specs.declared.report.ReportRefusal.TheVariants as refusals
use Rattle.report_read.specs.Telling.{IsFirstLine, IsTextJudged}
use Rattle.wrong_lines.specs.Lines.{AreRight, IsWrongEnd, IsWrongLine, line_texts}

pub data IsWrongBehind (version : ℕ) (names : List Name) (text : List ℕ) (refusal : ReportRefusal) : Type 0 where
  a_line : (past : List Line) (piece more : List ℕ) (parts : List (List ℕ)) → AreRight version names past
      → parts_of 10 text ≡ line_texts past ++ piece ∷ more ∷ parts → IsWrongLine version names past piece refusal
      → IsWrongBehind version names text refusal
  the_end : (past : List Line) (rest : List ℕ) → AreRight version names past → parts_of 10 text ≡ line_texts past ++ rest ∷ []
      → IsWrongEnd names past rest refusal → IsWrongBehind version names text refusal

pub data IsWrongTrack (version : ℕ) (text : List ℕ) (refusal : ReportRefusal) : Type 0 where
  missing : HasNo 10 text → refusal ≡ refusals.Syntax 2 → IsWrongTrack version text refusal
  no_names : (piece behind : List ℕ) → IsFirstLine text piece behind
      → ((texts : List (List ℕ)) → AreListed texts → piece ≢ track_text texts)
      → refusal ≡ refusals.Syntax 2 → IsWrongTrack version text refusal
  unknown : (piece behind : List ℕ) (texts : List (List ℕ)) → IsFirstLine text piece behind → AreListed texts
      → piece ≡ track_text texts → (All IsNamed texts → ⊥) → refusal ≡ refusals.UnknownName 2
      → IsWrongTrack version text refusal
  repeated : (piece behind : List ℕ) (texts : List (List ℕ)) → IsFirstLine text piece behind → AreListed texts
      → piece ≡ track_text texts → All IsNamed texts → (AllPairs (λ s t. s ≢ t) texts → ⊥)
      → refusal ≡ refusals.Order 2 → IsWrongTrack version text refusal
  lines : (piece behind : List ℕ) (texts : List (List ℕ)) (names : List Name) → IsFirstLine text piece behind → AreListed texts
      → piece ≡ track_text texts → AreReadNames texts names → IsWrongBehind version names behind refusal
      → IsWrongTrack version text refusal

pub data IsWrongText (bytes : List ℕ) (refusal : ReportRefusal) : Type 0 where
  missing : HasNo 10 bytes → refusal ≡ refusals.Syntax 1 → IsWrongText bytes refusal
  no_header : (piece behind : List ℕ) → IsFirstLine bytes piece behind
      → ((version : ℕ) → 1 ≤ version → version ≤ 2 → piece ≢ header_text version)
      → refusal ≡ refusals.Syntax 1 → IsWrongText bytes refusal
  header : (piece behind : List ℕ) (version : ℕ) → IsFirstLine bytes piece behind → 1 ≤ version → version ≤ 2
      → piece ≡ header_text version → IsWrongTrack version behind refusal → IsWrongText bytes refusal

abbrev pub RefusalsAreOverLines : Type 0
RefusalsAreOverLines = (bytes : List ℕ) (refusal : ReportRefusal) → IsTextJudged bytes (Err refusal) → IsWrongText bytes refusal
