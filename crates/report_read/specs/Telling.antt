-- What is told of bytes: the report whose text they are, or the first thing that is wrong with them.
--
--   Outcome                        a report, or what is wrong
--   IsFirstLine text piece behind  the piece is the text's first line, and behind what follows its newline
--   begun version tracked          the report behind the first two lines
--   IsTrackJudged version text r   r is what is told of the text behind the first line of this version
--   IsTextJudged bytes r           r is what is told of the bytes
--   UnlessMemory judged r          r is judged so; want of memory is free
--   IsJudgedOr parts k d r, IsTrackTold version text r, IsTextTold bytes r   r is what is told; want of memory is free
--   IsEndTold k d rest r           the same of the end, where r has what the report became
use Rattle.std.specs.Prelude.{◌≡◌, ◌≢◌, ℕ, ◌≤◌, List, [], ◌∷◌, ◌++◌, All, AllPairs, Result, Ok, Err}
use Rattle.report_text.specs.declared.names.Tracked.{Tracked}
use Rattle.report_text.specs.declared.reports.Report.{Report}
use Rattle.report_lines.specs.Parts.{HasNo, parts_of}
use Rattle.report_lines.specs.Lines.{header_text}
use Rattle.report_lines.specs.Tracks.{AreListed, AreReadNames, IsNamed, track_text}
use Rattle.report_read.specs.declared.draft.Draft.{Draft}
use Rattle.report_read.specs.declared.draft.Place.TheVariants as places
use Rattle.refusals.specs.declared.report.ReportRefusal.{ReportRefusal}
use Rattle.refusals.specs.declared.report.ReportRefusal.TheVariants as refusals
use Rattle.report_read.specs.Judging.{AreRowsFine, AreRowsWrong, IsJudged}

abbrev pub Outcome : Type 0
Outcome = Result Report ReportRefusal

pub record IsFirstLine (text piece behind : List ℕ) : Type 0 where
  pub text_is : text ≡ piece ++ 10 ∷ behind
  pub clean : HasNo 10 piece

abbrev pub begun : ℕ → Tracked → Draft
begun version tracked = record { version = version; tracked = tracked; certs = []; points = []; place = places.Top }

pub data IsTrackJudged (version : ℕ) (text : List ℕ) (r : Outcome) : Type 0 where
  missing : HasNo 10 text → r ≡ Err (refusals.Syntax 2) → IsTrackJudged version text r
  no_names : (piece behind : List ℕ) → IsFirstLine text piece behind
      → ((texts : List (List ℕ)) → AreListed texts → piece ≢ track_text texts)
      → r ≡ Err (refusals.Syntax 2) → IsTrackJudged version text r
  unknown : (piece behind : List ℕ) (texts : List (List ℕ)) → IsFirstLine text piece behind → AreListed texts
      → piece ≡ track_text texts
      → (All IsNamed texts → ⊥) → r ≡ Err (refusals.UnknownName 2) → IsTrackJudged version text r
  repeated : (piece behind : List ℕ) (texts : List (List ℕ)) → IsFirstLine text piece behind → AreListed texts
      → piece ≡ track_text texts
      → All IsNamed texts → (AllPairs (λ s t. s ≢ t) texts → ⊥) → r ≡ Err (refusals.Order 2) → IsTrackJudged version text r
  lines : (piece behind : List ℕ) (texts : List (List ℕ)) (tracked : Tracked) → IsFirstLine text piece behind → AreListed texts
      → piece ≡ track_text texts
      → AreReadNames texts tracked.names → IsJudged (parts_of 10 behind) 3 (begun version tracked) r
      → IsTrackJudged version text r

pub data IsTextJudged (bytes : List ℕ) (r : Outcome) : Type 0 where
  missing : HasNo 10 bytes → r ≡ Err (refusals.Syntax 1) → IsTextJudged bytes r
  no_header : (piece behind : List ℕ) → IsFirstLine bytes piece behind
      → ((version : ℕ) → 1 ≤ version → version ≤ 2 → piece ≢ header_text version)
      → r ≡ Err (refusals.Syntax 1) → IsTextJudged bytes r
  header : (piece behind : List ℕ) (version : ℕ) → IsFirstLine bytes piece behind → 1 ≤ version → version ≤ 2
      → piece ≡ header_text version
      → IsTrackJudged version behind r → IsTextJudged bytes r

abbrev pub UnlessMemory : (Outcome → Type 0) → Outcome → Type 0
UnlessMemory judged (Err refusals.Memory) = Unit {0}
UnlessMemory judged (Ok report) = judged (Ok report)
UnlessMemory judged (Err (refusals.Syntax n)) = judged (Err (refusals.Syntax n))
UnlessMemory judged (Err (refusals.UnknownName n)) = judged (Err (refusals.UnknownName n))
UnlessMemory judged (Err (refusals.Order n)) = judged (Err (refusals.Order n))
UnlessMemory judged (Err (refusals.NotReduced n)) = judged (Err (refusals.NotReduced n))

abbrev pub IsJudgedOr : List (List ℕ) → ℕ → Draft → Outcome → Type 0
IsJudgedOr parts k d r = UnlessMemory (IsJudged parts k d) r

abbrev pub IsTrackTold : ℕ → List ℕ → Outcome → Type 0
IsTrackTold version text r = UnlessMemory (IsTrackJudged version text) r

abbrev pub IsTextTold : List ℕ → Outcome → Type 0
IsTextTold bytes r = UnlessMemory (IsTextJudged bytes) r

abbrev pub IsEndTold : ℕ → Draft → List ℕ → Result Draft ReportRefusal → Type 0
IsEndTold k d rest (Ok draft) = (d.place ≡ places.End) × (rest ≡ []) × (draft ≡ d)
IsEndTold k d rest (Err refusals.Memory) = Unit {0}
IsEndTold k d rest (Err (refusals.NotReduced n)) = AreRowsWrong d.place n
IsEndTold k d rest (Err (refusals.Syntax n)) = (n ≡ k) × AreRowsFine d.place × ((d.place ≡ places.End) × (rest ≡ []) → ⊥)
IsEndTold k d rest (Err (refusals.UnknownName n)) = ⊥
IsEndTold k d rest (Err (refusals.Order n)) = ⊥
