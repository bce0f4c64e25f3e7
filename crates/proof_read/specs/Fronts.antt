-- The lines of a proof file between the tracked names and the claims.
--
--   begun                    nothing is read
--   width_in heads entries, width_of d     how many words a row has that comes next: 17 under a procedure, 289 under a head, else none
--   heads_with heads row, entries_with entries row     the last of them has a row more
--   is_allowed_in entries line, is_allowed d line   the grammar allows the line behind d: a head comes before all procedures
--   row_in d entries row     d with a row more under the last of these procedures, or where there is none under the last head
--   becomes d line           d with what the line tells
--   front_text d             the text of the lines that d has told
--   IsFirstLine text piece behind   the piece is the text's first line, and behind what follows its newline
--   Outcome                  what was read, the number of the line behind it and the rest; or the number of the first line that is wrong
--   is_claims line           it is the line behind which claims stand
--   IsToldLine d piece line  the piece is the line's text, and the line can be written behind d
--   IsStep k d line r        r is what the line, of number k, makes of d, or that it isn't allowed; want of memory is free
--   IsMore d r               r is d, and there is more; want of memory is free
--   IsJudged k d piece r     the same of a piece, which may be no line's
--   IsFrontJudged r k d text r is what is told of the text behind d, whose first line has number k
--   AreRows d                rows of heads have 289 words and those of procedures 17, positions rise and no word is 0
--   IsFoundIn text read      the text is that of what was read, and the rest; the rows are such rows
--   IsFound text r           so it is where something was read
--   IsOfWords d              the addresses are words
--   IsReadAs d rest r        r is d with this rest; want of memory is free
--   IsFrontTold k d text r   so it is; want of memory is free
use Rattle.std.specs.Prelude.{◌≡◌, ◌≢◌, ℕ, ◌+◌, ◌<◌, ◌^◌, Bool, true, false, List, [], ◌∷◌, ◌++◌, All, codes, ◌⊎◌, Result, Ok, Err}
use Rattle.std.specs.List.{flat_map}
use Rattle.report_lines.specs.Parts.{HasNo}
use Rattle.proof_text.specs.declared.rows.SparseRow.{SparseRow}
use Rattle.proof_text.specs.declared.files.HeadRows.{HeadRows}
use Rattle.proof_text.specs.declared.files.EntryRows.{EntryRows}
use Rattle.proof_text.specs.Files.{AreRowsOfEntry, AreRowsOfHead}
use Rattle.proof_text.specs.Text.{entry_text, head_text}
use Rattle.proof_lines.specs.declared.lines.Line.{Line}
use Rattle.proof_lines.specs.declared.lines.Line.TheVariants.{Head, Entry, Row, Claims}
use Rattle.proof_lines.specs.Lines.{IsLine, IsPlace, line_text}
use Rattle.proof_read.specs.declared.front.Front.{Front}
use Rattle.proof_read.specs.declared.front.FrontRead.{FrontRead}
use Rattle.proof_read.specs.declared.front.FrontFault.{FrontFault}
use Rattle.proof_read.specs.declared.front.FrontFault.TheVariants.{Syntax, Memory}
use Rattle.proof_read.specs.declared.steps.Step.{Step}
use Rattle.proof_read.specs.declared.steps.Step.TheVariants as steps

abbrev pub begun : Front
begun = record { heads = []; entries = [] }

abbrev pub width_in : List HeadRows → List EntryRows → ℕ
width_in [] [] = 0
width_in (head ∷ heads) [] = 289
width_in heads (entry ∷ entries) = 17

abbrev pub width_of : Front → ℕ
width_of d = width_in d.heads d.entries

abbrev pub heads_with : List HeadRows → SparseRow → List HeadRows
heads_with [] row = []
heads_with (head ∷ []) row = record head { rows = head.rows ++ row ∷ [] } ∷ []
heads_with (head ∷ next ∷ heads) row = head ∷ heads_with (next ∷ heads) row

abbrev pub entries_with : List EntryRows → SparseRow → List EntryRows
entries_with [] row = []
entries_with (entry ∷ []) row = record entry { rows = entry.rows ++ row ∷ [] } ∷ []
entries_with (entry ∷ next ∷ entries) row = entry ∷ entries_with (next ∷ entries) row

abbrev pub is_allowed_in : List EntryRows → Line → Bool
is_allowed_in [] line = true
is_allowed_in (entry ∷ entries) (Head p a) = false
is_allowed_in (entry ∷ entries) (Entry p) = true
is_allowed_in (entry ∷ entries) (Row row) = true
is_allowed_in (entry ∷ entries) Claims = true

abbrev pub is_claims : Line → Bool
is_claims (Head p a) = false
is_claims (Entry p) = false
is_claims (Row row) = false
is_claims Claims = true

abbrev pub is_allowed : Front → Line → Bool
is_allowed d line = is_allowed_in d.entries line

abbrev pub row_in : Front → List EntryRows → SparseRow → Front
row_in d [] row = record d { heads = heads_with d.heads row }
row_in d (entry ∷ entries) row = record d { entries = entries_with (entry ∷ entries) row }

abbrev pub becomes : Front → Line → Front
becomes d (Head p a) = record d { heads = d.heads ++ record { proc_entry = p; address = a; rows = [] } ∷ [] }
becomes d (Entry p) = record d { entries = d.entries ++ record { proc_entry = p; rows = [] } ∷ [] }
becomes d (Row row) = row_in d d.entries row
becomes d Claims = d

abbrev pub front_text : Front → List ℕ
front_text d = flat_map head_text d.heads ++ flat_map entry_text d.entries

pub record IsFirstLine (text piece behind : List ℕ) : Type 0 where
  pub text_is : text ≡ piece ++ 10 ∷ behind
  pub clean : HasNo 10 piece

pub record IsToldLine (d : Front) (piece : List ℕ) (line : Line) : Type 0 where
  pub fits : IsLine (width_of d) line
  pub piece_is : piece ≡ line_text line

pub data Outcome : Type 0 where
  Left : (front : Front) (number : ℕ) (rest : List ℕ) → Outcome
  Wrong : (number : ℕ) → Outcome

pub data IsFrontJudged (r : Outcome) : ℕ → Front → List ℕ → Type 0 where
  missing : (k : ℕ) (d : Front) (text : List ℕ) → HasNo 10 text → r ≡ Wrong k → IsFrontJudged r k d text
  no_line : (k : ℕ) (d : Front) (text piece behind : List ℕ) → IsFirstLine text piece behind
      → ((line : Line) → IsToldLine d piece line → ⊥) → r ≡ Wrong k → IsFrontJudged r k d text
  not_allowed : (k : ℕ) (d : Front) (text piece behind : List ℕ) (line : Line) → IsFirstLine text piece behind → IsToldLine d piece line
      → is_claims line ≡ false → is_allowed d line ≢ true → r ≡ Wrong k → IsFrontJudged r k d text
  done : (k : ℕ) (d : Front) (text piece behind : List ℕ) → IsFirstLine text piece behind → piece ≡ line_text Claims
      → r ≡ Left d (k + 1) behind → IsFrontJudged r k d text
  goes_on : (k : ℕ) (d : Front) (text piece behind : List ℕ) (line : Line) → IsFirstLine text piece behind → IsToldLine d piece line
      → is_claims line ≡ false → is_allowed d line ≡ true
      → IsFrontJudged r (k + 1) (becomes d line) behind → IsFrontJudged r k d text

abbrev pub IsFrontTold : ℕ → Front → List ℕ → Result FrontRead FrontFault → Type 0
IsFrontTold k d text (Ok read) = IsFrontJudged (Left read.front read.number read.rest.now) k d text
IsFrontTold k d text (Err (Syntax n)) = IsFrontJudged (Wrong n) k d text
IsFrontTold k d text (Err Memory) = Unit {0}

abbrev pub IsStep : ℕ → Front → Line → Result Step FrontFault → Type 0
IsStep k d line (Ok (steps.Next next)) = (is_claims line ≡ false) × (is_allowed d line ≡ true) × (next ≡ becomes d line)
IsStep k d line (Ok (steps.Done next)) = (line ≡ Claims) × (next ≡ d)
IsStep k d line (Err (Syntax n)) = (n ≡ k) × (is_claims line ≡ false) × (is_allowed d line ≢ true)
IsStep k d line (Err Memory) = Unit {0}

abbrev pub IsMore : Front → Result Step FrontFault → Type 0
IsMore d (Ok (steps.Next next)) = next ≡ d
IsMore d (Ok (steps.Done next)) = ⊥
IsMore d (Err (Syntax n)) = ⊥
IsMore d (Err Memory) = Unit {0}

abbrev pub IsJudged : ℕ → Front → List ℕ → Result Step FrontFault → Type 0
IsJudged k d piece (Ok step) = (line : Line) × IsToldLine d piece line × IsStep k d line (Ok step)
IsJudged k d piece (Err (Syntax n)) =
    ((n ≡ k) × ((line : Line) → IsToldLine d piece line → ⊥)) ⊎ ((line : Line) × IsToldLine d piece line × IsStep k d line (Err (Syntax n)))
IsJudged k d piece (Err Memory) = Unit {0}

pub record AreRows (d : Front) : Type 0 where
  pub maps : All AreRowsOfHead d.heads
  pub states : All AreRowsOfEntry d.entries

pub record IsFoundIn (text : List ℕ) (read : FrontRead) : Type 0 where
  pub text_is : text ≡ front_text read.front ++ (codes "claims" ++ 10 ∷ read.rest.now)
  pub rows : AreRows read.front

abbrev pub IsFound : List ℕ → Result FrontRead FrontFault → Type 0
IsFound text (Ok read) = IsFoundIn text read
IsFound text (Err fault) = Unit {0}

pub record IsOfWords (d : Front) : Type 0 where
  pub heads : All (λ h. (h.proc_entry < 2 ^ 64) × IsPlace h.address) d.heads
  pub entries : All (λ e. e.proc_entry < 2 ^ 64) d.entries

abbrev pub IsReadAs : Front → List ℕ → Result FrontRead FrontFault → Type 0
IsReadAs d rest (Ok read) = (read.front ≡ d) × (read.rest.now ≡ rest)
IsReadAs d rest (Err (Syntax n)) = ⊥
IsReadAs d rest (Err Memory) = Unit {0}
