-- What a line makes of heads and procedures.
use Rattle.std.proofs.Common.{◌≡◌, ◌≢◌, ℕ, true, List, [], ◌∷◌, ◌++◌, Option, refl, ap}
use Rattle.proof_text.specs.declared.rows.SparseRow.{SparseRow}
use Rattle.proof_text.specs.declared.files.HeadRows.{HeadRows}
use Rattle.proof_text.specs.declared.files.EntryRows.{EntryRows}
use Rattle.proof_lines.specs.declared.lines.Line.{Line}
use Rattle.proof_lines.specs.declared.lines.Line.TheVariants.{Head, Entry, Row}
use Rattle.proof_read.specs.declared.front.Front.{Front}
use Rattle.proof_read.specs.Fronts.{entries_with, heads_with, is_allowed_in, row_in}

pub heads_pushed : (heads : List HeadRows) (head : HeadRows) (row : SparseRow)
    → heads ++ record head { rows = head.rows ++ row ∷ [] } ∷ [] ≡ heads_with (heads ++ head ∷ []) row
heads_pushed [] head row = refl
heads_pushed (h ∷ []) head row = refl
heads_pushed (h ∷ n ∷ heads) head row = ap (λ (hs : List HeadRows). h ∷ hs) (heads_pushed (n ∷ heads) head row)

pub entries_pushed : (entries : List EntryRows) (entry : EntryRows) (row : SparseRow)
    → entries ++ record entry { rows = entry.rows ++ row ∷ [] } ∷ [] ≡ entries_with (entries ++ entry ∷ []) row
entries_pushed [] entry row = refl
entries_pushed (e ∷ []) entry row = refl
entries_pushed (e ∷ n ∷ entries) entry row = ap (λ (es : List EntryRows). e ∷ es) (entries_pushed (n ∷ entries) entry row)

pub row_in_entries : (d : Front) (entries : List EntryRows) (entry : EntryRows) (row : SparseRow)
    → record d { entries = entries_with (entries ++ entry ∷ []) row } ≡ row_in d (entries ++ entry ∷ []) row
row_in_entries d [] entry row = refl
row_in_entries d (e ∷ entries) entry row = refl

pub all_allowed : (entries : List EntryRows) (line : Line) → entries ≡ [] → is_allowed_in entries line ≡ true
all_allowed [] line e = refl
all_allowed (x ∷ entries) line e = absurd cc

pub no_head_allowed : (entries : List EntryRows) (p : ℕ) (a : Option ℕ) → (entries ≡ [] → ⊥) → is_allowed_in entries (Head p a) ≢ true
no_head_allowed [] p a some e = some refl
no_head_allowed (x ∷ entries) p a some e = absurd cc

pub entry_allowed : (entries : List EntryRows) (p : ℕ) → is_allowed_in entries (Entry p) ≡ true
entry_allowed [] p = refl
entry_allowed (x ∷ entries) p = refl

pub row_allowed : (entries : List EntryRows) (row : SparseRow) → is_allowed_in entries (Row row) ≡ true
row_allowed [] row = refl
row_allowed (x ∷ entries) row = refl
