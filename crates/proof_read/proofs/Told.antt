-- The text of what was read.
use Rattle.std.proofs.Common.{◌≡◌, ℕ, ◌+◌, true, false, List, [], ◌∷◌, ◌++◌, All, codes, get_or, Option, Result, Ok, Err, append_assoc, append-nil, refl, sym, subst, ap, ◌∙◌, arith}
use Rattle.std.specs.List.{flat_map}
use Rattle.std.proofs.lemmas.List.Concat.{flat_map-append, flat_map-cons}
use Rattle.std.proofs.lemmas.List.Elements.{All-cons, All-head, All-nil, All-push, All-tail}
use Rattle.number_text.specs.Numerals.{hex}
use Rattle.proof_text.specs.declared.rows.SparseRow.{SparseRow}
use Rattle.proof_text.specs.declared.files.HeadRows.{HeadRows}
use Rattle.proof_text.specs.declared.files.EntryRows.{EntryRows}
use Rattle.proof_text.specs.Files.{AreRowsOfEntry, AreRowsOfHead, IsRowLine}
use Rattle.proof_text.specs.Text.{entry_text, head_text, place_text, row_text}
use Rattle.proof_lines.specs.declared.lines.Line.{Line}
use Rattle.proof_lines.specs.declared.lines.Line.TheVariants.{Head, Entry, Row, Claims}
use Rattle.proof_lines.specs.Lines.{IsLine, line_text}
use Rattle.proof_read.specs.declared.front.Front.{Front}
use Rattle.proof_read.specs.declared.front.FrontRead.{FrontRead}
use Rattle.proof_read.specs.declared.front.FrontFault.{FrontFault}
use Rattle.proof_read.specs.Fronts.{IsFirstLine, IsFrontJudged, IsToldLine, Left, Outcome, Wrong, AreRows, IsFound, IsFrontTold, begun, becomes, done, entries_with, front_text, goes_on, heads_with, is_allowed_in, is_claims, missing, no_line, not_allowed, width_in}

abbrev row_ended : SparseRow → List ℕ
row_ended row = line_text (Row row) ++ 10 ∷ []

row_end : (row : SparseRow) → row_text row ≡ row_ended row
row_end row = refl

rows_more : (rows : List SparseRow) (row : SparseRow) → flat_map row_text (rows ++ row ∷ []) ≡ flat_map row_text rows ++ row_ended row
rows_more rows row =
    flat_map-append row_text rows (row ∷ [])
    ∙ ap (λ (t : List ℕ). flat_map row_text rows ++ t) (flat_map-cons row_text row [] ∙ append-nil (row_text row) ∙ row_end row)

abbrev with_row : HeadRows → SparseRow → HeadRows
with_row head row = record head { rows = head.rows ++ row ∷ [] }

abbrev entry_with_row : EntryRows → SparseRow → EntryRows
entry_with_row entry row = record entry { rows = entry.rows ++ row ∷ [] }

abbrev head_line : HeadRows → List ℕ
head_line head = codes "head " ++ hex head.proc_entry ++ codes " " ++ place_text head.address ++ 10 ∷ []

abbrev entry_line : EntryRows → List ℕ
entry_line entry = codes "entry " ++ hex entry.proc_entry ++ 10 ∷ []

-- a head's text is its line and those of its rows
head_by_line : (head : HeadRows) → head_text head ≡ head_line head ++ flat_map row_text head.rows
head_by_line head = simp append_assoc

entry_by_line : (entry : EntryRows) → entry_text entry ≡ entry_line entry ++ flat_map row_text entry.rows
entry_by_line entry = simp append_assoc

head_more : (head : HeadRows) (row : SparseRow) → head_text (with_row head row) ≡ head_text head ++ row_ended row
head_more head row =
    head_by_line (with_row head row) ∙ ap (λ (t : List ℕ). head_line head ++ t) (rows_more head.rows row)
    ∙ sym (append_assoc (head_line head) (flat_map row_text head.rows) (row_ended row))
    ∙ ap (λ (t : List ℕ). t ++ row_ended row) (sym (head_by_line head))

entry_more : (entry : EntryRows) (row : SparseRow) → entry_text (entry_with_row entry row) ≡ entry_text entry ++ row_ended row
entry_more entry row =
    entry_by_line (entry_with_row entry row) ∙ ap (λ (t : List ℕ). entry_line entry ++ t) (rows_more entry.rows row)
    ∙ sym (append_assoc (entry_line entry) (flat_map row_text entry.rows) (row_ended row))
    ∙ ap (λ (t : List ℕ). t ++ row_ended row) (sym (entry_by_line entry))

heads_row : (h : HeadRows) (heads : List HeadRows) (row : SparseRow)
    → flat_map head_text (heads_with (h ∷ heads) row) ≡ flat_map head_text (h ∷ heads) ++ row_ended row
heads_row h [] row =
    flat_map-cons head_text (with_row h row) [] ∙ append-nil (head_text (with_row h row)) ∙ head_more h row
    ∙ ap (λ (t : List ℕ). t ++ row_ended row) (sym (flat_map-cons head_text h [] ∙ append-nil (head_text h)))
heads_row h (n ∷ heads) row =
    flat_map-cons head_text h (heads_with (n ∷ heads) row) ∙ ap (λ (t : List ℕ). head_text h ++ t) (heads_row n heads row)
    ∙ sym (append_assoc (head_text h) (flat_map head_text (n ∷ heads)) (row_ended row))
    ∙ ap (λ (t : List ℕ). t ++ row_ended row) (sym (flat_map-cons head_text h (n ∷ heads)))

entries_row : (h : EntryRows) (entries : List EntryRows) (row : SparseRow)
    → flat_map entry_text (entries_with (h ∷ entries) row) ≡ flat_map entry_text (h ∷ entries) ++ row_ended row
entries_row h [] row =
    flat_map-cons entry_text (entry_with_row h row) [] ∙ append-nil (entry_text (entry_with_row h row)) ∙ entry_more h row
    ∙ ap (λ (t : List ℕ). t ++ row_ended row) (sym (flat_map-cons entry_text h [] ∙ append-nil (entry_text h)))
entries_row h (n ∷ entries) row =
    flat_map-cons entry_text h (entries_with (n ∷ entries) row) ∙ ap (λ (t : List ℕ). entry_text h ++ t) (entries_row n entries row)
    ∙ sym (append_assoc (entry_text h) (flat_map entry_text (n ∷ entries)) (row_ended row))
    ∙ ap (λ (t : List ℕ). t ++ row_ended row) (sym (flat_map-cons entry_text h (n ∷ entries)))

abbrev text_in : List HeadRows → List EntryRows → List ℕ
text_in heads entries = flat_map head_text heads ++ flat_map entry_text entries

nowhere : (row : SparseRow) → IsRowLine 0 row → ⊥
nowhere row fit = by row fit
  where
    by : (row : SparseRow) → IsRowLine 0 row → ⊥
    by row fit = let p = fit.is_sparse.placed 0 (get_or row.words 0 (record { position = 0; word = 0 })) (omega (arith, fit.some)) in omega (arith, p)

abbrev headed : ℕ → Option ℕ → HeadRows
headed p a = record { proc_entry = p; address = a; rows = [] }

abbrev entered : ℕ → EntryRows
entered p = record { proc_entry = p; rows = [] }

head_new : (p : ℕ) (a : Option ℕ) → head_text (headed p a) ++ [] ≡ line_text (Head p a) ++ 10 ∷ []
head_new p a = append-nil (head_text (headed p a)) ∙ head_by_line (headed p a) ∙ append-nil (head_line (headed p a))

entry_new : (p : ℕ) → entry_text (entered p) ++ [] ≡ line_text (Entry p) ++ 10 ∷ []
entry_new p = append-nil (entry_text (entered p)) ∙ entry_by_line (entered p) ∙ append-nil (entry_line (entered p))

-- a line adds its text
line_told : (heads : List HeadRows) (entries : List EntryRows) (line : Line) → IsLine (width_in heads entries) line → is_claims line ≡ false
    → is_allowed_in entries line ≡ true
    → front_text (becomes (record { heads = heads; entries = entries }) line) ≡ text_in heads entries ++ (line_text line ++ 10 ∷ [])
line_told heads [] (Head p a) fits other allowed =
    append-nil (flat_map head_text (heads ++ headed p a ∷ [])) ∙ flat_map-append head_text heads (headed p a ∷ [])
    ∙ ap (λ (t : List ℕ). flat_map head_text heads ++ t) (flat_map-cons head_text (headed p a) [] ∙ head_new p a)
    ∙ ap (λ (t : List ℕ). t ++ (line_text (Head p a) ++ 10 ∷ [])) (sym (append-nil (flat_map head_text heads)))
line_told heads (e ∷ entries) (Head p a) fits other allowed = absurd cc
line_told heads entries (Entry p) fits other allowed =
    ap (λ (t : List ℕ). flat_map head_text heads ++ t)
    (flat_map-append entry_text entries (entered p ∷ []) ∙ ap (λ (t : List ℕ). flat_map entry_text entries ++ t) (flat_map-cons entry_text (entered p) [] ∙ entry_new p))
    ∙ sym (append_assoc (flat_map head_text heads) (flat_map entry_text entries) (line_text (Entry p) ++ 10 ∷ []))
line_told [] [] (Row row) fits other allowed = absurd (nowhere row fits)
line_told (h ∷ heads) [] (Row row) fits other allowed =
    append-nil (flat_map head_text (heads_with (h ∷ heads) row)) ∙ heads_row h heads row
    ∙ ap (λ (t : List ℕ). t ++ row_ended row) (sym (append-nil (flat_map head_text (h ∷ heads))))
line_told heads (e ∷ entries) (Row row) fits other allowed =
    ap (λ (t : List ℕ). flat_map head_text heads ++ t) (entries_row e entries row)
    ∙ sym (append_assoc (flat_map head_text heads) (flat_map entry_text (e ∷ entries)) (row_ended row))
line_told heads entries Claims fits other allowed = absurd cc

-- a line and what is behind it
text_on : (d : Front) (text piece behind : List ℕ) (line : Line) → IsFirstLine text piece behind → IsToldLine d piece line → is_claims line ≡ false
    → is_allowed_in d.entries line ≡ true → front_text d ++ text ≡ front_text (becomes d line) ++ behind
text_on d text piece behind line cut told other allowed =
    ap (λ (t : List ℕ). text_in d.heads d.entries ++ t) (cut.text_is ∙ ap (λ (t : List ℕ). t ++ 10 ∷ behind) told.piece_is ∙ sym (append_assoc (line_text line) (10 ∷ []) behind))
    ∙ sym (append_assoc (text_in d.heads d.entries) (line_text line ++ 10 ∷ []) behind)
    ∙ ap (λ (t : List ℕ). t ++ behind) (sym (line_told d.heads d.entries line told.fits other allowed))

abbrev pub front_left : Front → Outcome → Front
front_left d (Left f n rest) = f
front_left d (Wrong n) = d

abbrev pub rest_left : List ℕ → Outcome → List ℕ
rest_left d (Left f n rest) = rest
rest_left d (Wrong n) = d

-- what was read is what the text begins with
pub text_read : (r : Outcome) (f : Front) (n : ℕ) (rest : List ℕ) (k : ℕ) (d : Front) (text : List ℕ) → r ≡ Left f n rest → IsFrontJudged r k d text
    → front_text d ++ text ≡ front_text f ++ (codes "claims" ++ 10 ∷ rest)
text_read r f n rest k d text is (missing k' d' text' none e) = let x : Wrong k ≡ Left f n rest = sym e ∙ is in absurd cc
text_read r f n rest k d text is (no_line k' d' text' piece behind cut none e) = let x : Wrong k ≡ Left f n rest = sym e ∙ is in absurd cc
text_read r f n rest k d text is (not_allowed k' d' text' piece behind line cut told other wrong e) = let x : Wrong k ≡ Left f n rest = sym e ∙ is in absurd cc
text_read r f n rest k d text is (done k' d' text' piece behind cut last e) =
    let x : Left d (k + 1) behind ≡ Left f n rest = sym e ∙ is in
    let same : d ≡ f = ap (front_left d) x in
    let left : behind ≡ rest = ap (rest_left []) x in
    (λ i. front_text (same i) ++ cut.text_is i) ∙ (λ i. front_text f ++ (last i ++ 10 ∷ left i))
text_read r f n rest k d text is (goes_on k' d' text' piece behind line cut told other allowed judged) =
    text_on d text piece behind line cut told other allowed ∙ text_read r f n rest (k + 1) (becomes d line) behind is judged

maps_row : (h : HeadRows) (heads : List HeadRows) (row : SparseRow) → IsRowLine 289 row → All AreRowsOfHead (h ∷ heads) → All AreRowsOfHead (heads_with (h ∷ heads) row)
maps_row h [] row fit all =
    All-cons AreRowsOfHead (with_row h row) [] (All-push (IsRowLine 289) h.rows row (All-head AreRowsOfHead h [] all) fit) (All-nil AreRowsOfHead)
maps_row h (n ∷ heads) row fit all =
    All-cons AreRowsOfHead h (heads_with (n ∷ heads) row) (All-head AreRowsOfHead h (n ∷ heads) all) (maps_row n heads row fit (All-tail AreRowsOfHead h (n ∷ heads) all))

states_row : (h : EntryRows) (entries : List EntryRows) (row : SparseRow) → IsRowLine 17 row → All AreRowsOfEntry (h ∷ entries) → All AreRowsOfEntry (entries_with (h ∷ entries) row)
states_row h [] row fit all =
    All-cons AreRowsOfEntry (entry_with_row h row) [] (All-push (IsRowLine 17) h.rows row (All-head AreRowsOfEntry h [] all) fit) (All-nil AreRowsOfEntry)
states_row h (n ∷ entries) row fit all =
    All-cons AreRowsOfEntry h (entries_with (n ∷ entries) row) (All-head AreRowsOfEntry h (n ∷ entries) all) (states_row n entries row fit (All-tail AreRowsOfEntry h (n ∷ entries) all))

rows_on : (heads : List HeadRows) (entries : List EntryRows) (line : Line) → IsLine (width_in heads entries) line
    → All AreRowsOfHead heads → All AreRowsOfEntry entries → AreRows (becomes (record { heads = heads; entries = entries }) line)
rows_on heads entries (Head p a) fits maps states =
    record { maps = All-push AreRowsOfHead heads (headed p a) maps (All-nil (IsRowLine 289)); states = states }
rows_on heads entries (Entry p) fits maps states =
    record { maps = maps; states = All-push AreRowsOfEntry entries (entered p) states (All-nil (IsRowLine 17)) }
rows_on [] [] (Row row) fits maps states = absurd (nowhere row fits)
rows_on (h ∷ heads) [] (Row row) fits maps states = record { maps = maps_row h heads row fits maps; states = states }
rows_on heads (e ∷ entries) (Row row) fits maps states = record { maps = maps; states = states_row e entries row fits states }
rows_on heads entries Claims fits maps states = record { maps = maps; states = states }

pub rows_read : (r : Outcome) (f : Front) (n : ℕ) (rest : List ℕ) (k : ℕ) (d : Front) (text : List ℕ) → r ≡ Left f n rest → IsFrontJudged r k d text
    → AreRows d → AreRows f
rows_read r f n rest k d text is (missing k' d' text' none e) rows = let x : Wrong k ≡ Left f n rest = sym e ∙ is in absurd cc
rows_read r f n rest k d text is (no_line k' d' text' piece behind cut none e) rows = let x : Wrong k ≡ Left f n rest = sym e ∙ is in absurd cc
rows_read r f n rest k d text is (not_allowed k' d' text' piece behind line cut told other wrong e) rows = let x : Wrong k ≡ Left f n rest = sym e ∙ is in absurd cc
rows_read r f n rest k d text is (done k' d' text' piece behind cut last e) rows =
    let x : Left d (k + 1) behind ≡ Left f n rest = sym e ∙ is in subst AreRows (ap (front_left d) x) rows
rows_read r f n rest k d text is (goes_on k' d' text' piece behind line cut told other allowed judged) rows =
    rows_read r f n rest (k + 1) (becomes d line) behind is judged (rows_on d.heads d.entries line told.fits rows.maps rows.states)

pub found : (text : List ℕ) (r : Result FrontRead FrontFault) → IsFrontTold 3 begun text r → IsFound text r
found text (Ok read) told = record {
  text_is = text_read (Left read.front read.number read.rest.now) read.front read.number read.rest.now 3 begun text refl told;
  rows = rows_read (Left read.front read.number read.rest.now) read.front read.number read.rest.now 3 begun text refl told
      (record { maps = All-nil AreRowsOfHead; states = All-nil AreRowsOfEntry });
}
found text (Err fault) told = tt
