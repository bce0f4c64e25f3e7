-- The text of heads and procedures is told as these.
use Rattle.std.proofs.Common.{◌≡◌, ℕ, ◌+◌, ◌<◌, ◌^◌, true, List, [], ◌∷◌, ◌++◌, All, codes, Result, Ok, Err, append_assoc, append-nil, refl, sym, subst, ap, ◌∙◌}
use Rattle.std.specs.List.{flat_map}
use Rattle.std.proofs.lemmas.List.Concat.{flat_map-cons}
use Rattle.std.proofs.lemmas.List.Elements.{All-head, All-tail}
use Rattle.proof_text.specs.declared.rows.SparseRow.{SparseRow}
use Rattle.proof_text.specs.declared.files.HeadRows.{HeadRows}
use Rattle.proof_text.specs.declared.files.EntryRows.{EntryRows}
use Rattle.proof_text.specs.Files.{AreRowsOfEntry, AreRowsOfHead, IsRowLine}
use Rattle.proof_text.specs.Text.{entry_text, head_text, row_text}
use Rattle.proof_lines.specs.declared.lines.Line.{Line}
use Rattle.proof_lines.specs.declared.lines.Line.TheVariants.{Head, Entry, Row, Claims}
use Rattle.proof_lines.specs.Lines.{IsPlace, line_text}
use Rattle.proof_read.specs.declared.front.Front.{Front}
use Rattle.proof_read.specs.declared.front.FrontRead.{FrontRead}
use Rattle.proof_read.specs.declared.front.FrontFault.{FrontFault}
use Rattle.proof_read.specs.declared.front.FrontFault.TheVariants.{Syntax, Memory}
use Rattle.proof_read.specs.Fronts.{AreRows, IsFrontJudged, IsFrontTold, IsOfWords, IsReadAs, Left, Outcome, Wrong, begun, front_text, is_allowed, width_in, width_of}
use Rattle.proof_read.proofs.Back.{begins, last_back, step_back}
use Rattle.proof_read.proofs.Told.{front_left, rest_left}
use Rattle.proof_read.proofs.Pushing.{entries_pushed, heads_pushed, row_in_entries}

abbrev both : List HeadRows → List EntryRows → Front
both heads entries = record { heads = heads; entries = entries }

abbrev more_rows : HeadRows → List SparseRow → HeadRows
more_rows h rows = record h { rows = h.rows ++ rows }

abbrev more_states : EntryRows → List SparseRow → EntryRows
more_states e rows = record e { rows = e.rows ++ rows }

width_head : (heads : List HeadRows) (h : HeadRows) → 289 ≡ width_in (heads ++ h ∷ []) []
width_head [] h = refl
width_head (x ∷ heads) h = refl

width_entry : (heads : List HeadRows) (entries : List EntryRows) (e : EntryRows) → 17 ≡ width_in heads (entries ++ e ∷ [])
width_entry [] [] e = refl
width_entry [] (x ∷ entries) e = refl
width_entry (h ∷ heads) [] e = refl
width_entry (h ∷ heads) (x ∷ entries) e = refl

row_allowed : (heads : List HeadRows) (entries : List EntryRows) (row : SparseRow) → is_allowed (both heads entries) (Row row) ≡ true
row_allowed heads [] row = refl
row_allowed heads (e ∷ entries) row = refl

entry_allowed : (heads : List HeadRows) (entries : List EntryRows) (p : ℕ) → is_allowed (both heads entries) (Entry p) ≡ true
entry_allowed heads [] p = refl
entry_allowed heads (e ∷ entries) p = refl

claims_allowed : (heads : List HeadRows) (entries : List EntryRows) → is_allowed (both heads entries) Claims ≡ true
claims_allowed heads [] = refl
claims_allowed heads (e ∷ entries) = refl

rows_first : (x : SparseRow) (rows : List SparseRow) (more : List ℕ)
    → flat_map row_text (x ∷ rows) ++ more ≡ line_text (Row x) ++ 10 ∷ (flat_map row_text rows ++ more)
rows_first x rows more =
    ap (λ (t : List ℕ). t ++ more) (flat_map-cons row_text x rows) ∙ append_assoc (row_text x) (flat_map row_text rows) more
    ∙ append_assoc (line_text (Row x)) (10 ∷ []) (flat_map row_text rows ++ more)

head_first : (h : HeadRows) (more : List ℕ)
    → head_text h ++ more ≡ line_text (Head h.proc_entry h.address) ++ 10 ∷ (flat_map row_text h.rows ++ more)
head_first h more =
    append_assoc (line_text (Head h.proc_entry h.address) ++ 10 ∷ []) (flat_map row_text h.rows) more
    ∙ append_assoc (line_text (Head h.proc_entry h.address)) (10 ∷ []) (flat_map row_text h.rows ++ more)

entry_first : (h : EntryRows) (more : List ℕ) → entry_text h ++ more ≡ line_text (Entry h.proc_entry) ++ 10 ∷ (flat_map row_text h.rows ++ more)
entry_first h more =
    append_assoc (line_text (Entry h.proc_entry) ++ 10 ∷ []) (flat_map row_text h.rows) more
    ∙ append_assoc (line_text (Entry h.proc_entry)) (10 ∷ []) (flat_map row_text h.rows ++ more)

abbrev IsWordHead : HeadRows → Type 0
IsWordHead h = (h.proc_entry < 2 ^ 64) × IsPlace h.address

abbrev IsWordEntry : EntryRows → Type 0
IsWordEntry e = e.proc_entry < 2 ^ 64

module _ (r : Outcome) where
  abbrev Judged : ℕ → Front → List ℕ → Type 0
  Judged k d text = IsFrontJudged r k d text

  abbrev Later : Front → List ℕ → Type 0
  Later d text = (m : ℕ) × Judged m d text

  rows_back : (rows : List SparseRow) (heads : List HeadRows) (h : HeadRows) (k : ℕ) (more : List ℕ) → All (IsRowLine 289) rows
      → Judged k (both (heads ++ h ∷ []) []) (flat_map row_text rows ++ more) → Later (both (heads ++ more_rows h rows ∷ []) []) more
  rows_back [] heads h k more fit judged =
      (k, subst (λ (rs : List SparseRow). Judged k (both (heads ++ record h { rows = rs } ∷ []) []) more) (sym (append-nil h.rows)) judged)
  rows_back (x ∷ rows) heads h k more fit judged =
      let d = both (heads ++ h ∷ []) [] in
      let fits : IsRowLine (width_of d) x = subst (λ (w : ℕ). IsRowLine w x) (width_head heads h) (All-head (IsRowLine 289) x rows fit) in
      let cut = begins d (flat_map row_text (x ∷ rows) ++ more) (flat_map row_text rows ++ more) (Row x) fits (rows_first x rows more) in
      let next = step_back d (flat_map row_text (x ∷ rows) ++ more) (flat_map row_text rows ++ more) (Row x) fits cut r k refl refl judged in
      let with = subst (λ (hs : List HeadRows). Judged (k + 1) (both hs []) (flat_map row_text rows ++ more)) (sym (heads_pushed heads h x)) next in
      let rest = rows_back rows heads (more_rows h (x ∷ [])) (k + 1) more (All-tail (IsRowLine 289) x rows fit) with in
      (rest.0, subst (λ (rs : List SparseRow). Judged rest.0 (both (heads ++ record h { rows = rs } ∷ []) []) more) (append_assoc h.rows (x ∷ []) rows) rest.1)

  states_back : (rows : List SparseRow) (heads : List HeadRows) (entries : List EntryRows) (h : EntryRows) (k : ℕ) (more : List ℕ) → All (IsRowLine 17) rows
      → Judged k (both heads (entries ++ h ∷ [])) (flat_map row_text rows ++ more) → Later (both heads (entries ++ more_states h rows ∷ [])) more
  states_back [] heads entries h k more fit judged =
      (k, subst (λ (rs : List SparseRow). Judged k (both heads (entries ++ record h { rows = rs } ∷ [])) more) (sym (append-nil h.rows)) judged)
  states_back (x ∷ rows) heads entries h k more fit judged =
      let d = both heads (entries ++ h ∷ []) in
      let fits : IsRowLine (width_of d) x = subst (λ (w : ℕ). IsRowLine w x) (width_entry heads entries h) (All-head (IsRowLine 17) x rows fit) in
      let cut = begins d (flat_map row_text (x ∷ rows) ++ more) (flat_map row_text rows ++ more) (Row x) fits (rows_first x rows more) in
      let next = step_back d (flat_map row_text (x ∷ rows) ++ more) (flat_map row_text rows ++ more) (Row x) fits cut r k refl (row_allowed heads (entries ++ h ∷ []) x) judged in
      let with : Judged (k + 1) (both heads (entries ++ more_states h (x ∷ []) ∷ [])) (flat_map row_text rows ++ more) =
      subst (λ (f : Front). Judged (k + 1) f (flat_map row_text rows ++ more))
      (sym (row_in_entries d entries h x) ∙ ap (both heads) (sym (entries_pushed entries h x))) next in
      let rest = states_back rows heads entries (more_states h (x ∷ [])) (k + 1) more (All-tail (IsRowLine 17) x rows fit) with in
      (rest.0, subst (λ (rs : List SparseRow). Judged rest.0 (both heads (entries ++ record h { rows = rs } ∷ [])) more) (append_assoc h.rows (x ∷ []) rows) rest.1)

  head_back : (heads : List HeadRows) (h : HeadRows) (k : ℕ) (more : List ℕ) → AreRowsOfHead h → (h.proc_entry < 2 ^ 64) × IsPlace h.address
      → Judged k (both heads []) (head_text h ++ more) → Later (both (heads ++ h ∷ []) []) more
  head_back heads h k more fit words judged =
      let new : HeadRows = record { proc_entry = h.proc_entry; address = h.address; rows = [] } in
      let line : Line = Head h.proc_entry h.address in
      let cut = begins (both heads []) (head_text h ++ more) (flat_map row_text h.rows ++ more) line words (head_first h more) in
      let next = step_back (both heads []) (head_text h ++ more) (flat_map row_text h.rows ++ more) line words cut r k refl refl judged in
      rows_back h.rows heads new (k + 1) more fit next

  entry_back : (heads : List HeadRows) (entries : List EntryRows) (h : EntryRows) (k : ℕ) (more : List ℕ) → AreRowsOfEntry h → h.proc_entry < 2 ^ 64
      → Judged k (both heads entries) (entry_text h ++ more) → Later (both heads (entries ++ h ∷ [])) more
  entry_back heads entries h k more fit words judged =
      let new : EntryRows = record { proc_entry = h.proc_entry; rows = [] } in
      let line : Line = Entry h.proc_entry in
      let cut = begins (both heads entries) (entry_text h ++ more) (flat_map row_text h.rows ++ more) line words (entry_first h more) in
      let next = step_back (both heads entries) (entry_text h ++ more) (flat_map row_text h.rows ++ more) line words cut r k refl (entry_allowed heads entries h.proc_entry) judged in
      states_back h.rows heads entries new (k + 1) more fit next

  heads_back : (todo heads : List HeadRows) (k : ℕ) (more : List ℕ) → All AreRowsOfHead todo → All IsWordHead todo
      → Judged k (both heads []) (flat_map head_text todo ++ more) → Later (both (heads ++ todo) []) more
  heads_back [] heads k more fit words judged = (k, subst (λ (hs : List HeadRows). Judged k (both hs []) more) (sym (append-nil heads)) judged)
  heads_back (h ∷ todo) heads k more fit words judged =
      let text : flat_map head_text (h ∷ todo) ++ more ≡ head_text h ++ (flat_map head_text todo ++ more) =
      ap (λ (t : List ℕ). t ++ more) (flat_map-cons head_text h todo) ∙ append_assoc (head_text h) (flat_map head_text todo) more in
      let one = head_back heads h k (flat_map head_text todo ++ more) (All-head AreRowsOfHead h todo fit) (All-head IsWordHead h todo words)
      (subst (λ (t : List ℕ). Judged k (both heads []) t) text judged) in
      let rest = heads_back todo (heads ++ h ∷ []) one.0 more (All-tail AreRowsOfHead h todo fit) (All-tail IsWordHead h todo words) one.1 in
      (rest.0, subst (λ (hs : List HeadRows). Judged rest.0 (both hs []) more) (append_assoc heads (h ∷ []) todo) rest.1)

  entries_back : (heads : List HeadRows) (todo entries : List EntryRows) (k : ℕ) (more : List ℕ) → All AreRowsOfEntry todo → All IsWordEntry todo
      → Judged k (both heads entries) (flat_map entry_text todo ++ more) → Later (both heads (entries ++ todo)) more
  entries_back heads [] entries k more fit words judged = (k, subst (λ (es : List EntryRows). Judged k (both heads es) more) (sym (append-nil entries)) judged)
  entries_back heads (h ∷ todo) entries k more fit words judged =
      let text : flat_map entry_text (h ∷ todo) ++ more ≡ entry_text h ++ (flat_map entry_text todo ++ more) =
      ap (λ (t : List ℕ). t ++ more) (flat_map-cons entry_text h todo) ∙ append_assoc (entry_text h) (flat_map entry_text todo) more in
      let one = entry_back heads entries h k (flat_map entry_text todo ++ more) (All-head AreRowsOfEntry h todo fit) (All-head IsWordEntry h todo words)
      (subst (λ (t : List ℕ). Judged k (both heads entries) t) text judged) in
      let rest = entries_back heads todo (entries ++ h ∷ []) one.0 more (All-tail AreRowsOfEntry h todo fit) (All-tail IsWordEntry h todo words) one.1 in
      (rest.0, subst (λ (es : List EntryRows). Judged rest.0 (both heads es) more) (append_assoc entries (h ∷ []) todo) rest.1)

  -- the whole front is told, and what is left
  front_back : (d : Front) (rest : List ℕ) → AreRows d → IsOfWords d → Judged 3 begun (front_text d ++ (codes "claims" ++ 10 ∷ rest))
      → (n : ℕ) × (r ≡ Left d n rest)
  front_back d rest rows words judged =
      let last : List ℕ = codes "claims" ++ 10 ∷ rest in
      let text = append_assoc (flat_map head_text d.heads) (flat_map entry_text d.entries) last in
      let heads = heads_back d.heads [] 3 (flat_map entry_text d.entries ++ last) rows.maps words.heads (subst (λ (t : List ℕ). Judged 3 begun t) text judged) in
      let all = entries_back d.heads d.entries [] heads.0 last rows.states words.entries heads.1 in
      let cut = begins (both d.heads d.entries) last rest Claims tt refl in
      (all.0 + 1, last_back (both d.heads d.entries) last rest Claims tt cut r all.0 refl (claims_allowed d.heads d.entries) all.1)

pub read_again : (d : Front) (rest text : List ℕ) (r : Result FrontRead FrontFault) → AreRows d → IsOfWords d
    → text ≡ front_text d ++ (codes "claims" ++ 10 ∷ rest) → IsFrontTold 3 begun text r → IsReadAs d rest r
read_again d rest text (Ok read) rows words is told =
    let o : Outcome = Left read.front read.number read.rest.now in
    let e = (front_back o d rest rows words (subst (λ (t : List ℕ). IsFrontJudged o 3 begun t) is told)).1 in
    (ap (front_left d) e, ap (rest_left rest) e)
read_again d rest text (Err (Syntax n)) rows words is told =
    let e = front_back (Wrong n) d rest rows words (subst (λ (t : List ℕ). IsFrontJudged (Wrong n) 3 begun t) is told) in
    let x : Wrong n ≡ Left d e.0 rest = e.1 in absurd cc
read_again d rest text (Err Memory) rows words is told = tt
