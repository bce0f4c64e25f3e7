-- A row that is read is one of a report.
use Rattle.std.proofs.Common.{◌≡◌, ◌≢◌, ℕ, suc, ◌+◌, ◌<◌, ◌≤◌, Bool, cond, List, [], ◌∷◌, length, refl, sym, subst, ap, ◌∙◌, arith, ⊎_elim}
use Rattle.std.proofs.lemmas.Bool.{cases_eq, eq-eqb, ne_eqb}
use Rattle.word_rows.specs.Rows.{lead}
use Rattle.report_text.specs.declared.names.Name.{Name}
use Rattle.report_text.specs.Text.{name_text}
use Rattle.report_lines.specs.Relations.{IsRelation, IsRowOf, terms_of}
use Rattle.report_lines.specs.Terms.{Term}
use Rattle.report_read.proofs.Kept.{IsRowAt}

-- a row with terms leads at a name
pub lead_named : (names : List Name) (row : List ℕ) → terms_of names row ≢ [] → lead row < length names
lead_named [] row some = absurd (some refl)
lead_named (name ∷ names) [] some = absurd (some refl)
lead_named (name ∷ names) (w ∷ row) some = ⊎_elim (zero_there (lead_named names row)) nonzero_there (cases_eq w 0)
  where
    zero_there : (terms_of names row ≢ [] → lead row < length names) → w ≡ 0 → lead (w ∷ row) < length (name ∷ names)
    zero_there later z =
        let l = later (λ e. some (ap (λ (b : Bool). cond b (terms_of names row) ((w, name_text name) ∷ terms_of names row)) (eq-eqb w 0 z) ∙ e)) in
        subst (λ (b : Bool). cond b (lead row + 1) 0 < suc (length names)) (sym (eq-eqb w 0 z)) (omega arith)

    nonzero_there : w ≢ 0 → lead (w ∷ row) < length (name ∷ names)
    nonzero_there nz = subst (λ (b : Bool). cond b (lead row + 1) 0 < suc (length names)) (sym (ne_eqb w 0 nz)) (omega arith)

pub row_at : (names : List Name) (entry : ℕ) (terms : List Term) (c : ℕ) (row : List ℕ) → IsRelation terms c
    → length names ≤ 16 → IsRowOf names entry terms c row → IsRowAt names entry row
row_at names entry [] c row relation few is = absurd relation
row_at names entry (t ∷ terms) c row relation few is =
    let l = lead_named names row (λ e. let k : t ∷ terms ≡ [] = sym is.terms_are ∙ e in absurd cc) in
    record { is_row = is.is_row; named = omega arith; seen = is.seen }
