-- A row of a report, and its line.
use Rattle.std.proofs.Common.{◌≡◌, ◌≢◌, ℕ, suc, ◌+◌, ◌<◌, ◌≤◌, ◌^◌, Bool, true, false, cond, eqb, add-one, List, [], ◌∷◌, ◌++◌, length, get_or, Option, Some, None, refl, subst, ap, ◌∙◌, arith}
use Rattle.std.specs.Prelude.{slice_get, IsSomeAnd}
use Rattle.std.specs.List.{AllByRecursion, join_with_byte}
use Rattle.std.proofs.lemmas.List.Elements.{All-append, All-cons, All-nil}
use Rattle.std.proofs.lemmas.Option.{slice_get_within}
use Rattle.word_rows.specs.Rows.{IsRow, lead, pivot}
use Rattle.report_text.specs.declared.names.Name.{Name}
use Rattle.report_text.specs.Names.{IsSeenAt, IsSeenIn}
use Rattle.report_text.specs.Text.{name_text, nl, rel_text}
use Rattle.report_lines.specs.Parts.{HasNo}
use Rattle.report_lines.specs.Lines.{Rel, line_text}
use Rattle.report_lines.specs.Terms.{Term}
use Rattle.report_lines.specs.Relations.{AreKnown, AreRising, IsRelation, IsRowOf, terms_of}

-- what a report's row is
pub record IsRowThere (names : List Name) (entry : ℕ) (row : List ℕ) : Type 0 where
  pub is_row : IsRow 17 row
  pub some : 1 ≤ pivot row
  pub small : pivot row ≤ 2 ^ 63
  pub named : lead row < 16
  pub seen : (k : ℕ) → k < 16 → get_or row k 0 ≢ 0 → IsSeenAt names entry k

-- what its line is
pub record IsLineThere (names : List Name) (entry : ℕ) (row : List ℕ) : Type 0 where
  pub fits : IsRelation (terms_of names row) (get_or row 16 0)
  pub known : AreKnown names entry (terms_of names row)
  pub rises : AreRising names (terms_of names row)
  pub row_is : IsRowOf names entry (terms_of names row) (get_or row 16 0) row
  pub text_is : rel_text names row ≡ line_text (Rel (terms_of names row) (get_or row 16 0)) ++ nl
  pub clean : HasNo 10 (line_text (Rel (terms_of names row) (get_or row 16 0)))

pub seen_within : (names : List Name) (entry k : ℕ) → IsSeenAt names entry k → k < length names
seen_within names entry k = by (slice_get names k) refl
  where
    by : (o : Option Name) → slice_get names k ≡ o → IsSomeAnd o (IsSeenIn entry) → k < length names
    by None e seen = absurd seen
    by (Some name) e seen = slice_get_within names k name e

pub record HasLead (names : List Name) (row : List ℕ) (P : Term → Type 0) : Type 0 where
  pub first_term : Term
  pub further : List Term
  pub terms_are : terms_of names row ≡ first_term ∷ further
  pub holds : P first_term

-- the first term has the pivot
pub lead_first : (names : List Name) (row : List ℕ) (P : Term → Type 0) → lead row < length names → lead row < length row
    → ((name : List ℕ) → P (pivot row, name))
    → HasLead names row P
lead_first names [] P lt wide h = absurd (omega arith)
lead_first [] (w ∷ row) P lt wide h = absurd (omega arith)
lead_first (name ∷ names) (w ∷ row) P lt wide h = by (lead_first names row P) (eqb w 0) refl lt wide h
  where
    by : (lead row < length names → lead row < length row → ((n : List ℕ) → P (pivot row, n)) → HasLead names row P)
        → (b : Bool) → eqb w 0 ≡ b
        → cond b (lead row + 1) 0 < suc (length names) → cond b (lead row + 1) 0 < suc (length row)
        → ((n : List ℕ) → P (get_or (w ∷ row) (cond b (lead row + 1) 0) 0, n))
        → HasLead (name ∷ names) (w ∷ row) P
    by later true e lt wide h =
        let l = later (omega arith) (omega arith) (λ n. subst (λ (k : ℕ). P (get_or (w ∷ row) k 0, n)) (add-one (lead row)) (h n)) in
        record {
          first_term = l.first_term;
          further = l.further;
          terms_are = ap (λ (b : Bool). cond b (terms_of names row) ((w, name_text name) ∷ terms_of names row)) e ∙ l.terms_are;
          holds = l.holds;
        }
    by later false e lt wide h = record {
      first_term = (w, name_text name);
      further = terms_of names row;
      terms_are = ap (λ (b : Bool). cond b (terms_of names row) ((w, name_text name) ∷ terms_of names row)) e;
      holds = h (name_text name);
    }

pub joined_clean : (byte : ℕ) (words : List (List ℕ)) → eqb byte 10 ≡ false → AllByRecursion (HasNo 10) words
    → HasNo 10 (join_with_byte byte words)
joined_clean byte [] other clean = All-nil (λ b. eqb b 10 ≡ false)
joined_clean byte (word ∷ []) other clean = clean.0
joined_clean byte (word ∷ next ∷ words) other clean =
    All-append (λ b. eqb b 10 ≡ false) word (byte ∷ join_with_byte byte (next ∷ words)) clean.0
    (All-cons (λ b. eqb b 10 ≡ false) byte (join_with_byte byte (next ∷ words)) other (joined_clean byte (next ∷ words) other clean.1))
