-- The line of a report's row is one that is read as this row.
use Rattle.std.proofs.Common.{◌≡◌, ◌≢◌, ℕ, ◌<◌, ◌≤◌, ◌^◌, false, eqb, List, ◌∷◌, ◌++◌, All, length, codes, get_or, refl, sym, subst, ap, ◌∙◌, arith}
use Rattle.std.specs.List.{AllByRecursion, AllPairs}
use Rattle.std.proofs.lemmas.List.Elements.{All-append, All-from_recursion, All-get_or}
use Rattle.word_rows.specs.Rows.{lead}
use Rattle.word_rows.proofs.Laws.{IsWord-get_or}
use Rattle.report_text.specs.declared.names.Name.{Name}
use Rattle.report_text.specs.declared.names.Name.TheVariants.{Register}
use Rattle.report_text.specs.Names.{IsName, IsSeenAt}
use Rattle.report_text.specs.Text.{name_text, nl}
use Rattle.report_lines.specs.NameTexts.{IsAddressed}
use Rattle.report_lines.specs.Parts.{HasNo}
use Rattle.report_lines.specs.Lines.{Rel, line_text}
use Rattle.report_lines.specs.Terms.{Term, IsFactor, IsTerm}
use Rattle.report_lines.specs.Relations.{AreKnown, IsSeenName, IsRelation, relation_text, relation_words, terms_of}
use Rattle.report_lines.proofs.NamesTold.{name_has_no, some_name}
use Rattle.report_lines.proofs.WordsRead.{words_clean}
use Rattle.report_read.proofs.RelationTexts.{rel_line}
use Rattle.report_read.proofs.RowsAgain.{each_term, own_place, rising}
use Rattle.report_read.proofs.LinesThere.{IsRowThere, IsLineThere, seen_within, HasLead, lead_first, joined_clean}

module _ (names : List Name) (allowed : All IsName names) (addressed : All IsAddressed names) (distinct : AllPairs (λ (a : Name) b. a ≢ b) names) (few : length names ≤ 16)
    (entry : ℕ) (row : List ℕ) (there : IsRowThere names entry row) where
  pub term_at : (byte : ℕ) → ((name : Name) → IsName name → IsAddressed name → HasNo byte (name_text name)) → (k : ℕ)
      → k < length names → get_or row k 0 ≢ 0
      → IsFactor (get_or row k 0) × (0 < length (name_text (get_or names k (Register 0)))) × HasNo byte (name_text (get_or names k (Register 0)))
  term_at byte clean k lt some =
      let name_is = All-get_or IsName names k (Register 0) lt allowed in (
        (omega (arith, some), IsWord-get_or 17 row there.is_row k),
        some_name (get_or names k (Register 0)) name_is,
        clean (get_or names k (Register 0)) name_is (All-get_or IsAddressed names k (Register 0) lt addressed),
      )

  pub all_terms : AllByRecursion IsTerm (terms_of names row)
  all_terms = each_term IsTerm names row (Register 0) (λ k lt wide some.
      let t = term_at 32 (λ name a b. name_has_no 32 name refl (omega arith) refl refl refl refl a b) k lt some in (t.0, (t.1, t.2)))

  pub all_clean : AllByRecursion (λ term. IsFactor term.0 × HasNo 10 term.1) (terms_of names row)
  all_clean = each_term (λ term. IsFactor term.0 × HasNo 10 term.1) names row (Register 0) (λ k lt wide some.
      let t = term_at 10 (λ name a b. name_has_no 10 name refl (omega arith) refl refl refl refl a b) k lt some in (t.0, t.2))

  pub all_known : AreKnown names entry (terms_of names row)
  all_known = All-from_recursion (λ term. IsSeenName names entry term.1) (terms_of names row)
      (each_term (λ term. IsSeenName names entry term.1) names row (Register 0)
      (λ k lt wide some. subst (IsSeenAt names entry) (sym (own_place names allowed addressed distinct k (Register 0) lt)) (there.seen k (omega arith) some)))

  pub leads : HasLead names row (λ t. (1 ≤ t.0) × (t.0 ≤ 2 ^ 63))
  leads = lead_first names row (λ t. (1 ≤ t.0) × (t.0 ≤ 2 ^ 63))
      (seen_within names entry (lead row) (there.seen (lead row) there.named (λ e. omega (arith, there.some, e))))
      (omega (arith, there.is_row.width, there.named)) (λ name. (there.some, there.small))

  pub fits_so : (terms : List Term) (first_term : Term) (further : List Term) → terms ≡ first_term ∷ further
      → AllByRecursion IsTerm terms → (1 ≤ first_term.0) × (first_term.0 ≤ 2 ^ 63)
      → IsRelation terms (get_or row 16 0)
  fits_so terms first_term further is all small =
      let here = subst (λ (ts : List Term). AllByRecursion IsTerm ts) is all in
      subst (λ (ts : List Term). IsRelation ts (get_or row 16 0)) (sym is)
      ((small.0, small.1, here.0.1), All-from_recursion IsTerm further here.1, IsWord-get_or 17 row there.is_row 16)

  pub line_there : IsLineThere names entry row
  line_there = record {
    fits = fits_so (terms_of names row) leads.first_term leads.further leads.terms_are all_terms leads.holds;
    known = all_known;
    rises = rising names allowed addressed distinct row;
    row_is = record { is_row = there.is_row; terms_are = refl; constant_is = refl; seen = there.seen };
    text_is = rel_line names row leads.first_term leads.further (get_or row 16 0) leads.terms_are refl
        ∙ ap (λ (ts : List Term). line_text (Rel ts (get_or row 16 0)) ++ nl) (sym leads.terms_are);
    clean = All-append (λ b. eqb b 10 ≡ false) (codes "rel ") (relation_text (terms_of names row) (get_or row 16 0))
        (All-from_recursion (λ b. eqb b 10 ≡ false) (codes "rel ") (refl, (refl, (refl, (refl, tt)))))
        (joined_clean 32 (relation_words (terms_of names row) (get_or row 16 0)) refl
        (words_clean 10 (terms_of names row) (get_or row 16 0) (omega arith) refl refl refl (IsWord-get_or 17 row there.is_row 16) all_clean));
  }
