-- The text of a row is that of its relation's line.
use Rattle.std.proofs.Common.{◌≡◌, ℕ, Bool, true, false, cond, eqb, ◌&&◌, List, [], ◌∷◌, ◌++◌, map, codes, get_or, append_assoc, refl, sym, ap, ◌∙◌}
use Rattle.std.specs.List.{flat_map, join_with_byte}
use Rattle.std.proofs.lemmas.List.{append-nil}
use Rattle.std.proofs.lemmas.List.Concat.{flat_map-append}
use Rattle.number_text.specs.Numerals.{dec}
use Rattle.report_text.specs.declared.names.Name.{Name}
use Rattle.report_text.specs.Text.{constant_text, magnitude, name_text, nl, rel_text, sign, term_text, terms_text}
use Rattle.report_lines.specs.Terms.{Term, lead_text, number_text}
use Rattle.report_lines.specs.Terms.{term_text as signed_text}
use Rattle.report_lines.specs.Relations.{constant_words, relation_text, terms_of}
use Rattle.report_lines.specs.Lines.{Rel, line_text}

-- words, each behind a space
abbrev spaced : List (List ℕ) → List ℕ
spaced words = flat_map (λ (w : List ℕ). 32 ∷ w) words

joined : (word : List ℕ) (words : List (List ℕ)) → join_with_byte 32 (word ∷ words) ≡ word ++ spaced words
joined word [] = sym (append-nil word)
joined word (next ∷ words) = ap (λ (xs : List ℕ). word ++ 32 ∷ xs) (joined next words)

-- behind the lead
behind_lead : (names : List Name) (row : List ℕ) → terms_text false names row ≡ spaced (map signed_text (terms_of names row))
behind_lead [] row = refl
behind_lead (name ∷ names) [] = refl
behind_lead (name ∷ names) (w ∷ row) = by (behind_lead names row) (eqb w 0)
  where
    by : terms_text false names row ≡ spaced (map signed_text (terms_of names row)) → (b : Bool)
        → cond b [] ((codes " " ++ sign w) ++ term_text name w) ++ terms_text false names row
        ≡ spaced (map signed_text (cond b (terms_of names row) ((w, name_text name) ∷ terms_of names row)))
    by later true = later
    by later false = (λ i. 32 ∷ (sign w ++ term_text name w) ++ later i)

-- a row's terms, of which the first one leads
abbrev terms_joined : List Term → List ℕ
terms_joined [] = []
terms_joined (lead ∷ terms) = lead_text lead ++ spaced (map signed_text terms)

all_terms : (names : List Name) (row : List ℕ) → terms_text true names row ≡ terms_joined (terms_of names row)
all_terms [] row = refl
all_terms (name ∷ names) [] = refl
all_terms (name ∷ names) (w ∷ row) = by (all_terms names row) (eqb w 0)
  where
    by : terms_text true names row ≡ terms_joined (terms_of names row) → (b : Bool)
        → cond b [] ([] ++ term_text name w) ++ terms_text (true && b) names row ≡ terms_joined (cond b (terms_of names row) ((w, name_text name) ∷ terms_of names row))
    by later true = later
    by later false = ap (λ (xs : List ℕ). term_text name w ++ xs) (behind_lead names row)

constant_spaced : (c : ℕ) → constant_text c ≡ spaced (constant_words c)
constant_spaced c = by (eqb c 0)
  where
    by : (b : Bool) → cond b [] ((codes " " ++ sign c) ++ dec (magnitude c)) ≡ spaced (cond b [] (number_text c ∷ []))
    by true = refl
    by false = sym (append-nil (32 ∷ sign c ++ dec (magnitude c)))

relation_joined : (lead : Term) (terms : List Term) (c : ℕ)
    → relation_text (lead ∷ terms) c ≡ (lead_text lead ++ spaced (map signed_text terms)) ++ constant_text c
relation_joined lead terms c =
    joined (lead_text lead) (map signed_text terms ++ constant_words c)
    ∙ ap (λ (xs : List ℕ). lead_text lead ++ xs) (flat_map-append (λ (w : List ℕ). 32 ∷ w) (map signed_text terms) (constant_words c))
    ∙ sym (append_assoc (lead_text lead) (spaced (map signed_text terms)) (spaced (constant_words c)))
    ∙ ap (λ (xs : List ℕ). (lead_text lead ++ spaced (map signed_text terms)) ++ xs) (sym (constant_spaced c))

pub rel_line : (names : List Name) (row : List ℕ) (lead : Term) (terms : List Term) (c : ℕ) → terms_of names row ≡ lead ∷ terms
    → get_or row 16 0 ≡ c
    → rel_text names row ≡ line_text (Rel (lead ∷ terms) c) ++ nl
rel_line names row lead terms c terms_are constant_is =
    (λ i. ((codes "rel " ++ (all_terms names row ∙ ap terms_joined terms_are) i) ++ constant_text (constant_is i)) ++ nl)
    ∙ ap (λ (xs : List ℕ). (codes "rel " ++ xs) ++ nl) (sym (relation_joined lead terms c))
