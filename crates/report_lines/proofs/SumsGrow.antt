-- The row of terms, with one term more, and with its constant.
use Rattle.std.proofs.Common.{◌≡◌, inl, inr, ⊎_elim, ℕ, ◌+◌, ◌<◌, ◌≤◌, List, [], ◌∷◌, ◌++◌, All, length, get_or, set, refl, sym, subst, ◌∙◌, arith}
use Rattle.std.specs.List.{AllPairs}
use Rattle.std.specs.Prelude.{Some}
use Rattle.std.proofs.lemmas.Bool.{cases_eq}
use Rattle.std.proofs.lemmas.List.{get_or-set_same, get_or-set_other, get_or_append_left, get_or_push, length_push}
use Rattle.std.proofs.lemmas.List.Elements.{All-push, All-pop, All-weaker, All-get_or, All-contains, Contains-push}
use Rattle.std.proofs.lemmas.List.Quantifiers.{all_pairs_push}
use Rattle.word_rows.specs.Rows.{IsRow}
use Rattle.report_text.specs.declared.names.Name.{Name}
use Rattle.report_text.specs.declared.names.Name.TheVariants.{Register}
use Rattle.report_text.specs.Names.{IsSeenAt}
use Rattle.report_text.specs.Text.{name_text}
use Rattle.report_lines.specs.Terms.{Term, IsFactor}
use Rattle.report_lines.specs.Relations.{AreKnown, AreRising, IsSeenName, IsRowOf, place_in, terms_of}
use Rattle.report_lines.specs.Sums.{IsRowSoFar}
use Rattle.report_lines.proofs.Placed.{named_there}
use Rattle.report_lines.proofs.Rows.{set_terms, set_beyond}

-- all but the last
pub pairs_front : {X : Type 0} (R : X → X → Type 0) (xs : List X) (y : X) → AllPairs R (xs ++ y ∷ []) → AllPairs R xs
pairs_front R xs y h i j d lt below =
    let long = length_push xs y in
    subst (λ b. R b (get_or xs j d)) (get_or_append_left xs (y ∷ []) d i (omega arith))
    (subst (λ b. R (get_or (xs ++ y ∷ []) i d) b) (get_or_append_left xs (y ∷ []) d j below) (h i j d lt (omega arith)))

-- each against the last
pub pairs_last : {X : Type 0} (R : X → X → Type 0) (xs : List X) (y : X) → AllPairs R (xs ++ y ∷ []) → All (λ x. R x y) xs
pairs_last R xs y h i d lt =
    let long = length_push xs y in
    subst (λ b. R b y) (get_or_append_left xs (y ∷ []) d i lt)
    (subst (λ b. R (get_or (xs ++ y ∷ []) i d) b) (get_or_push xs y d (length xs) refl) (h i (length xs) d lt (omega arith)))

module _ (names : List Name) (p : ℕ) (terms : List Term) (w : ℕ) (text : List ℕ) where
  more : List Term
  more = terms ++ (w, text) ∷ []

  pub known_before : AreKnown names p (terms ++ (w, text) ∷ []) → AreKnown names p terms
  known_before h = (All-pop (λ term. IsSeenName names p term.1) (terms ++ (w, text) ∷ []) terms (Some (w, text)) refl h).0

  pub known_last : AreKnown names p (terms ++ (w, text) ∷ []) → IsSeenName names p text
  known_last h = (All-pop (λ term. IsSeenName names p term.1) (terms ++ (w, text) ∷ []) terms (Some (w, text)) refl h).1

  pub rising_before : AreRising names (terms ++ (w, text) ∷ []) → AreRising names terms
  rising_before h = pairs_front (λ s t. place_in names s.1 < place_in names t.1) terms (w, text) h

  module _ (place : ℕ) (is : place ≡ place_in names text) (lt : place < length names) (seen : IsSeenAt names p place) where
    pub known_more : AreKnown names p terms → AreKnown names p (terms ++ (w, text) ∷ [])
    known_more h = All-push (λ term. IsSeenName names p term.1) terms (w, text) h (subst (IsSeenAt names p) is seen)

    -- a place before that of the last term
    pub falls : (row : List ℕ) (next : ℕ) → IsRowSoFar names p terms row next → place < next → AreRising names (terms ++ (w, text) ∷ []) → ⊥
    falls row next so_far early h =
        ⊎_elim (λ e. omega arith)
        (λ l. let k = All-contains (λ term. place_in names term.1 < place_in names text) terms l.0
        (pairs_last (λ s t. place_in names s.1 < place_in names t.1) terms (w, text) h) l.1 in omega (arith, l.2))
        so_far.last

    pub grown : (row : List ℕ) (next : ℕ) → IsRowSoFar names p terms row next → next ≤ place → IsFactor w → length names ≤ 16 → IsRow 17 (set row place w)
        → IsRowSoFar names p (terms ++ (w, text) ∷ []) (set row place w) (place + 1)
    grown row next so_far late factor few own =
        let wide = so_far.is_row.width in
        let named : name_text (get_or names place (Register 0)) ≡ text =
        subst (λ k. name_text (get_or names k (Register 0)) ≡ text) (sym is) (named_there names text (Register 0) (omega arith)) in
        record {
          known = known_more so_far.known;
          rising = all_pairs_push (λ s t. place_in names s.1 < place_in names t.1) terms (w, text) so_far.rising
              (λ k d below. let b = All-get_or (λ term. place_in names term.1 < next) terms k d below so_far.below in omega arith);
          is_row = own;
          terms_are = set_terms names row place w (Register 0) lt (omega arith) (λ e. omega (arith, factor)) (λ j le. so_far.zero_beyond j (omega arith))
              ∙ (λ i. so_far.terms_are i ++ (w, named i) ∷ []);
          seen = λ k small some. ⊎_elim (λ e. subst (IsSeenAt names p) (sym e) seen)
              (λ other. so_far.seen k small (λ e. some (get_or-set_other row place k w 0 other ∙ e))) (cases_eq k place);
          zero_beyond = λ k le. get_or-set_other row place k w 0 (λ e. omega arith) ∙ so_far.zero_beyond k (omega arith);
          within = omega arith;
          below = All-push (λ term. place_in names term.1 < place + 1) terms (w, text)
              (All-weaker (λ term. place_in names term.1 < next) (λ term. place_in names term.1 < place + 1) (λ term b. omega arith) terms so_far.below) (omega arith);
          last = inr ((w, text), Contains-push terms (w, text), omega arith);
        }

pub with_constant : (names : List Name) (p : ℕ) (terms : List Term) (row : List ℕ) (next c : ℕ) → length names ≤ 16 → IsRowSoFar names p terms row next
    → IsRow 17 (set row 16 c) → IsRowOf names p terms c (set row 16 c)
with_constant names p terms row next c few so_far own = record {
  is_row = own;
  terms_are = set_beyond names row 16 c few ∙ so_far.terms_are;
  constant_is = get_or-set_same row 16 c 0 (omega (arith, so_far.is_row.width));
  seen = λ k small some. so_far.seen k small (λ e. some (get_or-set_other row 16 k c 0 (λ f. omega arith) ∙ e));
}

pub none_so_far : (names : List Name) (p : ℕ) (row : List ℕ) → ((k : ℕ) → get_or row k 0 ≡ 0) → IsRow 17 row → terms_of names row ≡ []
    → IsRowSoFar names p [] row 0
none_so_far names p row zeros own none = record {
  known = λ k d lt. absurd (omega arith);
  rising = λ i j d lt below. absurd (omega arith);
  is_row = own;
  terms_are = none;
  seen = λ k small some. absurd (some (zeros k));
  zero_beyond = λ k le. zeros k;
  within = omega arith;
  below = λ k d lt. absurd (omega arith);
  last = inl refl;
}
