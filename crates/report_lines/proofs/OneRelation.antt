-- A relation's text tells its terms and its constant.
use Rattle.std.proofs.Common.{◌≡◌, ◌≢◌, ℕ, ◌<◌, ◌≤◌, ◌^◌, Bool, true, false, cond, eqb, List, [], ◌∷◌, ◌++◌, map, length, drop, get_or, codes, refl, sym, ap, ◌∙◌, arith}
use Rattle.std.specs.Prelude.{nat_le}
use Rattle.std.specs.List.{AllByRecursion}
use Rattle.std.proofs.lemmas.Bool.{eqb-false, eqb-true}
use Rattle.std.proofs.lemmas.Fmt.{decimal_injective}
use Rattle.std.proofs.lemmas.Bool.Decides.{nat_tests}
use Rattle.std.proofs.lemmas.List.Elements.{recursion_from_All}
use Rattle.number_text.specs.Numerals.{dec}
use Rattle.report_text.specs.Text.{sign, magnitude}
use Rattle.report_lines.specs.Parts.{parts_of}
use Rattle.report_lines.specs.Terms.{Term, IsFactor, IsTerm, IsLead, is_plus, lead_text, term_text, number_text}
use Rattle.report_lines.specs.Relations.{IsRelation, constant_words, relation_text, relation_words}
use Rattle.report_lines.proofs.Cuts.{one_cut}
use Rattle.report_lines.proofs.TermTexts.{lead_is_term, magnitude_fits, magnitude_has_no, one_word, star}
use Rattle.report_lines.proofs.WordsRead.{parts_relation}
use Rattle.report_lines.proofs.FrontsRead.{behind_sign, head_of, no_term}

-- words behind equal signs
same_sign : (v w : ℕ) (xs ys : List ℕ) → sign v ++ xs ≡ sign w ++ ys → is_plus v ≡ is_plus w
same_sign v w xs ys = by (nat_le v (2 ^ 63)) (nat_le w (2 ^ 63))
  where
    by : (a b : Bool) → cond a (codes "+") (codes "-") ++ xs ≡ cond b (codes "+") (codes "-") ++ ys → a ≡ b
    by true true e = refl
    by true false e = absurd (omega (arith, ap (λ (bytes : List ℕ). get_or bytes 0 0) e))
    by false true e = absurd (omega (arith, ap (λ (bytes : List ℕ). get_or bytes 0 0) e))
    by false false e = refl

same_unsigned : (s t : Term) → IsTerm s → IsTerm t → is_plus s.0 ≡ is_plus t.0 → lead_text s ≡ lead_text t → s ≡ t
same_unsigned s t p q plus e =
    let cut = one_cut 42 (dec (magnitude s.0)) s.1 (dec (magnitude t.0)) t.1 (magnitude_has_no 42 s.0 (omega arith) p.0) (magnitude_has_no 42 t.0 (omega arith) q.0)
    (sym (star s.0 s.1) ∙ e ∙ star t.0 t.1) in
    let word : s.0 ≡ t.0 = one_word s.0 t.0 p.0 q.0 plus (decimal_injective (magnitude s.0) (magnitude t.0) (magnitude_fits s.0 p.0) (magnitude_fits t.0 q.0) cut.0) in
    (λ i. (word i, cut.1 i))

same_term : (s t : Term) → IsTerm s → IsTerm t → term_text s ≡ term_text t → s ≡ t
same_term s t p q e = same_unsigned s t p q (same_sign s.0 t.0 (lead_text s) (lead_text t) e) (behind_sign s.0 t.0 (lead_text s) (lead_text t) e)

plus_up_to : (w : ℕ) → w ≤ 2 ^ 63 → is_plus w ≡ true
plus_up_to w le = grind (arith, nat_tests)

same_lead : (s t : Term) → IsLead s → IsLead t → lead_text s ≡ lead_text t → s ≡ t
same_lead s t p q e = same_unsigned s t (lead_is_term s p) (lead_is_term t q) (plus_up_to s.0 p.1 ∙ sym (plus_up_to t.0 q.1)) e

same_number : (v w : ℕ) → IsFactor v → IsFactor w → number_text v ≡ number_text w → v ≡ w
same_number v w p q e =
    one_word v w p q (same_sign v w (dec (magnitude v)) (dec (magnitude w)) e)
    (decimal_injective (magnitude v) (magnitude w) (magnitude_fits v p) (magnitude_fits w q) (behind_sign v w (dec (magnitude v)) (dec (magnitude w)) e))

same_constant : (v w : ℕ) → v < 2 ^ 64 → w < 2 ^ 64 → constant_words v ≡ constant_words w → v ≡ w
same_constant v w p q = by (eqb v 0) (eqb w 0) refl refl
  where
    by : (a b : Bool) → eqb v 0 ≡ a → eqb w 0 ≡ b → cond a [] (number_text v ∷ []) ≡ cond b [] (number_text w ∷ []) → v ≡ w
    by true true va wb e = eqb-true v 0 va ∙ sym (eqb-true w 0 wb)
    by true false va wb e = absurd (omega (arith, ap (λ (ws : List (List ℕ)). length ws) e))
    by false true va wb e = absurd (omega (arith, ap (λ (ws : List (List ℕ)). length ws) e))
    by false false va wb e = same_number v w (omega (arith, eqb-false v 0 va), p) (omega (arith, eqb-false w 0 wb), q) (ap head_of e)

-- a term isn't the word of a constant
not_constant : (c : ℕ) (t : Term) (words : List (List ℕ)) → c < 2 ^ 64 → IsTerm t → constant_words c ≢ term_text t ∷ words
not_constant c t words small fits = by (eqb c 0) refl
  where
    by : (b : Bool) → eqb c 0 ≡ b → cond b [] (number_text c ∷ []) ≢ term_text t ∷ words
    by true z e = omega (arith, ap (λ (ws : List (List ℕ)). length ws) e)
    by false z e = no_term c t (omega (arith, eqb-false c 0 z), small) fits (ap head_of e)

same_terms : (ss ts : List Term) (c d : ℕ) → AllByRecursion IsTerm ss → AllByRecursion IsTerm ts → c < 2 ^ 64 → d < 2 ^ 64
    → map term_text ss ++ constant_words c ≡ map term_text ts ++ constant_words d → (ss ≡ ts) × (c ≡ d)
same_terms [] [] c d p q small also e = (refl, same_constant c d small also e)
same_terms [] (t ∷ ts) c d p q small also e = absurd (not_constant c t (map term_text ts ++ constant_words d) small q.0 e)
same_terms (s ∷ ss) [] c d p q small also e = absurd (not_constant d s (map term_text ss ++ constant_words c) also p.0 (sym e))
same_terms (s ∷ ss) (t ∷ ts) c d p q small also e =
    let first' : s ≡ t = same_term s t p.0 q.0 (ap head_of e) in
    let rest = same_terms ss ts c d p.1 q.1 small also (ap (drop 1) e) in
    ((λ i. first' i ∷ rest.0 i), rest.1)

pub one_relation : (ss ts : List Term) (c d : ℕ) → IsRelation ss c → IsRelation ts d → relation_text ss c ≡ relation_text ts d → (ss ≡ ts) × (c ≡ d)
one_relation [] ts c d p q e = absurd p
one_relation (s ∷ ss) [] c d p q e = absurd q
one_relation (s ∷ ss) (t ∷ ts) c d p q e =
    let words : relation_words (s ∷ ss) c ≡ relation_words (t ∷ ts) d =
    sym (parts_relation (s ∷ ss) c p) ∙ ap (parts_of 32) e ∙ parts_relation (t ∷ ts) d q in
    let lead : s ≡ t = same_lead s t p.0 q.0 (ap head_of words) in
    let rest = same_terms ss ts c d (recursion_from_All IsTerm ss p.1) (recursion_from_All IsTerm ts q.1) p.2 q.2 (ap (drop 1) words) in
    ((λ i. lead i ∷ rest.0 i), rest.1)
