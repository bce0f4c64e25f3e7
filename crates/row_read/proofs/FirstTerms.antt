-- The words of a row, and those of its first terms.
use Rattle.std.proofs.Common.{◌≡◌, ℕ, zero, suc, ◌+◌, ◌≤◌, Bool, true, false, cond, eqb, List, [], ◌∷◌, ◌++◌, map, length, length-append, take, refl, ap, arith}
use Rattle.std.proofs.lemmas.List.{length-map}
use Rattle.std.proofs.lemmas.List.Elements.{All-take}
use Rattle.report_lines.specs.Terms.{Term, IsTerm, lead_text, term_text, number_text}
use Rattle.report_lines.specs.Relations.{IsRelation, constant_words, relation_words}

few_words : (c : ℕ) → length (constant_words c) ≤ 1
few_words c = by (eqb c 0)
  where
    by : (b : Bool) → length (cond b [] (number_text c ∷ [])) ≤ 1
    by true = omega arith
    by false = omega arith

-- a word for each term, and one for the constant at most
pub count_words : (terms : List Term) (c : ℕ) → (length terms ≤ length (relation_words terms c)) × (length (relation_words terms c) ≤ length terms + 1)
count_words [] c = (omega arith, few_words c)
count_words (lead ∷ terms) c =
    let long = length-append (map term_text terms) (constant_words c) in
    let same = length-map terms term_text in
    (omega arith, omega (arith, few_words c))

terms_taken : (terms : List Term) (c k : ℕ) → k ≤ length terms → take k (map term_text terms ++ constant_words c) ≡ map term_text (take k terms) ++ []
terms_taken terms c zero le = refl
terms_taken [] c (suc k) le = absurd (omega arith)
terms_taken (t ∷ terms) c (suc k) le = ap (λ (ws : List (List ℕ)). term_text t ∷ ws) (terms_taken terms c k (omega arith))

pub record IsFit (terms : List Term) (words : List (List ℕ)) : Type 0 where
  pub fit : IsRelation terms 0
  pub words_are : words ≡ relation_words terms 0

-- some first words are those of the first terms
pub front_fits : (terms : List Term) (c k : ℕ) → IsRelation terms c → suc k ≤ length terms → IsFit (take (suc k) terms) (take (suc k) (relation_words terms c))
front_fits [] c k h le = absurd h
front_fits (lead ∷ terms) c k h le = record {
  fit = (h.0, All-take IsTerm k terms h.1, omega arith);
  words_are = ap (λ (ws : List (List ℕ)). lead_text lead ∷ ws) (terms_taken terms c k (omega arith));
}
