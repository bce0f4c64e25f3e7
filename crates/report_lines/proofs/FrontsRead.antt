-- The words of a relation's line, one word more.
use Rattle.std.proofs.Common.{◌≡◌, ◌≢◌, ℕ, ◌<◌, ◌≤◌, ◌^◌, Bool, true, false, cond, eqb, List, [], ◌∷◌, ◌++◌, map, length, drop, append_assoc, codes, refl, sym, subst, ap, ◌∙◌, arith}
use Rattle.std.specs.Prelude.{nat_le, None}
use Rattle.std.proofs.lemmas.Bool.{eqb-false, ne_eqb}
use Rattle.std.proofs.lemmas.List.{append-nil}
use Rattle.std.specs.List.{AllByRecursion}
use Rattle.std.proofs.lemmas.List.Elements.{All-push, All-nil, All-from_recursion, recursion_from_All}
use Rattle.report_text.specs.Text.{sign, magnitude}
use Rattle.number_text.specs.Numerals.{dec}
use Rattle.report_lines.specs.Parts.{HasNo, parts_of}
use Rattle.report_lines.specs.Terms.{Term, IsFactor, IsTerm, IsLead, IsLeadReading, IsWordReading, lead_text, term_text, number_text}
use Rattle.report_lines.specs.Relations.{IsRelation, constant_words, relation_text, relation_words}
use Rattle.report_lines.specs.Fronts.{AreFurther, IsFront}
use Rattle.report_lines.proofs.Cuts.{one_part, parts_cut, some_part}
use Rattle.report_lines.proofs.TermTexts.{magnitude_has_no, no_star}
use Rattle.report_lines.proofs.WordsRead.{parts_relation, text_again}

pub behind_sign : (v w : ℕ) (xs ys : List ℕ) → sign v ++ xs ≡ sign w ++ ys → xs ≡ ys
behind_sign v w xs ys = by (nat_le v (2 ^ 63)) (nat_le w (2 ^ 63))
  where
    by : (a b : Bool) → cond a (codes "+") (codes "-") ++ xs ≡ cond b (codes "+") (codes "-") ++ ys → xs ≡ ys
    by true true e = ap (drop 1) e
    by true false e = ap (drop 1) e
    by false true e = ap (drop 1) e
    by false false e = ap (drop 1) e

-- a constant is no term
pub no_term : (w : ℕ) (term : Term) → IsFactor w → IsTerm term → number_text w ≢ term_text term
no_term w term fits also e =
    no_star (dec (magnitude w)) term (magnitude_has_no 42 w (omega arith) fits) also
    (behind_sign w term.0 (dec (magnitude w)) (lead_text term) e)

-- the words of a constant, if there is one
few_words : (c : ℕ) → length (constant_words c) ≤ 1
few_words c = by (eqb c 0)
  where
    by : (b : Bool) → length (cond b [] (number_text c ∷ [])) ≤ 1
    by true = omega arith
    by false = omega arith

-- the first of further words is a term's or a constant's
pub data IsFirst (word : List ℕ) (words : List (List ℕ)) : Type 0 where
  a_term : (t : Term) → IsTerm t → word ≡ term_text t → AreFurther words → IsFirst word words
  a_constant : (c : ℕ) → IsFactor c → word ≡ number_text c → words ≡ [] → IsFirst word words

abbrev pub head_of : List (List ℕ) → List ℕ
head_of [] = []
head_of (word ∷ words) = word

one_of_constant : (word : List ℕ) (words : List (List ℕ)) (c : ℕ) → c < 2 ^ 64 → word ∷ words ≡ constant_words c → IsFirst word words
one_of_constant word words c small = by (eqb c 0) refl
  where
    by : (b : Bool) → eqb c 0 ≡ b → word ∷ words ≡ cond b [] (number_text c ∷ []) → IsFirst word words
    by true z e = absurd (omega (arith, ap (λ (ws : List (List ℕ)). length ws) e))
    by false z e = a_constant c (omega (arith, eqb-false c 0 z), small) (ap head_of e) (ap (drop 1) e)

pub first_further : (word : List ℕ) (words : List (List ℕ)) → AreFurther (word ∷ words) → IsFirst word words
first_further word words further = by further.terms (recursion_from_All IsTerm further.terms further.fit) further.words_are
  where
    by : (terms : List Term) → AllByRecursion IsTerm terms → word ∷ words ≡ map term_text terms ++ constant_words further.constant → IsFirst word words
    by [] fit e = one_of_constant word words further.constant further.small e
    by (t ∷ terms) fit e = a_term t fit.0 (ap head_of e)
        (record { terms = terms; constant = further.constant; fit = All-from_recursion IsTerm terms fit.1; small = further.small; words_are = ap (drop 1) e })

pub further_then : (word : List ℕ) (words : List (List ℕ)) → 0 < length words → AreFurther (word ∷ words) → AreFurther words
further_then word words some further = by (first_further word words further)
  where
    by : IsFirst word words → AreFurther words
    by (a_term t fits is more) = more
    by (a_constant c fits is none) = absurd (omega (arith, ap (λ (ws : List (List ℕ)). length ws) none))

-- what is no word isn't the first of further ones
pub no_word : (word : List ℕ) (words : List (List ℕ)) → IsWordReading word None → AreFurther (word ∷ words) → ⊥
no_word word words none further = by (first_further word words further)
  where
    by : IsFirst word words → ⊥
    by (a_term t fits is more) = none.0 t fits is
    by (a_constant c fits is last) = none.1 c fits is

-- a constant is the last word
pub not_last : (word : List ℕ) (words : List (List ℕ)) (w : ℕ) → 0 < length words → IsFactor w → word ≡ number_text w → AreFurther (word ∷ words) → ⊥
not_last word words w some fits is further = by (first_further word words further)
  where
    by : IsFirst word words → ⊥
    by (a_term t also same more) = no_term w t fits also (sym is ∙ same)
    by (a_constant c also same none) = omega (arith, ap (λ (ws : List (List ℕ)). length ws) none)

words_more : (lead : Term) (terms : List Term) (term : Term) → relation_words (lead ∷ (terms ++ term ∷ [])) 0 ≡ relation_words (lead ∷ terms) 0 ++ term_text term ∷ []
words_more lead terms term = ap (λ (ws : List (List ℕ)). lead_text lead ∷ ws) (by terms)
  where
    by : (ts : List Term) → map term_text (ts ++ term ∷ []) ++ [] ≡ (map term_text ts ++ []) ++ term_text term ∷ []
    by [] = refl
    by (t ∷ ts) = ap (λ (ws : List (List ℕ)). term_text t ∷ ws) (by ts)

pub with_term : (terms : List Term) (term : Term) → IsRelation terms 0 → IsTerm term
    → IsRelation (terms ++ term ∷ []) 0 × (relation_words (terms ++ term ∷ []) 0 ≡ relation_words terms 0 ++ term_text term ∷ [])
with_term [] term h fits = absurd h
with_term (lead ∷ terms) term h fits = ((h.0, All-push IsTerm terms term h.1 fits, h.2), words_more lead terms term)

pub with_constant : (terms : List Term) (w : ℕ) → IsRelation terms 0 → IsFactor w
    → IsRelation terms w × (relation_words terms w ≡ relation_words terms 0 ++ number_text w ∷ [])
with_constant [] w h fits = absurd h
with_constant (lead ∷ terms) w h fits = (
  (h.0, h.1, fits.1),
  ap (λ (b : Bool). lead_text lead ∷ (map term_text terms ++ cond b [] (number_text w ∷ []))) (ne_eqb w 0 (λ e. omega (arith, fits)))
      ∙ ap (λ (ws : List (List ℕ)). lead_text lead ∷ (ws ++ number_text w ∷ [])) (sym (append-nil (map term_text terms))),
)

-- one term more is read
pub front_more : (text rest word behind : List ℕ) (terms : List Term) (term : Term) → IsFront text rest terms → (rest ≡ word ++ 32 ∷ behind) × HasNo 32 word
    → IsTerm term → word ≡ term_text term → IsFront text behind (terms ++ term ∷ [])
front_more text rest word behind terms term front cut fits is =
    let more = with_term terms term front.fit fits in
    let parts : parts_of 32 rest ≡ word ∷ parts_of 32 behind = ap (parts_of 32) cut.0 ∙ parts_cut 32 word behind cut.1 in
    record {
      fit = more.0;
      words_are = front.words_are ∙ ap (λ (ws : List (List ℕ)). relation_words terms 0 ++ ws) (parts ∙ ap (λ (w : List ℕ). w ∷ parts_of 32 behind) is)
          ∙ sym (append_assoc (relation_words terms 0) (term_text term ∷ []) (parts_of 32 behind)) ∙ ap (λ (ws : List (List ℕ)). ws ++ parts_of 32 behind) (sym more.1);
      further = λ all c h e. further_then word (parts_of 32 behind) (some_part 32 behind) (subst AreFurther parts (front.further all c h e));
    }

-- the last word is read
pub front_ends : (text rest : List ℕ) (terms : List Term) (term : Term) → IsFront text rest terms → HasNo 32 rest → IsTerm term → rest ≡ term_text term
    → IsRelation (terms ++ term ∷ []) 0 × (text ≡ relation_text (terms ++ term ∷ []) 0)
front_ends text rest terms term front clean fits is =
    let more = with_term terms term front.fit fits in (
      more.0,
      text_again text (terms ++ term ∷ []) 0
          (front.words_are ∙ ap (λ (ws : List (List ℕ)). relation_words terms 0 ++ ws) (one_part 32 rest clean ∙ ap (λ (w : List ℕ). w ∷ []) is) ∙ sym more.1),
    )

pub front_ends_with : (text rest : List ℕ) (terms : List Term) (w : ℕ) → IsFront text rest terms → HasNo 32 rest → IsFactor w → rest ≡ number_text w
    → IsRelation terms w × (text ≡ relation_text terms w)
front_ends_with text rest terms w front clean fits is =
    let more = with_constant terms w front.fit fits in (
      more.0,
      text_again text terms w
          (front.words_are ∙ ap (λ (ws : List (List ℕ)). relation_words terms 0 ++ ws) (one_part 32 rest clean ∙ ap (λ (v : List ℕ). v ∷ []) is) ∙ sym more.1),
    )

-- the lead alone
pub lead_alone : (text : List ℕ) (lead : Term) → HasNo 32 text → IsLead lead → text ≡ lead_text lead → IsRelation (lead ∷ []) 0 × (text ≡ relation_text (lead ∷ []) 0)
lead_alone text lead clean fits is = ((fits, All-nil IsTerm, omega arith), is)

pub front_first : (text word behind : List ℕ) (lead : Term) → (text ≡ word ++ 32 ∷ behind) × HasNo 32 word → IsLead lead → word ≡ lead_text lead → IsFront text behind (lead ∷ [])
front_first text word behind lead cut fits is =
    let parts : parts_of 32 text ≡ word ∷ parts_of 32 behind = ap (parts_of 32) cut.0 ∙ parts_cut 32 word behind cut.1 in
    record {
      fit = (fits, All-nil IsTerm, omega arith);
      words_are = parts ∙ ap (λ (w : List ℕ). w ∷ parts_of 32 behind) is;
      further = λ all c h e. by all c h (sym parts ∙ ap (parts_of 32) e ∙ parts_relation all c h);
    }
  where
    by : (all : List Term) (c : ℕ) → IsRelation all c → word ∷ parts_of 32 behind ≡ relation_words all c → AreFurther (parts_of 32 behind)
    by [] c h e = absurd h
    by (first' ∷ terms) c h e = record { terms = terms; constant = c; fit = h.1; small = h.2; words_are = ap (drop 1) e }

-- where the first word is no lead, there is no relation
pub no_relation : (text word : List ℕ) (words : List (List ℕ)) → parts_of 32 text ≡ word ∷ words → IsLeadReading word None
    → (terms : List Term) (c : ℕ) → IsRelation terms c → text ≢ relation_text terms c
no_relation text word words parts none [] c h e = absurd h
no_relation text word words parts none (lead ∷ terms) c h e =
    none lead h.0 (ap head_of (sym parts ∙ ap (parts_of 32) e ∙ parts_relation (lead ∷ terms) c h))
