-- The words of a relation's line.
use Rattle.std.proofs.Common.{◌≡◌, ℕ, ◌<◌, ◌≤◌, ◌^◌, Bool, true, false, cond, eqb, List, [], ◌∷◌, ◌++◌, map, length, codes, refl, sym, ap, ◌∙◌, arith}
use Rattle.std.specs.Prelude.{nat_le}
use Rattle.std.specs.List.{AllByRecursion, join_with_byte}
use Rattle.std.specs.Char.{digit_value}
use Rattle.std.proofs.lemmas.Bool.{eqb-false}
use Rattle.std.proofs.lemmas.List.Elements.{All-append, All-from_recursion, recursion_from_All}
use Rattle.std.proofs.lemmas.List.Splits.{join_with_byte-slice_split}
use Rattle.report_text.specs.Text.{sign, magnitude}
use Rattle.number_text.specs.Numerals.{dec}
use Rattle.report_lines.specs.Parts.{HasNo, parts_of}
use Rattle.report_lines.specs.Terms.{Term, IsFactor, IsTerm, lead_text, term_text, number_text}
use Rattle.report_lines.specs.Relations.{IsRelation, constant_words, relation_text, relation_words}
use Rattle.report_lines.proofs.Cuts.{one_part, parts_cut}
use Rattle.report_lines.proofs.TermTexts.{magnitude_has_no, lead_is_term}

-- words with no such byte are what stands between the bytes
pub join_parts : (byte : ℕ) (words : List (List ℕ)) → 0 < length words → AllByRecursion (HasNo byte) words → parts_of byte (join_with_byte byte words) ≡ words
join_parts byte [] some clean = absurd (omega arith)
join_parts byte (word ∷ []) some clean = one_part byte word clean.0
join_parts byte (word ∷ next ∷ words) some clean =
    parts_cut byte word (join_with_byte byte (next ∷ words)) clean.0
    ∙ ap (λ (ws : List (List ℕ)). word ∷ ws) (join_parts byte (next ∷ words) (omega arith) clean.1)

pub sign_has_no : (byte w : ℕ) → eqb 43 byte ≡ false → eqb 45 byte ≡ false → HasNo byte (sign w)
sign_has_no byte w plus minus = by (nat_le w (2 ^ 63))
  where
    by : (b : Bool) → HasNo byte (cond b (codes "+") (codes "-"))
    by true = All-from_recursion (λ b. eqb b byte ≡ false) (codes "+") (plus, tt)
    by false = All-from_recursion (λ b. eqb b byte ≡ false) (codes "-") (minus, tt)

lead_has_no : (byte : ℕ) (term : Term) → 10 ≤ digit_value byte → eqb 42 byte ≡ false → IsFactor term.0 → HasNo byte term.1 → HasNo byte (lead_text term)
lead_has_no byte term digit star fits clean =
    All-append (λ b. eqb b byte ≡ false) (dec (magnitude term.0) ++ codes "*") term.1
    (All-append (λ b. eqb b byte ≡ false) (dec (magnitude term.0)) (codes "*") (magnitude_has_no byte term.0 digit fits) (All-from_recursion (λ b. eqb b byte ≡ false) (codes "*") (star, tt)))
    clean

number_has_no : (byte w : ℕ) → 10 ≤ digit_value byte → eqb 43 byte ≡ false → eqb 45 byte ≡ false → IsFactor w → HasNo byte (number_text w)
number_has_no byte w digit plus minus fits =
    All-append (λ b. eqb b byte ≡ false) (sign w) (dec (magnitude w)) (sign_has_no byte w plus minus) (magnitude_has_no byte w digit fits)

constant_clean : (byte c : ℕ) → 10 ≤ digit_value byte → eqb 43 byte ≡ false → eqb 45 byte ≡ false → c < 2 ^ 64 → AllByRecursion (HasNo byte) (constant_words c)
constant_clean byte c digit plus minus small = by (eqb c 0) refl
  where
    by : (b : Bool) → eqb c 0 ≡ b → AllByRecursion (HasNo byte) (cond b [] (number_text c ∷ []))
    by true e = tt
    by false e = (number_has_no byte c digit plus minus (omega (arith, eqb-false c 0 e), small), tt)

terms_clean : (byte : ℕ) (terms : List Term) (c : ℕ) → 10 ≤ digit_value byte → eqb 42 byte ≡ false → eqb 43 byte ≡ false → eqb 45 byte ≡ false → c < 2 ^ 64
    → AllByRecursion (λ term. IsFactor term.0 × HasNo byte term.1) terms → AllByRecursion (HasNo byte) (map term_text terms ++ constant_words c)
terms_clean byte [] c digit star plus minus small fit = constant_clean byte c digit plus minus small
terms_clean byte (term ∷ terms) c digit star plus minus small fit = (
  All-append (λ b. eqb b byte ≡ false) (sign term.0) (lead_text term) (sign_has_no byte term.0 plus minus) (lead_has_no byte term digit star fit.0.0 fit.0.1),
  terms_clean byte terms c digit star plus minus small fit.1,
)

pub words_clean : (byte : ℕ) (terms : List Term) (c : ℕ) → 10 ≤ digit_value byte → eqb 42 byte ≡ false → eqb 43 byte ≡ false → eqb 45 byte ≡ false → c < 2 ^ 64
    → AllByRecursion (λ term. IsFactor term.0 × HasNo byte term.1) terms → AllByRecursion (HasNo byte) (relation_words terms c)
words_clean byte [] c digit star plus minus small fit = constant_clean byte c digit plus minus small
words_clean byte (lead ∷ terms) c digit star plus minus small fit =
    (lead_has_no byte lead digit star fit.0.0 fit.0.1, terms_clean byte terms c digit star plus minus small fit.1)

factors : (terms : List Term) → AllByRecursion IsTerm terms → AllByRecursion (λ term. IsFactor term.0 × HasNo 32 term.1) terms
factors [] h = tt
factors (term ∷ terms) h = ((h.0.0, h.0.1.1), factors terms h.1)

-- a relation's text between its spaces
pub parts_relation : (terms : List Term) (c : ℕ) → IsRelation terms c → parts_of 32 (relation_text terms c) ≡ relation_words terms c
parts_relation [] c h = absurd h
parts_relation (lead ∷ terms) c h =
    join_parts 32 (relation_words (lead ∷ terms) c) (omega arith)
    (words_clean 32 (lead ∷ terms) c (omega arith) refl refl refl h.2
    (factors (lead ∷ terms) (lead_is_term lead h.0, recursion_from_All IsTerm terms h.1)))

pub text_again : (text : List ℕ) (terms : List Term) (c : ℕ) → parts_of 32 text ≡ relation_words terms c → text ≡ relation_text terms c
text_again text terms c e = sym (join_with_byte-slice_split 32 text) ∙ ap (join_with_byte 32) e
