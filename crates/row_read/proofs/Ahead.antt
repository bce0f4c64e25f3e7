-- A row's text, one term further.
use Rattle.std.proofs.Common.{◌≡◌, ℕ, ◌+◌, ◌-◌, ◌<◌, List, [], ◌∷◌, ◌++◌, append_assoc, length, length-append, length-drop, take, add-one, refl, sym, subst, ap, ◌∙◌, arith}
use Rattle.std.specs.List.{join_with_byte}
use Rattle.std.proofs.Math.Seq.{take-append_seam}
use Rattle.report_text.specs.declared.names.Name.{Name}
use Rattle.report_lines.specs.Parts.{HasNo, parts_of}
use Rattle.report_lines.specs.Terms.{Term}
use Rattle.report_lines.specs.Relations.{IsRelation, relation_text, relation_words}
use Rattle.report_lines.proofs.Cuts.{parts_cut, some_part}
use Rattle.report_lines.proofs.WordsRead.{parts_relation}
use Rattle.row_read.specs.Rows.{AreFine, IsRowText}
use Rattle.row_read.specs.Fronts.{IsReadUpTo}
use Rattle.row_read.proofs.Joined.{join_cut, join_last, take_next}
use Rattle.row_read.proofs.FirstTerms.{IsFit, count_words, front_fits}

-- before the first term
pub begins : (names : List Name) (p : ℕ) (text : List ℕ) → IsRowText text → IsReadUpTo names p text text 0
begins names p text shape = record {
  terms = shape.terms;
  constant = shape.constant;
  fit = shape.fit;
  text_is = shape.text_is;
  whole = refl;
  others = sym (parts_relation shape.terms shape.constant shape.fit) ∙ ap (parts_of 32) (sym shape.text_is);
  within = omega arith;
  short = omega arith;
  fine = record { known = λ k d lt. absurd (omega arith); rising = λ i j d lt below. absurd (omega arith) };
}

-- the front up to the next space, and what is left behind it
pub record IsAhead (names : List Name) (p : ℕ) (text rest behind : List ℕ) (k at : ℕ) : Type 0 where
  pub terms : List Term
  pub constant : ℕ
  pub fit : IsRelation terms constant
  pub text_is : text ≡ relation_text terms constant
  pub within : k < length terms
  pub fine : AreFine names p (take k terms)
  pub front_fit : IsRelation (take (k + 1) terms) 0
  pub front_is : take at text ≡ relation_text (take (k + 1) terms) 0
  pub next : AreFine names p (take (k + 1) terms) → IsReadUpTo names p text behind (k + 1)

pub ahead : (names : List Name) (p : ℕ) (text rest word behind : List ℕ) (k : ℕ) → IsReadUpTo names p text rest k → (rest ≡ word ++ 32 ∷ behind) × HasNo 32 word
    → IsAhead names p text rest behind k (length text - length rest + length word)
ahead names p text rest word behind k u cut =
    let words : List (List ℕ) = relation_words u.terms u.constant in
    let n = take_next words k word (parts_of 32 behind) (u.others ∙ ap (parts_of 32) cut.0 ∙ parts_cut 32 word behind cut.1) in
    let lt : k < length u.terms =
    omega (arith, ap (λ (ws : List (List ℕ)). length ws) n.left, some_part 32 behind, length-drop (k + 1) words, (count_words u.terms u.constant).1) in
    let front : List ℕ = join_with_byte 32 (take (k + 1) words) in
    let two : text ≡ join_with_byte 32 (take k words ++ word ∷ behind ∷ []) =
    u.whole ∙ ap (λ (r : List ℕ). join_with_byte 32 (take k words ++ r ∷ [])) cut.0 ∙ join_cut (take k words) word behind in
    let whole : text ≡ front ++ 32 ∷ behind =
    two ∙ join_last (take k words) word behind ∙ ap (λ (ws : List (List ℕ)). join_with_byte 32 ws ++ 32 ∷ behind) (sym n.taken) in
    let long : length text ≡ length front + length (32 ∷ behind) = ap (λ (xs : List ℕ). length xs) whole ∙ length-append front (32 ∷ behind) in
    let rest_long : length rest ≡ length word + length (32 ∷ behind) = ap (λ (xs : List ℕ). length xs) cut.0 ∙ length-append word (32 ∷ behind) in
    let fits : IsFit (take (k + 1) u.terms) (take (k + 1) words) =
    subst (λ (m : ℕ). IsFit (take m u.terms) (take m words)) (sym (add-one k)) (front_fits u.terms u.constant k u.fit (omega arith)) in
    let size : length text - length rest + length word ≡ length front = omega (arith, u.short) in
    record {
      terms = u.terms;
      constant = u.constant;
      fit = u.fit;
      text_is = u.text_is;
      within = lt;
      fine = u.fine;
      front_fit = fits.fit;
      front_is = ap (λ (m : ℕ). take m text) size ∙ ap (take (length front)) whole ∙ take-append_seam front (32 ∷ behind) ∙ ap (join_with_byte 32) fits.words_are;
      next = λ fine. record {
        terms = u.terms;
        constant = u.constant;
        fit = u.fit;
        text_is = u.text_is;
        whole = two ∙ ap (join_with_byte 32) (sym (append_assoc (take k words) (word ∷ []) (behind ∷ []))) ∙ ap (λ (ws : List (List ℕ)). join_with_byte 32 (ws ++ behind ∷ [])) (sym n.taken);
        others = n.left;
        within = omega arith;
        short = omega (arith, u.short);
        fine = fine;
      };
    }
