-- A text is that of one line.
use Rattle.std.proofs.Common.{◌≡◌, ℕ, ◌+◌, ◌≤◌, List, [], ◌∷◌, ◌++◌, codes, drop, map, Option, None, Some, append_assoc, refl, sym, subst, ap, ◌∙◌, arith, eqb, false}
use Rattle.std.specs.List.{flat_map, join_with_byte}
use Rattle.std.proofs.lemmas.List.Concat.{flat_map-cons}
use Rattle.std.proofs.lemmas.List.Elements.{All-append, All-from_recursion, All-nil}
use Rattle.number_text.specs.Numerals.{dec, hex}
use Rattle.report_lines.specs.Parts.{HasNo}
use Rattle.report_lines.proofs.NamesTold.{hex_injective}
use Rattle.report_lines.proofs.Digits.{dec_has_no, hex_has_no}
use Rattle.proof_text.specs.declared.rows.SparseRow.{SparseRow}
use Rattle.proof_text.specs.declared.rows.WordAt.{WordAt}
use Rattle.proof_text.specs.Files.{IsRowLine}
use Rattle.proof_text.specs.Text.{place_text, word_text}
use Rattle.proof_lines.specs.declared.lines.Line.{Line}
use Rattle.proof_lines.specs.declared.lines.Line.TheVariants.{Head, Entry, Row, Claims}
use Rattle.proof_lines.specs.Words.{AreItems, item_text}
use Rattle.proof_lines.specs.Lines.{IsLine, IsPlace, line_text}
use Rattle.proof_lines.proofs.WordTexts.{one_item}
use Rattle.proof_lines.proofs.Heads.{begins_apart, head_is, items_of_row, row_begins, row_of, row_parts}

one_place : (a b : Option ℕ) → IsPlace a → IsPlace b → place_text a ≡ place_text b → a ≡ b
one_place None None p q e = refl
one_place None (Some b) p q e = absurd (begins_apart 101 48 _ _ refl e)
one_place (Some a) None p q e = absurd (begins_apart 48 101 _ _ refl e)
one_place (Some a) (Some b) p q e = ap Some (hex_injective a b p q e)

same_items : (least width : ℕ) (a b : List WordAt) → width ≤ 512 → AreItems least width a → AreItems least width b → map item_text a ≡ map item_text b → a ≡ b
same_items least width [] [] wide p q e = refl
same_items least width [] (y ∷ b) wide p q e = absurd cc
same_items least width (x ∷ a) [] wide p q e = absurd cc
same_items least width (x ∷ a) (y ∷ b) wide p q e =
    let h : item_text x ≡ item_text y = cc in
    let t : map item_text a ≡ map item_text b = cc in
    let same : x ≡ y = one_item least least width x y wide p.0 q.0 h in
    let rest : a ≡ b = same_items (x.position + 1) width a b wide p.1 (subst (λ (z : WordAt). AreItems (z.position + 1) width b) (sym same) q.1) t in
    (λ i. same i ∷ rest i)

one_row : (width : ℕ) (a b : SparseRow) → width ≤ 512 → IsRowLine width a → IsRowLine width b
    → codes "row" ++ flat_map word_text a.words ≡ codes "row" ++ flat_map word_text b.words → a ≡ b
one_row width a b wide p q e =
    let text : List ℕ = join_with_byte 32 (map item_text a.words) in
    let begins : codes "row " ++ text ≡ codes "row" ++ flat_map word_text a.words = sym (row_begins width a p) in
    ap row_of (same_items 0 width a.words b.words wide (items_of_row width a p) (items_of_row width b q)
    (sym (row_parts width a text wide p begins) ∙ row_parts width b text wide q (begins ∙ e)))

one_head : (p q : ℕ) (a b : Option ℕ) → IsLine 0 (Head p a) → IsLine 0 (Head q b) → line_text (Head p a) ≡ line_text (Head q b) → Head p a ≡ Head q b
one_head p q a b fits also e =
    let k = head_is (hex p ++ 32 ∷ place_text a) (hex p) (place_text a) q b refl (hex_has_no 32 p (omega arith) refl refl fits.0) also.0 (sym (by_space p a) ∙ e) in
    let same : p ≡ q = hex_injective p q fits.0 also.0 k.0 in
    let place : a ≡ b = one_place a b fits.1 also.1 k.1 in (λ i. Head (same i) (place i))
  where
    by_space : (p : ℕ) (a : Option ℕ) → line_text (Head p a) ≡ codes "head " ++ (hex p ++ 32 ∷ place_text a)
    by_space p a = simp append_assoc

pub one_line : (width : ℕ) (a b : Line) → width ≤ 512 → IsLine width a → IsLine width b → line_text a ≡ line_text b → a ≡ b
one_line width (Head p a) (Head q b) wide fits also e = one_head p q a b fits also e
one_line width (Head p a) (Entry q) wide fits also e = absurd (begins_apart 104 101 _ _ refl e)
one_line width (Head p a) (Row row) wide fits also e = absurd (begins_apart 104 114 _ _ refl e)
one_line width (Head p a) Claims wide fits also e = absurd (begins_apart 104 99 _ _ refl e)
one_line width (Entry p) (Head q b) wide fits also e = absurd (begins_apart 101 104 _ _ refl e)
one_line width (Entry p) (Entry q) wide fits also e = ap Entry (hex_injective p q fits also (ap (drop 6) e))
one_line width (Entry p) (Row row) wide fits also e = absurd (begins_apart 101 114 _ _ refl e)
one_line width (Entry p) Claims wide fits also e = absurd (begins_apart 101 99 _ _ refl e)
one_line width (Row row) (Head q b) wide fits also e = absurd (begins_apart 114 104 _ _ refl e)
one_line width (Row row) (Entry q) wide fits also e = absurd (begins_apart 114 101 _ _ refl e)
one_line width (Row row) (Row next) wide fits also e = ap Row (one_row width row next wide fits also e)
one_line width (Row row) Claims wide fits also e = absurd (begins_apart 114 99 _ _ refl e)
one_line width Claims (Head q b) wide fits also e = absurd (begins_apart 99 104 _ _ refl e)
one_line width Claims (Entry q) wide fits also e = absurd (begins_apart 99 101 _ _ refl e)
one_line width Claims (Row row) wide fits also e = absurd (begins_apart 99 114 _ _ refl e)
one_line width Claims Claims wide fits also e = refl

-- a line's text has no newline
items_no_end : (least width : ℕ) (items : List WordAt) → width ≤ 512 → AreItems least width items → HasNo 10 (flat_map word_text items)
items_no_end least width [] wide fit = All-nil (λ b. eqb b 10 ≡ false)
items_no_end least width (x ∷ items) wide fit =
    subst (HasNo 10) (sym (flat_map-cons word_text x items))
    (All-append (λ b. eqb b 10 ≡ false) (word_text x) (flat_map word_text items)
    (All-append (λ b. eqb b 10 ≡ false) (codes " " ++ dec x.position ++ codes ":") (hex x.word)
    (All-append (λ b. eqb b 10 ≡ false) (codes " " ++ dec x.position) (codes ":")
    (All-append (λ b. eqb b 10 ≡ false) (codes " ") (dec x.position) (All-from_recursion (λ b. eqb b 10 ≡ false) (codes " ") (refl, tt))
    (dec_has_no 10 x.position (omega arith) (omega (arith, fit.0.within, wide)))) (All-from_recursion (λ b. eqb b 10 ≡ false) (codes ":") (refl, tt)))
    (hex_has_no 10 x.word (omega arith) refl refl fit.0.small)) (items_no_end (x.position + 1) width items wide fit.1))

place_no_end : (a : Option ℕ) → IsPlace a → HasNo 10 (place_text a)
place_no_end None p = All-from_recursion (λ b. eqb b 10 ≡ false) (codes "exit") (refl, (refl, (refl, (refl, tt))))
place_no_end (Some a) p = hex_has_no 10 a (omega arith) refl refl p

pub line_no_end : (width : ℕ) (line : Line) → width ≤ 512 → IsLine width line → HasNo 10 (line_text line)
line_no_end width (Head p a) wide fits =
    All-append (λ b. eqb b 10 ≡ false) (codes "head " ++ hex p ++ codes " ") (place_text a)
    (All-append (λ b. eqb b 10 ≡ false) (codes "head " ++ hex p) (codes " ")
    (All-append (λ b. eqb b 10 ≡ false) (codes "head ") (hex p) (All-from_recursion (λ b. eqb b 10 ≡ false) (codes "head ") (refl, (refl, (refl, (refl, (refl, tt))))))
    (hex_has_no 10 p (omega arith) refl refl fits.0)) (All-from_recursion (λ b. eqb b 10 ≡ false) (codes " ") (refl, tt)))
    (place_no_end a fits.1)
line_no_end width (Entry p) wide fits =
    All-append (λ b. eqb b 10 ≡ false) (codes "entry ") (hex p) (All-from_recursion (λ b. eqb b 10 ≡ false) (codes "entry ") (refl, (refl, (refl, (refl, (refl, (refl, tt)))))))
    (hex_has_no 10 p (omega arith) refl refl fits)
line_no_end width (Row row) wide fits =
    All-append (λ b. eqb b 10 ≡ false) (codes "row") (flat_map word_text row.words) (All-from_recursion (λ b. eqb b 10 ≡ false) (codes "row") (refl, (refl, (refl, tt))))
    (items_no_end 0 width row.words wide (items_of_row width row fits))
line_no_end width Claims wide fits =
    All-from_recursion (λ b. eqb b 10 ≡ false) (codes "claims") (refl, (refl, (refl, (refl, (refl, (refl, tt))))))
