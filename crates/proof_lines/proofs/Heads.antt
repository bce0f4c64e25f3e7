-- What the lines tell.
use Rattle.std.proofs.Common.{◌≡◌, ◌≢◌, ℕ, ◌+◌, ◌<◌, ◌≤◌, ◌^◌, eqb, true, false, get_or, List, [], ◌∷◌, ◌++◌, codes, drop, length, map, Option, append_assoc, append-nil, refl, sym, ap, ◌∙◌, arith}
use Rattle.std.proofs.lemmas.Bool.{eq-eqb}
use Rattle.std.specs.List.{flat_map, join_with_byte, AllByRecursion}
use Rattle.std.proofs.lemmas.List.{length-map}
use Rattle.std.proofs.lemmas.List.Concat.{flat_map-cons}
use Rattle.std.proofs.lemmas.List.Splits.{join_with_byte-slice_split}
use Rattle.std.proofs.lemmas.List.Elements.{All-append, All-from_recursion}
use Rattle.number_text.specs.Numerals.{dec, hex}
use Rattle.report_lines.specs.Parts.{HasNo, parts_of}
use Rattle.report_lines.proofs.Cuts.{one_cut, no_cut, some_part}
use Rattle.report_lines.proofs.Digits.{dec_has_no, hex_has_no}
use Rattle.report_lines.proofs.WordsRead.{join_parts}
use Rattle.proof_text.specs.declared.rows.SparseRow.{SparseRow}
use Rattle.proof_text.specs.declared.rows.WordAt.{WordAt}
use Rattle.proof_text.specs.Files.{IsRowLine}
use Rattle.proof_text.specs.Text.{place_text, word_text}
use Rattle.proof_lines.specs.Words.{AreItems, IsItem, item_text}
use Rattle.proof_lines.proofs.Rising.{items_sparse, sparse_items}

-- a head's procedure stands before the first space
pub head_is : (text front behind : List ℕ) (p : ℕ) (a : Option ℕ) → text ≡ front ++ 32 ∷ behind → HasNo 32 front → p < 2 ^ 64
    → codes "head " ++ text ≡ codes "head " ++ hex p ++ codes " " ++ place_text a → (front ≡ hex p) × (behind ≡ place_text a)
head_is text front behind p a is clean small e =
    one_cut 32 front behind (hex p) (place_text a) clean (hex_has_no 32 p (omega arith) refl refl small)
    (sym is ∙ ap (drop 5) e ∙ append_assoc (hex p) (codes " ") (place_text a))

pub no_head : (text : List ℕ) (p : ℕ) (a : Option ℕ) → HasNo 32 text → p < 2 ^ 64 → codes "head " ++ text ≢ codes "head " ++ hex p ++ codes " " ++ place_text a
no_head text p a clean small e =
    no_cut 32 text (hex p) (place_text a) clean (hex_has_no 32 p (omega arith) refl refl small) (ap (drop 5) e ∙ append_assoc (hex p) (codes " ") (place_text a))

-- texts that begin otherwise are apart
pub begins_apart : (x y : ℕ) (xs ys : List ℕ) → eqb x y ≡ false → x ∷ xs ≢ y ∷ ys
begins_apart x y xs ys other e =
    let same : x ≡ y = ap (λ (l : List ℕ). get_or l 0 0) e in
    let f : true ≡ false = sym (eq-eqb x y same) ∙ other in absurd cc

-- a row's text by the texts of its words
spaced : (x : WordAt) (xs : List WordAt) → flat_map word_text (x ∷ xs) ≡ 32 ∷ join_with_byte 32 (map item_text (x ∷ xs))
spaced x [] = flat_map-cons word_text x [] ∙ append-nil (word_text x)
spaced x (y ∷ ys) = flat_map-cons word_text x (y ∷ ys) ∙ ap (λ (t : List ℕ). word_text x ++ t) (spaced y ys)

pub row_begins : (width : ℕ) (row : SparseRow) → IsRowLine width row
    → codes "row" ++ flat_map word_text row.words ≡ codes "row " ++ join_with_byte 32 (map item_text row.words)
row_begins width row fit = by row.words fit.some
  where
    by : (items : List WordAt) → 1 ≤ length items → codes "row" ++ flat_map word_text items ≡ codes "row " ++ join_with_byte 32 (map item_text items)
    by [] some = absurd (omega arith)
    by (x ∷ xs) some = ap (λ (t : List ℕ). codes "row" ++ t) (spaced x xs)

item_clean : (least width : ℕ) (item : WordAt) → width ≤ 512 → IsItem least width item → HasNo 32 (item_text item)
item_clean least width item wide fit =
    All-append (λ b. eqb b 32 ≡ false) (dec item.position ++ codes ":") (hex item.word)
    (All-append (λ b. eqb b 32 ≡ false) (dec item.position) (codes ":") (dec_has_no 32 item.position (omega arith) (omega (arith, fit.within, wide)))
    (All-from_recursion (λ b. eqb b 32 ≡ false) (codes ":") (refl, tt)))
    (hex_has_no 32 item.word (omega arith) refl refl fit.small)

items_clean : (least width : ℕ) (items : List WordAt) → width ≤ 512 → AreItems least width items → AllByRecursion (HasNo 32) (map item_text items)
items_clean least width [] wide fit = tt
items_clean least width (x ∷ items) wide fit = (item_clean least width x wide fit.0, items_clean (x.position + 1) width items wide fit.1)

pub items_of_row : (width : ℕ) (row : SparseRow) → IsRowLine width row → AreItems 0 width row.words
items_of_row width row fit = sparse_items 0 width row.words fit.is_sparse (λ k d l. omega arith)

-- a row's text has its words between the spaces
pub row_parts : (width : ℕ) (row : SparseRow) (text : List ℕ) → width ≤ 512 → IsRowLine width row
    → codes "row " ++ text ≡ codes "row" ++ flat_map word_text row.words → parts_of 32 text ≡ map item_text row.words
row_parts width row text wide fit e =
    ap (λ (t : List ℕ). parts_of 32 (drop 4 t)) (e ∙ row_begins width row fit)
    ∙ join_parts 32 (map item_text row.words) (omega (arith, fit.some, length-map row.words item_text)) (items_clean 0 width row.words wide (items_of_row width row fit))

abbrev pub row_of : List WordAt → SparseRow
row_of words = record { words = words }

pub parts_row : (width : ℕ) (words : List WordAt) (text : List ℕ) → AreItems 0 width words → parts_of 32 text ≡ map item_text words → IsRowLine width (row_of words)
parts_row width words text fit e = record {
  some = omega (arith, some_part 32 text, length-map words item_text, ap (λ (ps : List (List ℕ)). length ps) e);
  is_sparse = items_sparse 0 width words fit;
}

pub parts_text : (width : ℕ) (words : List WordAt) (text : List ℕ) → AreItems 0 width words → parts_of 32 text ≡ map item_text words
    → codes "row " ++ text ≡ codes "row" ++ flat_map word_text words
parts_text width words text fit e =
    ap (λ (t : List ℕ). codes "row " ++ t) (sym (join_with_byte-slice_split 32 text) ∙ ap (join_with_byte 32) e)
    ∙ sym (row_begins width (row_of words) (parts_row width words text fit e))
