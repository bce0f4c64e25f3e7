-- A row plus each word times the row at its place: these are the choices of unknown words; with zeros for the words it is the
-- row, and with 1 for one word it is one sum.
use Rattle.std.proofs.Common.{◌≡◌, ℕ, zero, suc, ◌<◌, List, [], ◌∷◌, length, replicate, get_or, set, All, refl, ap, ap₂, sym, ◌∙◌, ◌^◌, arith}
use Rattle.std.proofs.Math.Nat.{mod-mod}
use Rattle.std.proofs.lemmas.List.Elements.{All-head, All-tail}
use Rattle.word_rows.specs.Rows.{words_of, plus, IsRow}
use Rattle.word_rows.specs.Words.{word}
use Rattle.word_rows.proofs.Laws.{plus-zero, words_of-plus_factor, IsRow-plus}
use Rattle.row_modules.specs.Choices.{IsChoice}

abbrev pub combined : List ℕ → List ℕ → List (List ℕ) → List ℕ
combined start [] rows = start
combined start (w ∷ words) [] = start
combined start (w ∷ words) (row ∷ rows) = words_of (plus w (combined start words rows) row)

pub combined_is_choice : (start words : List ℕ) (rows : List (List ℕ)) → length words ≡ length rows → IsChoice start rows (combined start words rows)
combined_is_choice start [] [] e = refl
combined_is_choice start [] (row ∷ rows) e = absurd (omega arith)
combined_is_choice start (w ∷ words) [] e = absurd (omega arith)
combined_is_choice start (w ∷ words) (row ∷ rows) e = (w, combined start words rows, combined_is_choice start words rows (omega arith), refl)

IsRow-cons : (n w : ℕ) (words : List ℕ) → IsRow n words → IsRow (suc n) (word w ∷ words)
IsRow-cons n w words r = record { width = ap suc r.width; words = ap₂ (λ x xs. x ∷ xs) (mod-mod w (2 ^ 64)) r.words }

pub choice_is_combined : (start : List ℕ) (rows : List (List ℕ)) (v : List ℕ) → IsChoice start rows v
    → (words : List ℕ) × IsRow (length rows) words × (v ≡ combined start words rows)
choice_is_combined start [] v e = ([], record { width = refl; words = refl }, e)
choice_is_combined start (row ∷ rows) v (c, u, k, e) =
    let (words, choice, is) = choice_is_combined start rows u k in (
      word c ∷ words,
      IsRow-cons (length rows) c words choice,
      e ∙ ap (λ x. words_of (plus c x row)) is ∙ sym (words_of-plus_factor c (combined start words rows) row),
    )

module _ (n : ℕ) (s : List ℕ) (is_row : IsRow n s) where
  none_added : (xs row : List ℕ) → IsRow n xs → IsRow n row → words_of (plus 0 xs row) ≡ xs
  none_added xs row x r = ap words_of (plus-zero xs row (x.width ∙ sym r.width)) ∙ x.words

  combined-zeros : (rows : List (List ℕ)) → All (IsRow n) rows → combined s (replicate (length rows) 0) rows ≡ s
  combined-zeros [] all = refl
  combined-zeros (row ∷ rows) all =
      ap (λ xs. words_of (plus 0 xs row)) (combined-zeros rows (All-tail (IsRow n) row rows all)) ∙ none_added s row is_row (All-head (IsRow n) row rows all)

  pub combined-unit : (rows : List (List ℕ)) (k : ℕ) → All (IsRow n) rows → k < length rows
      → combined s (set (replicate (length rows) 0) k 1) rows ≡ words_of (plus 1 s (get_or rows k []))
  combined-unit [] k all within = absurd (omega arith)
  combined-unit (row ∷ rows) zero all within =
      ap (λ xs. words_of (plus 1 xs row)) (combined-zeros rows (All-tail (IsRow n) row rows all))
  combined-unit (row ∷ rows) (suc k) all within =
      let rest = All-tail (IsRow n) row rows all in
      ap (λ xs. words_of (plus 0 xs row)) (combined-unit rows k rest (omega arith))
      ∙ none_added (words_of (plus 1 s (get_or rows k []))) row
      (IsRow-plus n 1 s (get_or rows k []) is_row (rest k [] (omega arith))) (All-head (IsRow n) row rows all)
