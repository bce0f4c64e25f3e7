-- Choices by a state, and the words of slots.
use Rattle.std.proofs.Common.{◌≡◌, ℕ, ◌+◌, ◌<◌, List, [], ◌∷◌, length, map, slice_get, slice_index, get_or, refl, ap, sym, ◌∙◌, arith}
use Rattle.std.specs.List.{range_with_len}
use Rattle.std.specs.Option.{option_map_or}
use Rattle.std.proofs.lemmas.Grind.{same_number_lists}
use Rattle.std.proofs.lemmas.List.FromFn.{get_or-map-range_with_len, length-map-range_with_len}
use Rattle.word_rows.specs.Words.{word}
use Rattle.word_rows.specs.Rows.{IsRow}
use Rattle.word_rows.proofs.Laws.{get_or-words_of, length-words_of}
use Rattle.map_modules.proofs.Products.{row_word}
use Rattle.map_modules.proofs.Sums.{word-word}
use Rattle.affine_prog.specs.Assignments.{unknown_count, Choice}
use Rattle.affine_prog.specs.declared.Assign.{Assign}
use Rattle.affine_prog.specs.declared.Assign.TheVariants.{Affine, Any}
use Rattle.run_paths.specs.Lifts.{Lift}
use Rattle.run_paths.specs.Activations.{Activation, word_of}
use Rattle.run_paths.specs.Follows.{chosen, slot_words}

-- the words that a row has are a choice
row_more : (n x : ℕ) (xs : List ℕ) → word x ≡ x → IsRow n xs → IsRow (n + 1) (x ∷ xs)
row_more n x xs same row =
    let words = row.words in
    record { width = omega (arith, row.width); words = rw (same, words) refl }

pub Choice-chosen : (assigns : List Assign) (t : List ℕ) → IsRow 17 t → Choice assigns (chosen assigns t)
Choice-chosen [] t row = record { width = refl; words = refl }
Choice-chosen (Affine i by ∷ rest) t row = Choice-chosen rest t row
Choice-chosen (Any i ∷ rest) t row =
    row_more (unknown_count rest) (slice_index t i) (chosen rest t) (row_word 17 t row i) (Choice-chosen rest t row)

words_from_index : (n : ℕ) (xs : List ℕ) → length xs ≡ n → ((k : ℕ) → k < n → word (get_or xs k 0) ≡ get_or xs k 0) → IsRow n xs
words_from_index n xs wide words = record {
  width = wide;
  words = same_number_lists _ _ (length-words_of xs) (λ k h. get_or-words_of xs k ∙ words k (omega (arith, length-words_of xs)));
}

words_row : (n : ℕ) (f : ℕ → ℕ) → IsRow n (map (λ k. word (f k)) (range_with_len 0 n))
words_row n f =
    words_from_index n _ (length-map-range_with_len (λ k. word (f k)) 0 n)
    (λ k h. let e = get_or-map-range_with_len (λ i. word (f i)) 0 n k k 0 h (omega arith) in ap word e ∙ word-word (f k) ∙ sym e)

pub IsRow-slot_words : (lift : Lift) (a : Activation) (memory : ℕ → ℕ) → IsRow 16 (slot_words lift a memory)
IsRow-slot_words lift a memory = words_row 16 (λ k. option_map_or (word_of a [] memory) (slice_get lift.names k) 0)
