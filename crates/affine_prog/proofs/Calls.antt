-- The map of a call is linear on both sides, and the map of an opening is affine in the words that its slots are given.
use Rattle.std.proofs.Common.{◌≡◌, ℕ, ◌+◌, ◌*◌, List, replicate, slice_index, ap, sym, ◌∙◌, arith, ◌==◌, ◌&&◌, ◌||◌}
use Rattle.word_rows.specs.Words.{word}
use Rattle.word_rows.specs.Rows.{words_of, plus}
use Rattle.word_rows.proofs.Laws.{get_or-zeros}
use Rattle.row_modules.specs.Positions.{has}
use Rattle.map_modules.specs.Matrices.{product, with_slots, linear_extension, IsAffine}
use Rattle.row_modules.specs.Maps.{IsLinear, IsBilinear}
use Rattle.map_modules.proofs.Entries.{IsRow-matrix}
use Rattle.map_modules.proofs.Linear.{IsAdditive, matrix-plus, either_plus, plus_at, product_first, product_second, extension_sum}
use Rattle.affine_prog.specs.LevelPaths.{opening_map, call_map}
use Rattle.affine_prog.specs.Laws.{linear_call_map, slot_words}

pub call_map-affine : (registers slots : ℕ) (before callee caller : List ℕ) → IsAffine callee
    → call_map registers slots before callee caller ≡ linear_call_map registers slots before callee caller
call_map-affine registers slots before callee caller a =
    ap (λ one. product (with_slots one registers slots callee) (product before caller)) (sym (a 16 (omega arith)))

pub call_of_callees : (registers slots : ℕ) (before caller : List ℕ) → IsAdditive 289 (λ n. linear_call_map registers slots before n caller)
call_of_callees registers slots before caller c v w left right =
    ap (λ m. product m (product before caller)) (extension_sum registers slots c v w left right)
    ∙ product_first (product before caller) c (linear_extension registers slots v) (linear_extension registers slots w) (IsRow-matrix _) (IsRow-matrix _)

pub call_of_callers : (registers slots : ℕ) (before callee : List ℕ) → IsAdditive 289 (linear_call_map registers slots before callee)
call_of_callers registers slots before callee c v w left right =
    ap (product (linear_extension registers slots callee)) (product_second before c v w left right)
    ∙ product_second (linear_extension registers slots callee) c (product before v) (product before w) (IsRow-matrix _) (IsRow-matrix _)

pub call_is_bilinear : (registers slots : ℕ) (before : List ℕ) → IsBilinear 289 289 289 (linear_call_map registers slots before)
call_is_bilinear registers slots before = record {
  first = λ caller r. record { rows = λ n row. IsRow-matrix _; sum = call_of_callees registers slots before caller };
  second = λ callee r. record { rows = λ n row. IsRow-matrix _; sum = call_of_callers registers slots before callee };
}

no_more : (x : ℕ) → word x ≡ word (x + 1 * 0)
no_more x = ap word (let e : x ≡ x + 1 * 0 = omega arith in e)

pub opening_map-zeros : (registers slots : ℕ) (words : List ℕ)
    → opening_map registers slots words ≡ words_of (plus 1 (opening_map registers slots (replicate 16 0)) (slot_words registers slots words))
opening_map-zeros registers slots words =
    matrix-plus 1 _ _ _ (λ i j row column. either_plus (has registers i || (i == 16)) 1 _ _ _ _ _ _ (no_more _)
    (either_plus (has slots i && (j == 16)) 1 _ _ _ _ _ _
    (let z = get_or-zeros 16 i in ap word (let e : slice_index words i ≡ slice_index (replicate 16 0) i + 1 * slice_index words i = omega arith in e))
    (no_more 0)))

pub slot_words_are_linear : (registers slots : ℕ) → IsLinear 16 289 (slot_words registers slots)
slot_words_are_linear registers slots = record {
  rows = λ v r. IsRow-matrix _;
  sum = λ c v w left right.
      matrix-plus c _ _ _ (λ i j row column. either_plus (has registers i || (i == 16)) c _ _ _ _ _ _ (none c)
      (either_plus (has slots i && (j == 16)) c _ _ _ _ _ _ (plus_at 16 c v w left right i) (none c)));
} where
  none : (k : ℕ) → word 0 ≡ word (0 + k * 0)
  none k = ap word (let e : 0 ≡ 0 + k * 0 = omega arith in e)
