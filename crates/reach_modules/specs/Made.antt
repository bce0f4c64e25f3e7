-- What sets of matrices make of rows.
--
--   After M N m              m is a matrix of M after one of N
--   MakesEach M rows all     all has, for each of the rows in turn, rows that span what M makes of it
--   alone k w                the row with the word w at position k, and 0 elsewhere
--   opened slots kept w      the row kept, and the word w at each of the slots alone
--   opened_of slots keep v   what the matrix keep makes of v, and v's word at position 16 at each of the slots alone
--   returned_of registers slots exits v    what the maps of exits make of v, as a caller with these slots sees them
use Rattle.std.specs.Prelude.{◌≡◌, ℕ, List, [], ◌∷◌, map, flat_map, replicate, slice_index, slice_set, if◌then◌else◌, ◌==◌}
use Rattle.word_rows.specs.Rows.{IsRow}
use Rattle.map_modules.specs.Matrices.{product, apply, linear_extension}
use Rattle.row_images.specs.States.{Makes, Spans}

abbrev pub After : (List ℕ → Type 0) → (List ℕ → Type 0) → List ℕ → Type 0
After M N m = (a b : List ℕ) × M a × N b × (m ≡ product a b)

pub record MakesEach (M : List ℕ → Type 0) (rows all : List (List ℕ)) : Type 0 where
  pub by : List ℕ → List (List ℕ)
  pub is : all ≡ flat_map by rows
  pub each : (v : List ℕ) → IsRow 17 v → Spans (by v) (Makes M v)

abbrev pub alone : ℕ → ℕ → List ℕ
alone k w = slice_set (replicate 17 0) k w

abbrev pub opened : List ℕ → List ℕ → ℕ → List (List ℕ)
opened slots kept w = kept ∷ (if w == 0 then [] else map (λ k. alone k w) slots)

abbrev pub opened_of : List ℕ → List ℕ → List ℕ → List (List ℕ)
opened_of slots keep v = opened slots (apply keep v) (slice_index v 16)

abbrev pub returned_of : ℕ → ℕ → List (List ℕ) → List ℕ → List (List ℕ)
returned_of registers slots exits v = map (λ n. apply (linear_extension registers slots n) v) exits
