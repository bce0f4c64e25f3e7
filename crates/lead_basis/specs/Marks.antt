-- Marks of the rows that insertions write, by their leads.
--
--   IsUnmarked marks row      the marks are 0 at the lead of the row
--   Marks n row before after  the lead of the row was marked, and no mark was taken away
--   Writes old new result before after
--       what an insertion does to rows and marks:
--       frame     each unmarked row of new is a row of old
--       kept      no mark was taken away, so it was unmarked before, too
--       quiet     where the module didn't grow, the marks stayed
use Rattle.std.specs.Prelude.{◌≡◌, ◌≢◌, ℕ, ◌<◌, Bool, IsFalse, List, Contains, Result, IfOk, slice_index}
use Rattle.word_rows.specs.Rows.{lead}

abbrev pub IsUnmarked : List ℕ → List ℕ → Type 0
IsUnmarked marks row = slice_index marks (lead row) ≡ 0

pub record Marks (n : ℕ) (row before after : List ℕ) : Type 0 where
  pub here : lead row < n → slice_index after (lead row) ≢ 0
  pub kept : (k : ℕ) → slice_index after k ≡ 0 → slice_index before k ≡ 0

pub record Writes {E : Type 0} (old new : List (List ℕ)) (result : Result Bool E) (before after : List ℕ) : Type 0 where
  pub frame : (row : List ℕ) → Contains new row → IsUnmarked after row → Contains old row
  pub kept : (k : ℕ) → slice_index after k ≡ 0 → slice_index before k ≡ 0
  pub quiet : IfOk result (λ grew. IsFalse grew → after ≡ before)
