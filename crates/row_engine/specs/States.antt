-- Bases of nodes, with marks of rows that are still to be pushed, and a queue of nodes that have such rows.
--
--   state bases marks queue   for each node a basis and marks of its rows, by their leads, and the numbers of nodes
--   rows_at s u               the rows of node u
--   marks_at s u              the marks of the rows of node u
--   mark_at s u k             the mark of node u's row with the lead k: 0 where it has none
--   IsUnmarkedAt s u v        the row v of node u has no mark
--   InModule n s u v          v is a combination of the rows of node u
--   AreQueued s               each node with a mark is in the queue
--   total bases               the sum of the lengths of the bases
--   row_count bases           how many rows they have together
--   AreNodes n s              bases, and marks for each
--   IsState n count s         the bases of so many nodes, with their marks, and a queue of nodes
--   begin n count             so many nodes whose bases have no rows, none of them queued
--   with_queued s u           s, with u as the last node of the queue
use Rattle.std.specs.Prelude.{◌≡◌, ℕ, ◌<◌, List, [], ◌∷◌, ◌++◌, All, Contains, length, replicate, slice_index, slice_index_or, sum_by}
use Rattle.word_rows.specs.Rows.{lead}
use Rattle.row_modules.specs.Modules.{IsCombination}
use Rattle.row_modules.specs.Bases.{IsLeadingBasis, basis_length}

pub record State : Type 0 where
  pub bases : List (List (List ℕ))
  pub marks : List (List ℕ)
  pub queue : List ℕ

abbrev pub state : List (List (List ℕ)) → List (List ℕ) → List ℕ → State
state bases marks queue = record { bases = bases; marks = marks; queue = queue }

abbrev pub rows_at : State → ℕ → List (List ℕ)
rows_at s u = slice_index_or s.bases u []

abbrev pub marks_at : State → ℕ → List ℕ
marks_at s u = slice_index_or s.marks u []

abbrev pub mark_at : State → ℕ → ℕ → ℕ
mark_at s u k = slice_index (marks_at s u) k

abbrev pub IsUnmarkedAt : State → ℕ → List ℕ → Type 0
IsUnmarkedAt s u v = mark_at s u (lead v) ≡ 0

abbrev pub InModule : ℕ → State → ℕ → List ℕ → Type 0
InModule n s u v = IsCombination n (Contains (rows_at s u)) v

abbrev pub AreQueued : State → Type 0
AreQueued s = (u : ℕ) → ¬ Contains s.queue u → (k : ℕ) → mark_at s u k ≡ 0

abbrev pub total : List (List (List ℕ)) → ℕ
total bases = sum_by basis_length bases

abbrev pub row_count : List (List (List ℕ)) → ℕ
row_count bases = sum_by length bases

pub record AreNodes (n : ℕ) (s : State) : Type 0 where
  pub leading : All (IsLeadingBasis n) s.bases
  pub marked : length s.marks ≡ length s.bases

pub record IsState (n count : ℕ) (s : State) : Type 0 where
  pub nodes : length s.bases ≡ count
  pub marked : length s.marks ≡ count
  pub leading : All (IsLeadingBasis n) s.bases
  pub numbers : (u : ℕ) → Contains s.queue u → u < count

abbrev pub begin : ℕ → ℕ → State
begin n count = state (replicate count []) (replicate count (replicate n 0)) []

abbrev pub with_queued : State → ℕ → State
with_queued s u = state s.bases s.marks (s.queue ++ u ∷ [])
