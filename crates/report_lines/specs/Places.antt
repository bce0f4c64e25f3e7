-- Where a name stands.
--
--   IsFirst names name k       the name stands at k and nowhere before, or k is how many names there are and it stands nowhere
--   IsPlace names p text k     k is the position of the name with this text, which is seen in procedure p, or None where the
--                              text isn't known there
use Rattle.std.specs.Prelude.{◌≡◌, ◌≢◌, ℕ, ◌<◌, ◌≤◌, List, length, Option, Some, None, slice_index_or}
use Rattle.report_text.specs.declared.names.Name.{Name}
use Rattle.report_text.specs.Names.{IsSeenAt}
use Rattle.report_lines.specs.Relations.{IsSeenName, place_in}

pub record IsFirst (names : List Name) (name : Name) (k : ℕ) : Type 0 where
  pub within : k ≤ length names
  pub before : (j : ℕ) (d : Name) → j < k → slice_index_or names j d ≢ name
  pub here : (d : Name) → k < length names → slice_index_or names k d ≡ name

abbrev pub IsPlace : List Name → ℕ → List ℕ → Option ℕ → Type 0
IsPlace names p text None = IsSeenName names p text → ⊥
IsPlace names p text (Some k) = (k ≡ place_in names text) × (k < length names) × IsSeenAt names p k
