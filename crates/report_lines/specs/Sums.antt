-- The row of the terms so far.
--
--   IsRowSoFar names p terms row next   the row has these terms, whose names are known and rise, and it is 0 from the position
--                                       next on, behind that of the last term's name
--   IsSum names p terms sum             the sum is that row; or a name isn't known; or all are, and they don't rise
use Rattle.std.specs.Prelude.{◌≡◌, ◌≢◌, ℕ, ◌+◌, ◌<◌, ◌≤◌, ◌⊎◌, List, All, Contains, length, slice_index}
use Rattle.word_rows.specs.Rows.{IsRow}
use Rattle.report_text.specs.declared.names.Name.{Name}
use Rattle.report_text.specs.Names.{IsSeenAt}
use Rattle.report_lines.specs.declared.sums.Sum.{Sum}
use Rattle.report_lines.specs.declared.sums.Sum.TheVariants as sums
use Rattle.report_lines.specs.Terms.{Term}
use Rattle.report_lines.specs.Relations.{AreKnown, AreRising, place_in, terms_of}

pub record IsRowSoFar (names : List Name) (p : ℕ) (terms : List Term) (row : List ℕ) (next : ℕ) : Type 0 where
  pub known : AreKnown names p terms
  pub rising : AreRising names terms
  pub is_row : IsRow 17 row
  pub terms_are : terms_of names row ≡ terms
  pub seen : (k : ℕ) → k < 16 → slice_index row k ≢ 0 → IsSeenAt names p k
  pub zero_beyond : (k : ℕ) → next ≤ k → slice_index row k ≡ 0
  pub within : next ≤ length names
  pub below : All (λ term. place_in names term.1 < next) terms
  pub last : (next ≡ 0) ⊎ ((term : Term) × Contains terms term × (place_in names term.1 + 1 ≡ next))

abbrev pub IsSum : List Name → ℕ → List Term → Sum → Type 0
IsSum names p terms (sums.Rising row next) = IsRowSoFar names p terms row next
IsSum names p terms sums.Disordered = AreKnown names p terms × (AreRising names terms → ⊥)
IsSum names p terms sums.Unknown = AreKnown names p terms → ⊥
