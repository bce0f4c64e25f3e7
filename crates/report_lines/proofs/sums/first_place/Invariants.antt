-- The name doesn't stand before the place.
use Rattle.std.proofs.Common.{◌≢◌, ℕ, ◌-◌, ◌<◌, ◌≤◌, length, get_or}
use Rattle.report_text.specs.declared.names.Name.{Name}
use Rattle.report_lines.proofs.sums.first_place.Given as goal

abbrev pub decreases-loop-at : goal.decreases-loop-at
decreases-loop-at l = length l.names - l.at

abbrev pub invariant-loop-at : goal.invariant-loop-at
invariant-loop-at l = record {
  within : l.at ≤ length l.names;
  before : (j : ℕ) (d : Name) → j < l.at → get_or l.names j d ≢ l.name;
}
