-- None of the names so far comes twice among them.
use Rattle.std.proofs.Common.{◌≢◌, ℕ, ◌<◌, get_or}
use Rattle.report_text.specs.declared.names.Name.{Name}
use Rattle.report_lines.proofs.track.are_distinct.Given as goal

abbrev pub invariant-loop-i : goal.invariant-loop-i
invariant-loop-i l = (j k : ℕ) (d : Name) → j < k → k < l.i → get_or l.names j d ≢ get_or l.names k d
