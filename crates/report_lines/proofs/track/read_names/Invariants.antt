-- The names so far are those of the first texts.
use Rattle.std.proofs.Common.{◌≡◌, ℕ, List, ◌++◌, length}
use Rattle.report_lines.specs.Parts.{parts_of}
use Rattle.report_lines.specs.Tracks.{AreReadNames}
use Rattle.report_lines.proofs.track.read_names.Given as goal

abbrev pub decreases-loop-text : goal.decreases-loop-text
decreases-loop-text l = length l.rest

abbrev pub invariant-loop-text : goal.invariant-loop-text
invariant-loop-text l =
    (front : List (List ℕ)) × (parts_of 44 l.list ≡ front ++ parts_of 44 l.rest) × AreReadNames front l.names
