-- The text is such a list exactly where the rest is, behind the texts so far.
use Rattle.std.proofs.Common.{◌↔◌, ◌≤◌, length}
use Rattle.report_lines.specs.Parts.{parts_of}
use Rattle.report_lines.specs.Tracks.{AreListed}
use Rattle.report_lines.proofs.Listed.{IsListedFrom}
use Rattle.report_lines.proofs.track.are_listed.Given as goal

abbrev pub decreases-loop-text : goal.decreases-loop-text
decreases-loop-text l = length l.rest

abbrev pub invariant-loop-text : goal.invariant-loop-text
invariant-loop-text l = record {
  few : l.count ≤ 16;
  same : AreListed (parts_of 44 l.list) ↔ IsListedFrom l.count (parts_of 44 l.rest);
}
