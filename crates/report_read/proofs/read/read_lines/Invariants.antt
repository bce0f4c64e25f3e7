-- What is told of the lines to come is told of all, and the draft keeps what a report does.
use Rattle.std.proofs.Common.{◌≡◌, ◌+◌, ◌≤◌, length}
use Rattle.report_lines.specs.Parts.{parts_of}
use Rattle.report_read.specs.Judging.{IsJudged}
use Rattle.report_read.specs.Telling.{Outcome, begun}
use Rattle.report_read.proofs.Kept.{IsKept}
use Rattle.report_read.proofs.read.read_lines.Given as goal

abbrev pub decreases-loop-piece : goal.decreases-loop-piece
decreases-loop-piece l = length l.rest

abbrev pub invariant-loop-piece : goal.invariant-loop-piece
invariant-loop-piece l = record {
  few : l.number + length l.rest ≤ 3 + length l.text;
  version_is : l.draft.version ≡ l.fn.version;
  tracked_is : l.draft.tracked ≡ l.fn.tracked;
  kept : IsKept l.draft;
  so : (r : Outcome) → IsJudged (parts_of 10 l.rest) l.number l.draft r
      → IsJudged (parts_of 10 l.text) 3 (begun l.fn.version l.fn.tracked) r;
}
