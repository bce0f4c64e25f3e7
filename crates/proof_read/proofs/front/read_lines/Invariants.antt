-- What is told of the lines to come is told of all.
use Rattle.std.proofs.Common.{◌+◌, ◌≤◌, length}
use Rattle.proof_read.specs.Fronts.{IsFrontJudged, Outcome, begun}
use Rattle.proof_read.proofs.front.read_lines.Given as goal

abbrev pub decreases-loop-piece : goal.decreases-loop-piece
decreases-loop-piece l = length l.rest

abbrev pub invariant-loop-piece : goal.invariant-loop-piece
invariant-loop-piece l = record {
  few : l.number + length l.rest ≤ 3 + length l.text;
  so : (r : Outcome) → IsFrontJudged r l.number l.front l.rest → IsFrontJudged r 3 begun l.text;
}
