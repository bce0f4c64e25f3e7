-- The terms so far are read, and their row is known.
use Rattle.std.proofs.Common.{List, ℕ, length}
use Rattle.report_lines.specs.Terms.{Term}
use Rattle.report_lines.specs.Fronts.{IsFront}
use Rattle.report_lines.specs.Sums.{IsSum}
use Rattle.report_lines.proofs.relation.read_behind.Given as goal

abbrev pub decreases-loop-word : goal.decreases-loop-word
decreases-loop-word l = length l.rest

abbrev pub invariant-loop-word : goal.invariant-loop-word
invariant-loop-word l =
    (whole : List ℕ) (terms : List Term) → IsFront whole l.text terms → IsSum l.names l.procedure terms l.initial.sum
    → (all : List Term) × IsFront whole l.rest all × IsSum l.names l.procedure all l.sum
