use Rattle.std.proofs.Common.{◌≡◌, ◌≤◌, ◌+◌, drop}
use Rattle.affine_prog.specs.Assignments.{unknown_count}
use Rattle.proof_verify.proofs.matrices.unknown_count.Given as goal

abbrev pub invariant-loop-assign : goal.invariant-loop-assign
invariant-loop-assign l = (l.count ≤ l.assign-index) × (l.count + unknown_count (drop l.assign-index l.assigns) ≡ unknown_count l.assigns)
