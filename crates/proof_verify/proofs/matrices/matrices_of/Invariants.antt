use Rattle.proof_verify.specs.Tests.{AreMatricesBelow}
use Rattle.proof_verify.proofs.matrices.matrices_of.Given as goal

abbrev pub invariant-loop-one : goal.invariant-loop-one
invariant-loop-one l = AreMatricesBelow l.assigns l.one l.matrices
