use Rattle.affine_lift.proofs.names.read_tracked.Goals as goal

pub invariant_of-result-clause-distinct : goal.invariant_of-result-clause-distinct
invariant_of-result-clause-distinct c = ∣ c.in-Ok.ensures.names.names_are.apart ∣₁
