-- The derivations so far are kept where they are marked.
use Rattle.needed_derivs.specs.Renumbered.{AreRenumbered}
use Rattle.needed_derivs.proofs.renumber.keep_marked.Given as goal

abbrev pub invariant-loop-k : goal.invariant-loop-k
invariant-loop-k l = AreRenumbered l.derivs l.marks l.own l.numbers l.k
