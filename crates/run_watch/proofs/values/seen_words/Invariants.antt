use Rattle.rv_step.specs.Machines.{hart_of}
use Rattle.run_watch.specs.Activations.{AreValuesTo}
use Rattle.run_watch.proofs.values.seen_words.Given as goal

abbrev pub invariant-loop-k : goal.invariant-loop-k
invariant-loop-k l = AreValuesTo l.k l.names l.last (hart_of l.machine) l.words
