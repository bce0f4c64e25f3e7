use Rattle.std.proofs.Common.{◌≡◌, ℕ}
use Rattle.rv_step.specs.Loads.{copied}
use Rattle.rv_step.specs.Pages.{byte_of}
use Rattle.rv_step.proofs.load.load.Given as goal

abbrev pub invariant-loop-k : goal.invariant-loop-k
invariant-loop-k l = (a : ℕ) → byte_of l.memory a ≡ copied l.k l.file l.segment (byte_of l.fn.memory) a
