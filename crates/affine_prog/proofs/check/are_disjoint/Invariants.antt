use Rattle.std.proofs.Common.{◌∷◌, take, map}
use Rattle.affine_prog.proofs.Lists.{IsUnion}
use Rattle.affine_prog.proofs.check.are_disjoint.Given as goal

abbrev pub invariant-loop-proc : goal.invariant-loop-proc
invariant-loop-proc l = IsUnion (l.program.registers ∷ take l.proc-index (map (λ proc. proc.slots) l.program.procs)) l.taken
