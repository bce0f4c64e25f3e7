use Rattle.std.proofs.Common.{◌≡◌, take, map}
use Rattle.affine_prog.specs.Programs.{owner_of}
use Rattle.block_program.proofs.contraction.block_owners.Given as goal

abbrev pub invariant-loop-head : goal.invariant-loop-head
invariant-loop-head l = l.owners ≡ map (owner_of l.program) (take l.head-index l.heads)
