use Rattle.std.proofs.Common.{take}
use Rattle.std.specs.List.{AllZip}
use Rattle.merged_heads.specs.BlockPrograms.{IsBlockProc}
use Rattle.block_program.proofs.contraction.block_procs.Given as goal

abbrev pub invariant-loop-proc : goal.invariant-loop-proc
invariant-loop-proc l = AllZip (IsBlockProc l.heads) (take l.proc-index l.program.procs) l.procs
