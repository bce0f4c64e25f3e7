-- The block program of a program, and what stands for each of the program's nodes.
--
--   Contraction    small is the block program; numbers has, for each node that is a head, its number in the small program;
--                  merging tells the merged nodes; simple_heads is how many heads there are by the simple notion
use Rattle.std.specs.Prelude.{ℕ, List, Option}
use Rattle.affine_prog.specs.declared.Program.{Program}
use Rattle.merged_heads.specs.declared.Merging.{Merging}

pub record Contraction : Type 0 where
  pub small : Program
  pub numbers : List (Option ℕ)
  pub merging : Merging
  pub simple_heads : ℕ
