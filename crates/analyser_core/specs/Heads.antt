-- How many heads a program may have, by the simple notion: bases of maps are kept at no more nodes.
--
--   most_heads                  no program may have more heads
--   HasFewHeads program         it has no more than those
--   HasManyHeads program        it has more
use Rattle.std.specs.Prelude.{ℕ, ◌<◌, ◌≤◌, List, length}
use Rattle.affine_prog.specs.declared.Program.{Program}
use Rattle.block_program.specs.InnerNodes.{NumbersHeads}

abbrev pub most_heads : ℕ
most_heads = 4096

pub record HasFewHeads (program : Program) : Type 0 where
  pub heads : List ℕ
  pub numbers : NumbersHeads program heads
  pub few : length heads ≤ most_heads

pub record HasManyHeads (program : Program) : Type 0 where
  pub heads : List ℕ
  pub numbers : NumbersHeads program heads
  pub many : most_heads < length heads
