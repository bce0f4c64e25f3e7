-- The heads below a number, and the numbers of the heads.
--
--   number_of blocks v                       the number of the node v in the small program, where it is a head
--   edge_number_of blocks v                  the number of the edge from v's parent, where it is merged
--   AreHeadsBelow program merging n heads    heads is the list of the heads below n, ascending
--   IsNumber heads v i                       v is head number i
--   AreNumbersBelow merging n heads numbers  the table has each head's number in the list, and nothing for a merged node
--   IsNumbered program by                    the table is right, and its heads are listed and numbered
--   HasSimpleHeads program heads count       so many heads there are by the simple notion, and no fewer than these
--   AreBlocks program blocks                 the small program by the table of merged nodes, the heads' numbers, and how many heads
--                                            there are by the simple notion
use Rattle.std.specs.Prelude.{◌≡◌, ℕ, ◌^◌, ◌<◌, ◌≤◌, ◌↔◌, List, length, slice_index, slice_index_or, Contains, Option, None, IsSome, MatchOption}
use Rattle.std.specs.List.Sorted.{IsStrictlyIncreasing}
use Rattle.affine_prog.specs.declared.Program.{Program}
use Rattle.merged_heads.specs.declared.Merging.{Merging}
use Rattle.merged_heads.specs.Merges.{edge_number, IsMergedTable}
use Rattle.merged_heads.specs.Chains.{IsHead}
use Rattle.merged_heads.specs.BlockPrograms.{NumbersHeads, IsBlockProgram}
use Rattle.block_program.specs.Contractions.{Contraction}
use Rattle.block_program.specs.InnerNodes as simple_notion
use Rattle.block_program.specs.declared.Numbered.{Numbered}

abbrev pub number_of : Contraction → ℕ → Option ℕ
number_of blocks v = slice_index_or blocks.numbers v None

abbrev pub edge_number_of : Contraction → ℕ → Option ℕ
edge_number_of blocks v = edge_number blocks.merging v

pub record AreHeadsBelow (program : Program) (merging : Merging) (n : ℕ) (heads : List ℕ) : Type 0 where
  pub order : IsStrictlyIncreasing heads
  pub all : (u : ℕ) → Contains heads u ↔ ((u < n) × IsHead program merging u)

pub record IsNumber (heads : List ℕ) (v i : ℕ) : Type 0 where
  pub within : i < length heads
  pub is : slice_index heads i ≡ v

pub record AreNumbersBelow (merging : Merging) (n : ℕ) (heads : List ℕ) (numbers : List (Option ℕ)) : Type 0 where
  pub long : length numbers ≡ n
  pub at : (v : ℕ) → v < n → MatchOption (slice_index_or numbers v None) (IsSome (edge_number merging v)) (IsNumber heads v)

pub record IsNumbered (program : Program) (by : Numbered) : Type 0 where
  pub merged : IsMergedTable program by.merging
  pub heads : NumbersHeads program by.merging by.heads
  pub numbers : AreNumbersBelow by.merging program.nodes by.heads by.numbers
  pub count : length by.heads < 2 ^ 32

pub record HasSimpleHeads (program : Program) (heads count : ℕ) : Type 0 where
  pub simple : List ℕ
  pub are : simple_notion.NumbersHeads program simple
  pub counted : count ≡ length simple
  pub few : heads ≤ length simple

pub record AreBlocks (program : Program) (blocks : Contraction) : Type 0 where
  pub heads : List ℕ
  pub small : IsBlockProgram program blocks.merging heads blocks.small
  pub numbers : AreNumbersBelow blocks.merging program.nodes heads blocks.numbers
  pub simple : HasSimpleHeads program (length heads) blocks.simple_heads
