-- The states at all nodes, as they are made: those of the heads by the block program, and those of merged nodes one after the
-- other, each kept until the last node that follows it has its own.
--
--   states_by reached made number        the rows of the head of that number, or those made for a merged node
--   states_in blocks reached merged v    the rows of node v, by the head's number or by a table of merged nodes
--   merged_part number                   1 for a merged node, and 0 for a head
--   merged_count blocks                  how many nodes are merged
--   IsMerged merging v                   v is merged
--   HasStates program u states           the rows generate the module of the states at node u
--   AreMergedStatesBelow program merging n merged    a list for each node below n, and where the node is merged a basis of its states
--   AreMergedStates program merging merged           so for all nodes
--   AreCounted program merging before after          the counter rose by at least the number of rows of bases of the states at merged nodes
--   Follows program merging u v          u is the parent of the merged node v
--   GoesOn program merging n u           a node from n on follows u
--   AreKept program merging n kept       a list for each node below n, and where that is merged and a node from n on follows it, a
--                                        basis of its states
--   DropsBefore program merging n old new    a table as long, which has the same states of each node that a node behind n follows
--   IsLastFrom v o                       o is a node, v or a later one
--   AreLast program merging n last       the table has, for each node that nodes below n follow, the last one of them or a later one
use Rattle.std.specs.Prelude.{◌≡◌, ℕ, ◌+◌, ◌<◌, ◌≤◌, List, All, Contains, Option, None, Some, IsSome, MatchOption, length, sum_by, slice_index_or}
use Rattle.row_modules.specs.Bases.{IsLeadingBasis}
use Rattle.row_modules.specs.Modules.{SameModule}
use Rattle.affine_prog.specs.declared.Assign.{Assign}
use Rattle.affine_prog.specs.declared.Program.{Program}
use Rattle.affine_prog.specs.Spans.{rows_at, IsStateAt}
use Rattle.block_program.specs.Contractions.{Contraction}
use Rattle.merged_heads.specs.declared.Merging.{Merging}
use Rattle.merged_heads.specs.Merges.{edge_number, IsParent}
use Rattle.block_program.specs.Numbers.{number_of}

abbrev pub states_by : List (List (List ℕ)) → List (List ℕ) → Option ℕ → List (List ℕ)
states_by reached made None = made
states_by reached made (Some i) = rows_at reached i

abbrev pub states_in : Contraction → List (List (List ℕ)) → List (List (List ℕ)) → ℕ → List (List ℕ)
states_in blocks reached merged v = states_by reached (rows_at merged v) (number_of blocks v)

abbrev pub merged_part : Option ℕ → ℕ
merged_part None = 1
merged_part (Some i) = 0

abbrev pub merged_count : Contraction → ℕ
merged_count blocks = sum_by merged_part blocks.numbers

abbrev pub HasStates : Program → ℕ → List (List ℕ) → Type 0
HasStates program u states = SameModule 17 (Contains states) (IsStateAt program u)

abbrev pub IsMerged : Merging → ℕ → Type 0
IsMerged merging v = IsSome (edge_number merging v)

pub record AreMergedStatesBelow (program : Program) (merging : Merging) (n : ℕ) (merged : List (List (List ℕ))) : Type 0 where
  pub long : length merged ≡ n
  pub bases : All (IsLeadingBasis 17) merged
  pub exact : (v : ℕ) → v < n → IsMerged merging v → HasStates program v (rows_at merged v)

abbrev pub AreMergedStates : Program → Merging → List (List (List ℕ)) → Type 0
AreMergedStates program merging merged = AreMergedStatesBelow program merging program.nodes merged

pub record AreCounted (program : Program) (merging : Merging) (before after : ℕ) : Type 0 where
  pub merged : List (List (List ℕ))
  pub states : AreMergedStates program merging merged
  pub rows : before + sum_by length merged ≤ after

pub record Follows (program : Program) (merging : Merging) (u v : ℕ) : Type 0 where
  pub assigns : List Assign
  pub parent : IsParent program merging v u assigns

pub record GoesOn (program : Program) (merging : Merging) (n u : ℕ) : Type 0 where
  pub next : ℕ
  pub later : n ≤ next
  pub node : next < program.nodes
  pub follows : Follows program merging u next

pub record AreKept (program : Program) (merging : Merging) (n : ℕ) (kept : List (List (List ℕ))) : Type 0 where
  pub long : length kept ≡ n
  pub exact : (v : ℕ) → v < n → IsMerged merging v → GoesOn program merging n v → HasStates program v (rows_at kept v)

pub record DropsBefore (program : Program) (merging : Merging) (n : ℕ) (old new : List (List (List ℕ))) : Type 0 where
  pub long : length new ≡ length old
  pub same : (v : ℕ) → GoesOn program merging (n + 1) v → rows_at new v ≡ rows_at old v

abbrev pub IsLastFrom : ℕ → Option ℕ → Type 0
IsLastFrom v o = MatchOption o ⊥ (λ w. v ≤ w)

pub record AreLast (program : Program) (merging : Merging) (n : ℕ) (last : List (Option ℕ)) : Type 0 where
  pub long : length last ≡ program.nodes
  pub from : (u v : ℕ) → v < n → Follows program merging u v → IsLastFrom v (slice_index_or last u None)
