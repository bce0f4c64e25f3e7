-- How much work an analysis may be, in placements of rows.
--
--   work_bound names heads nodes        64 for each head and each word of a matrix, and for each node and each word of a state, over
--                                       these many names and the constant
--   nodes_of points                     the nodes of a program that is lifted from the points: the points, and one exit for each
--                                       procedure
--   IsWithinWork bytes list before after
--                                       the counter stayed, or the file and the list are accepted and it rose by no more than
--                                       the bound, for the heads and the nodes of its program
--   CountsStates bytes list before after
--                                       the counter rose by at least the number of rows of bases of the states at all nodes
use Rattle.std.specs.Prelude.{◌≡◌, ℕ, ◌+◌, ◌*◌, ◌≤◌, List, All, length, sum_by}
use Rattle.row_modules.specs.Bases.{IsLeadingBasis}
use Rattle.flow_points.specs.PointLists.{FlowPoints}
use Rattle.affine_prog.specs.declared.Program.{Program}
use Rattle.affine_prog.specs.Spans.{AreReached}
use Rattle.block_program.specs.InnerNodes.{NumbersHeads}
use Rattle.report_text.specs.declared.names.Name.{Name}
use Rattle.analyser_core.specs.Reports.{IsLiftedFrom}

abbrev pub work_bound : ℕ → ℕ → ℕ → ℕ
work_bound names heads nodes = 64 * heads * ((names + 1) * (names + 1)) + 64 * nodes * (names + 1)

abbrev pub nodes_of : FlowPoints → ℕ
nodes_of points = length points.points + length points.procedures

pub data IsWithinWork (bytes list : List ℕ) (before after : ℕ) : Type 0 where
  none : after ≡ before → IsWithinWork bytes list before after
  some : (points : FlowPoints) (names : List Name) (program : Program) (heads : List ℕ) → IsLiftedFrom bytes list points names program
      → NumbersHeads program heads → before ≤ after → after ≤ before + work_bound (length names) (length heads) (nodes_of points)
      → IsWithinWork bytes list before after

pub record CountsStates (bytes list : List ℕ) (before after : ℕ) : Type 0 where
  pub points : FlowPoints
  pub names : List Name
  pub program : Program
  pub lifted : IsLiftedFrom bytes list points names program
  pub rows : (lists : List (List (List ℕ))) → AreReached program lists → All (IsLeadingBasis 17) lists
      → before + sum_by length lists ≤ after
