-- The points of a report, as they are made. No public contract cites these words.
--
--   told_positions program u       the set of the positions that are visible at node u, and of the constant's
--   RelatesBy set states rows      the module of the states isn't zero, and the rows are the reduced basis of its relations on
--                                  these positions
--   Relates set states state       the state tells the relations on these positions of the module of the states
--   RelatesAt program u state      the state tells the relations of the states at node u, on what is visible there
--   AreRelated program told        so does each of the first points at its node
--   PassesOn program merging u v   u is the parent of the merged node v, and a smaller node, and its edge assigns nothing
--   IsTold program points names u point
--                                  the point is point u, tells what holds there, and its rows are those of a report
--   AreTold program points names told
--                                  so are the first points, as many as there are
use Rattle.std.specs.Prelude.{◌≡◌, ℕ, ◌<◌, List, [], Some, Contains, slice_get}
use Rattle.row_modules.specs.Positions.{with_constant}
use Rattle.row_modules.specs.Modules.{IsCombination, Generates}
use Rattle.row_modules.specs.Bases.{IsLeadingBasis, IsReduced}
use Rattle.row_modules.specs.Forms.{Annihilates}
use Rattle.relation_solver.specs.Zero.{HasZeroAlone}
use Rattle.flow_points.specs.PointLists.{FlowPoints}
use Rattle.flow_points.specs.declared.code_points.CodePoint.{CodePoint}
use Rattle.affine_prog.specs.Programs.{owner_of, visible_in}
use Rattle.affine_prog.specs.declared.Program.{Program}
use Rattle.merged_heads.specs.declared.Merging.{Merging}
use Rattle.merged_heads.specs.Merges.{IsParent}
use Rattle.report_text.specs.Reports.{AreRowsAt}
use Rattle.report_text.specs.declared.names.Name.{Name}
use Rattle.report_text.specs.declared.points.PointRows.{PointRows}
use Rattle.report_text.specs.declared.points.PointState.{PointState}
use Rattle.report_text.specs.declared.points.PointState.TheVariants.{Unreached, Rows}
use Rattle.analyser_core.specs.States.{HasStates}
use Rattle.analyser_core.specs.Reports.{Tells}

abbrev pub told_positions : Program → ℕ → ℕ
told_positions program u = with_constant (visible_in program (owner_of program u))

pub record RelatesBy (set : ℕ) (states rows : List (List ℕ)) : Type 0 where
  pub some : HasZeroAlone 17 (Contains states) → ⊥
  pub basis : IsLeadingBasis 17 rows
  pub reduced : IsReduced rows
  pub generating : Generates 17 rows (Annihilates set (IsCombination 17 (Contains states)))

abbrev pub Relates : ℕ → List (List ℕ) → PointState → Type 0
Relates set states Unreached = HasZeroAlone 17 (Contains states)
Relates set states (Rows rows) = RelatesBy set states rows

abbrev pub RelatesAt : Program → ℕ → PointState → Type 0
RelatesAt program u state = (states : List (List ℕ)) → HasStates program u states → Relates (told_positions program u) states state

abbrev pub AreRelated : Program → List PointRows → Type 0
AreRelated program told = (u : ℕ) (point : PointRows) → slice_get told u ≡ Some point → RelatesAt program u point.state

pub record PassesOn (program : Program) (merging : Merging) (u v : ℕ) : Type 0 where
  pub below : u < v
  pub parent : IsParent program merging v u []

pub record IsTold (program : Program) (points : FlowPoints) (names : List Name) (u : ℕ) (point : PointRows) : Type 0 where
  pub code : CodePoint
  pub at : slice_get points.points u ≡ Some code
  pub tells : Tells program code u point
  pub rows : AreRowsAt names point

abbrev pub AreTold : Program → FlowPoints → List Name → List PointRows → Type 0
AreTold program points names told = (u : ℕ) (point : PointRows) → slice_get told u ≡ Some point → IsTold program points names u point
