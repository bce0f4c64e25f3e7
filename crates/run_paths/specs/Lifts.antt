-- Code with tracked names, and the program that stands for it: what is fixed while runs are told.
--
--   Lift                     the points of an image with their code; tracked names; the offset of each register at each
--                            point; and the program
--   AreDistinct names        no name stands at two places
--   IsLiftOf image lift      they are those of this image, whose code isn't refused
--   effect lift c            what the instruction at the point c assigns
--   node lift p              the node of the point p
--   number lift a            the number of the procedure with the entry a
--   registers lift           the positions at which registers stand
--   slots lift a             the positions at which slots of the procedure with the entry a stand
use Rattle.std.specs.Prelude.{◌≡◌, ℕ, ◌≤◌, List, length, All, Option, Some, slice_get}
use Rattle.elf_image.specs.declared.image.Image.{Image}
use Rattle.flow_points.specs.PointLists.{FlowPoints, ArePointsOf}
use Rattle.flow_points.specs.Refusals.{IsFlowRefusal}
use Rattle.flow_points.specs.declared.code_points.CodePoint.{CodePoint}
use Rattle.flow_points.specs.declared.code_points.Point.{Point}
use Rattle.refusals.specs.declared.flow.FlowRefusal.{FlowRefusal}
use Rattle.report_text.specs.Names.{IsName}
use Rattle.report_text.specs.declared.names.Name.{Name}
use Rattle.affine_prog.specs.Programs.{slots_of}
use Rattle.affine_prog.specs.declared.Program.{Program}
use Rattle.affine_prog.specs.declared.Assign.{Assign}
use Rattle.affine_lift.specs.Effects.{effect_of}
use Rattle.affine_lift.specs.Lifting.{IsLifted, node_of, number_of}

pub record Lift : Type 0 where
  pub points : FlowPoints
  pub names : List Name
  pub offset : CodePoint → ℕ → Option ℕ
  pub program : Program

abbrev pub AreDistinct : List Name → Type 0
AreDistinct names = (i j : ℕ) (name : Name) → slice_get names i ≡ Some name → slice_get names j ≡ Some name → i ≡ j

pub record IsLiftOf (image : Image) (lift : Lift) : Type 0 where
  pub accepted : (refusal : FlowRefusal) → IsFlowRefusal image refusal → ⊥
  pub points_are : ArePointsOf image lift.points
  pub few : length lift.names ≤ 16
  pub allowed : All IsName lift.names
  pub distinct : AreDistinct lift.names
  pub lifted : IsLifted lift.points lift.names lift.program
  pub offset_is : lifted.offset ≡ lift.offset

abbrev pub effect : Lift → CodePoint → List Assign
effect lift c = effect_of lift.names c (lift.offset c)

abbrev pub node : Lift → Point → ℕ
node lift p = node_of lift.points p

abbrev pub number : Lift → ℕ → ℕ
number lift a = number_of lift.points a

abbrev pub registers : Lift → ℕ
registers lift = lift.program.registers

abbrev pub slots : Lift → ℕ → ℕ
slots lift a = slots_of lift.program (number lift a)
