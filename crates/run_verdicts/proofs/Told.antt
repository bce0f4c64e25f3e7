-- What the moment at a point tells of its flow, of the slots that it assigns, and of the code.
use Rattle.std.proofs.Common.{◌≡◌, ◌↔◌, ℕ, true, IsTrue, List, map, Contains, Option, refl, sym, ◌∙◌, subst}
use Rattle.std.proofs.lemmas.List.Elements.{All-contains}
use Rattle.elf_image.specs.declared.image.Image.{Image}
use Rattle.row_modules.specs.Positions.{has}
use Rattle.flow_points.specs.declared.code_points.CodePoint.{CodePoint}
use Rattle.flow_points.specs.declared.code_points.Flow.{Flow}
use Rattle.flow_points.specs.declared.code_points.Flow.TheVariants.{Next, Jump, Branch, Call, Return, Halt}
use Rattle.flow_points.proofs.Cited.{from_map}
use Rattle.affine_prog.specs.Assignments.{position_of}
use Rattle.affine_prog.specs.declared.Assign.{Assign}
use Rattle.affine_lift.specs.Effects.{AreOffsetsAt}
use Rattle.affine_lift.specs.Lifting.{IsSlotAt, WritesSlots}
use Rattle.affine_lift.proofs.OneProgram.{one_effect}
use Rattle.run_paths.specs.Lifts.{Lift, IsLiftOf, effect}
use Rattle.run_paths.specs.Discipline.{Assigns}
use Rattle.run_paths.proofs.Lifted.{has_code}
use Rattle.run_watch.specs.Runs.{AreInstructionsOf, instruction_of, is_return}
use Rattle.run_watch.specs.declared.places.CodeAt.{CodeAt}
use Rattle.run_verdicts.proofs.CodeKept.{TellsCode}

-- the flow of a return
pub returns_by : (flow : Flow) → IsTrue (is_return flow) ↔ (flow ≡ Return)
returns_by Return = (λ is. refl, λ is. refl)
returns_by (Next n) = (λ is. let clash : is_return (Next n) ≡ true = is in cc, λ is. cc)
returns_by (Jump t) = (λ is. let clash : is_return (Jump t) ≡ true = is in cc, λ is. cc)
returns_by (Branch n t) = (λ is. let clash : is_return (Branch n t) ≡ true = is in cc, λ is. cc)
returns_by (Call t n) = (λ is. let clash : is_return (Call t n) ≡ true = is in cc, λ is. cc)
returns_by Halt = (λ is. let clash : is_return Halt ≡ true = is in cc, λ is. cc)

-- the slots that the moment calls writable are those that the point assigns
module _ (image : Image) (lift : Lift) (is : IsLiftOf image lift) (c : CodePoint) (there : Contains lift.points.points c) where
  offsets_known : AreOffsetsAt lift.points.points c (lift.offset c)
  offsets_known =
      subst (λ (offset : CodePoint → ℕ → Option ℕ). AreOffsetsAt lift.points.points c (offset c)) is.offset_is
      (is.lifted.offsets_are c there)

  pub writes_assigned : (set : ℕ) → WritesSlots lift.points.points lift.names c set
      → (k : ℕ) → IsTrue (has set k) ↔ (IsSlotAt lift.names k × Assigns lift c k)
  writes_assigned set writes k =
      let same : writes.assigns ≡ effect lift c =
      writes.effect.assigns_are
      ∙ one_effect lift.points lift.names c writes.effect.offset (lift.offset c)
      (has_code image lift is) there writes.effect.offsets_are offsets_known in
      subst (λ (assigns : List Assign). IsTrue (has set k) ↔
      (IsSlotAt lift.names k × Contains (map position_of assigns) k)) same (writes.slots k)

-- the code of a scene
pub tells_code : (lift : Lift) (code : List CodeAt) → AreInstructionsOf lift.points.points code → TellsCode lift code
tells_code lift code are = record {
  all = λ c there. All-contains (λ (d : CodePoint). Contains code (instruction_of d)) lift.points.points c are.all there;
  only = λ at there.
      let from = from_map instruction_of lift.points.points at
      (All-contains (Contains (map instruction_of lift.points.points)) code at are.only there) in
      (from.0, from.1, sym from.2);
}
