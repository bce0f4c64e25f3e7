-- What watches find at a step that they see.
use Rattle.std.proofs.Common.{◌≡◌, ◌↔◌, ℕ, ◌+◌, Bool, IsTrue, List, length, Contains, slice_get, Some, ap, sym, ◌∙◌, subst}
use Rattle.elf_image.specs.declared.image.Image.{Image}
use Rattle.flow_points.specs.PointLists.{FlowPoints}
use Rattle.flow_points.specs.declared.code_points.CodePoint.{CodePoint}
use Rattle.flow_points.specs.declared.code_points.Flow.TheVariants.{Return}
use Rattle.flow_points.proofs.Cited.{item_there}
use Rattle.report_text.specs.declared.names.Name.{Name}
use Rattle.affine_lift.specs.Lifting.{WritesSlots}
use Rattle.rv_step.specs.Machines.{hart_of}
use Rattle.rv_step.specs.declared.machine.Machine.{Machine}
use Rattle.run_paths.specs.Lifts.{Lift}
use Rattle.run_paths.specs.Activations.{Activation}
use Rattle.run_watch.specs.Activations.{slots_from, slots_of}
use Rattle.run_watch.specs.Runs.{Scene, Sight, Spot}
use Rattle.run_verdicts.specs.Changes.{Changes}
use Rattle.run_verdicts.specs.Findings.{FindingsTell, IsStepSeen}
use Rattle.run_verdicts.proofs.Changing.{record_tells}
use Rattle.run_verdicts.proofs.CodeKept.{TellsCode, leaves_code, no_code_found}
use Rattle.run_verdicts.proofs.Keeping.{leaves}
use Rattle.run_verdicts.proofs.Kept.{nothing_found}
use Rattle.run_verdicts.proofs.SlotsTold.{TellsSlots}
use Rattle.run_verdicts.proofs.Returns.{no_return_found}
use Rattle.run_verdicts.proofs.ReturnsTold.{TellsReturn}
use Rattle.run_verdicts.proofs.GoesHome.{restores_frame, returns_to_caller}
use Rattle.run_verdicts.proofs.Told.{returns_by, tells_code, writes_assigned}

module _ (image : Image) (lift : Lift) (scene : Scene) (limit : ℕ) (a : Spot) (i : ℕ) (c : CodePoint) (s : Sight)
    (machine : Machine)
    (last : Activation) (earlier : List Activation) (h : IsStepSeen image lift scene limit a i c s machine last earlier) where
  at_points : slice_get lift.points.points i ≡ Some c
  at_points = subst (λ (points : FlowPoints). slice_get points.points i ≡ Some c) h.scene_is.points h.makes.can.at.code

  there : Contains lift.points.points c
  there = item_there lift.points.points i c at_points

  writes : WritesSlots lift.points.points lift.names c s.moment.writable
  writes =
      subst (λ (names : List Name). WritesSlots lift.points.points names c s.moment.writable) h.scene_is.names
      (subst (λ (points : FlowPoints). WritesSlots points.points scene.names c s.moment.writable) h.scene_is.points
      h.makes.moment.writable)

  tells_slots : TellsSlots lift c last earlier s.moment
  tells_slots = record {
    below = a.stack.earlier;
    top = a.stack.last;
    last_seen = h.last_seen;
    earlier_seen = h.earlier_seen;
    depth = h.makes.moment.depth;
    earlier_slots = h.makes.moment.earlier_slots
        ∙ ap (λ (names : List Name). slots_from names 1 a.stack.earlier) h.scene_is.names;
    last_slots = h.makes.moment.last_slots
        ∙ ap (λ (names : List Name). slots_of names (length a.stack.earlier + 1) a.stack.last) h.scene_is.names;
    writable = writes_assigned image lift h.scene_is.lifts c there s.moment.writable writes;
    few = h.scene_is.lifts.few;
  }

  tells_return : TellsReturn lift (hart_of a.machine) (hart_of machine) c last s.moment s.told
  tells_return = record {
    top = a.stack.last;
    seen = h.last_seen;
    made = h.makes.told.made;
    regs = h.makes.told.regs;
    next = h.makes.told.next;
    entry_sp = h.makes.moment.entry_sp;
    entry_saved = h.makes.moment.entry_saved;
    relied = h.makes.moment.relied;
    return_to = h.makes.moment.return_to;
    returns = subst (λ (b : Bool). IsTrue b ↔ (c.flow ≡ Return)) (sym h.makes.moment.returns) (returns_by c.flow);
  }

  code : TellsCode lift s.moment.code
  code = subst (TellsCode lift) (sym h.makes.moment.code) (tells_code lift scene.code h.scene_is.code)

  changes : Changes (hart_of a.machine) (hart_of machine) s.told
  changes = record_tells a.machine machine s.told h.hart h.makes.step h.makes.goes_on h.makes.told

  pub findings_tell : FindingsTell lift (hart_of a.machine) (hart_of machine) c last earlier s
  findings_tell =
      let m = hart_of a.machine in
      let n = hart_of machine in
      record {
        stores = (
          leaves lift c m n s.told changes last earlier s.moment tells_slots,
          nothing_found lift c m n s.told changes last earlier s.moment tells_slots,
        );
        returns = (
          λ none. (
            returns_to_caller lift m n c last s.moment s.told tells_return none,
            restores_frame lift m n c last s.moment s.told tells_return none,
          ),
          λ (home, restores). no_return_found lift m n c last s.moment s.told tells_return home restores,
        );
        code = (
          leaves_code image lift h.scene_is.lifts m n s.told changes s.moment code,
          no_code_found image lift h.scene_is.lifts m n s.told changes s.moment code,
        );
      }
