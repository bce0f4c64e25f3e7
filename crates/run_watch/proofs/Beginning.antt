-- The run of an image begins.
use Rattle.std.proofs.Common.{◌≡◌, ℕ, List, [], Option, slice_set, sym, subst, ◌∙◌, ap}
use Rattle.elf_image.specs.Images.{loaded}
use Rattle.elf_image.specs.declared.image.Image.{Image}
use Rattle.flow_points.specs.PointLists.{FlowPoints}
use Rattle.report_text.specs.declared.reports.Report.{Report}
use Rattle.rv_step.specs.Machines.{hart_of, made_of}
use Rattle.rv_step.specs.Runs.{Starts}
use Rattle.rv_step.specs.declared.machine.Machine.{Machine}
use Rattle.run_watch.specs.declared.context.Found.{Found}
use Rattle.run_watch.specs.declared.places.CodeAt.{CodeAt}
use Rattle.run_watch.specs.declared.stops.RunStop.{RunStop}
use Rattle.run_watch.specs.Activations.{Stack, begun}
use Rattle.run_watch.specs.Runs.{Sight, scene_of, AreInstructionsOf, IsWatched, IsRunOf, HasSeen, IsVerdict}

pub run_of : (image : Image) (points : FlowPoints) (offsets : List (Option ℕ)) (report : Report) (regs : List ℕ) (limit : ℕ)
    (code : List CodeAt) (machine : Machine) (stack : Stack) (entry : ℕ) (here : List ℕ) (seen : List Sight) (steps made : ℕ) (stop : RunStop)
    → AreInstructionsOf points.points code → Starts image (hart_of machine) → (hart_of machine).registers ≡ slice_set regs 0 0
    → ((a : ℕ) → (hart_of machine).memory a ≡ loaded image a) → made_of machine ≡ 0
    → entry ≡ points.entry → points.entry ≡ image.entry → here ≡ (hart_of machine).registers
    → stack.earlier ≡ [] → stack.last ≡ begun entry here → steps ≡ made
    → IsWatched (scene_of points offsets report code) limit (record { machine = machine; stack = stack }) seen made stop
    → IsRunOf image points offsets report regs limit seen steps stop
run_of image points offsets report regs limit code machine stack entry here seen steps made stop instructions starts registers memory
    unmade entry_is image_is here_is first last counted watched = record {
      code = code;
      instructions = instructions;
      start = record { machine = machine; stack = stack };
      begins = record {
        starts = starts;
        registers = registers;
        memory = memory;
        unmade = unmade;
        first = first;
        last = last ∙ ap (λ e. begun e here) (entry_is ∙ image_is) ∙ ap (λ regs. begun image.entry regs) here_is;
      };
      watched = subst (λ n. IsWatched (scene_of points offsets report code) limit (record { machine = machine; stack = stack }) seen n stop)
          (sym counted) watched;
    }

-- what a watch says that has seen a run
pub verdict_by : (seen : List Sight) (k l : ℕ) (a b found : Option Found) → HasSeen seen k a l b → found ≡ b → IsVerdict k a seen found
verdict_by seen k l a b found has is = λ least most. is ∙ has.judged least most
