-- What watches see from a beginning on is a run of the machine, with its activations.
use Rattle.std.proofs.Common.{ℕ, List, length, sym, subst}
use Rattle.elf_image.specs.declared.image.Image.{Image}
use Rattle.rv_step.specs.Harts.{Hart}
use Rattle.rv_step.specs.Machines.{hart_of}
use Rattle.run_paths.specs.Lifts.{Lift}
use Rattle.run_watch.specs.Runs.{Begins, Reaches, Scene, Sight, Spot, here, onward}
use Rattle.run_verdicts.specs.Runs.{IsSeenRun}
use Rattle.run_verdicts.specs.Seen.{IsSceneOf}
use Rattle.run_verdicts.proofs.Beginning.{first_seen}
use Rattle.run_verdicts.proofs.RunsOn.{run_on}
use Rattle.run_verdicts.proofs.Stepped.{next_seen}

module _ (image : Image) (lift : Lift) (scene : Scene) (limit : ℕ) (is : IsSceneOf image lift scene) where
  pub reached : (regs : List ℕ) (start last : Spot) (seen : List Sight) → Begins image regs start
      → Reaches scene limit start seen last
      → (run : ℕ → Hart) × IsSeenRun image lift scene limit seen last run
  reached regs start last seen begins (here all spot none same) =
      let run : ℕ → Hart = λ j. hart_of start.machine in (
        run,
        subst (λ (b : Spot). IsSeenRun image lift scene limit seen b run) (sym same)
            (subst (λ (ss : List Sight). IsSeenRun image lift scene limit ss start run) (sym none)
            (first_seen image lift scene limit is regs start begins)),
      )
  reached regs start last seen begins (onward all before b spot s way g is_seen) =
      let former = reached regs start b before begins way in (
        run_on former.0 (length before) (hart_of last.machine),
        subst (λ (ss : List Sight). IsSeenRun image lift scene limit ss last
            (run_on former.0 (length before) (hart_of last.machine))) (sym is_seen)
            (next_seen image lift scene limit is before b s former.0 former.1 g.i g.c last.machine g.makes last.stack g.turned.turns),
      )
