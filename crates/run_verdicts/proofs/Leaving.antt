-- A return at which a run is left is found.
use Rattle.std.proofs.Common.{◌≡◌, ◌≢◌, ℕ, List, [], ◌∷◌, length, Option, None, Some, option_map, inl, inr, refl, ap, sym, ◌∙◌, arith, subst}
use Rattle.elf_image.specs.declared.image.Image.{Image}
use Rattle.flow_points.specs.declared.code_points.CodePoint.{CodePoint}
use Rattle.rv_step.specs.Harts.{Hart, IsHart}
use Rattle.rv_step.specs.Machines.{hart_of}
use Rattle.rv_step.specs.declared.machine.Machine.{Machine}
use Rattle.run_paths.specs.Lifts.{Lift}
use Rattle.run_paths.specs.Activations.{Activation, Site}
use Rattle.run_watch.specs.Activations.{Leaves}
use Rattle.run_watch.specs.Judges.{return_detail}
use Rattle.run_watch.specs.Runs.{Begins, MakesStep, Reaches, Scene, Sight, Spot}
use Rattle.run_verdicts.specs.Findings.{FindingsTell}
use Rattle.run_verdicts.specs.Runs.{IsSeenRun}
use Rattle.run_verdicts.specs.Seen.{AreSeen, IsSceneOf}
use Rattle.run_verdicts.proofs.Grounded.{first_uncalled}
use Rattle.run_verdicts.proofs.Quiet.{hart_at}
use Rattle.run_verdicts.proofs.Reached.{reached}
use Rattle.run_verdicts.proofs.Stacked.{never_empty}
use Rattle.run_verdicts.proofs.Telling.{findings_tell}

none_earlier : (lift : Lift) (earlier : List Activation) → AreSeen lift earlier [] → earlier ≡ []
none_earlier lift [] seen = refl
none_earlier lift (e ∷ earlier) (before, w, is, seen_e, more) = absurd (never_empty before w (sym is))

module _ (image : Image) (lift : Lift) (scene : Scene) (limit : ℕ) (is : IsSceneOf image lift scene) (seen : List Sight)
    (last : Spot) (run : ℕ → Hart) (h : IsSeenRun image lift scene limit seen last run) (i : ℕ) (c : CodePoint) (s : Sight) (machine : Machine)
    (makes : MakesStep scene limit last i c s machine) (leaves : Leaves c.flow s.told.next last.stack) where
  tell : FindingsTell lift (hart_of last.machine) (hart_of machine) c h.stack.last h.stack.earlier s
  tell = findings_tell image lift scene limit last i c s machine h.stack.last h.stack.earlier (record {
    scene_is = is;
    hart = subst IsHart h.ends (hart_at image run (length seen) h.steps.runs (length seen) (omega arith));
    makes = makes;
    last_seen = h.stack.last_seen;
    earlier_seen = h.stack.earlier_seen;
  })

  goes_behind : (call : Option Site) → h.stack.last.call ≡ call → return_detail s.moment s.told ≡ None
      → last.stack.last.return_to ≡ Some s.told.next
  goes_behind None first none = absurd ((tell.returns.0 none).0.not_first leaves.is_return first)
  goes_behind (Some site) called none =
      h.stack.last_seen.return_to ∙ ap (option_map (λ (t : Site). t.next)) called
      ∙ ap Some (sym ((tell.returns.0 none).0.home leaves.is_return site called) ∙ sym makes.told.next)

  pub found : return_detail s.moment s.told ≢ None
  found none =
      elim leaves.elsewhere [
        | inl other ↦ other (goes_behind h.stack.last.call refl none)
        | inr alone ↦
            let no_more = none_earlier lift h.stack.earlier (subst (AreSeen lift h.stack.earlier) alone h.stack.earlier_seen) in
            (tell.returns.0 none).0.not_first leaves.is_return (first_uncalled lift run (length seen) h.stack.last
            (h.stack.are ∙ ap (λ (rest : List Activation). h.stack.last ∷ rest) no_more))
      ]

pub stray_found : (image : Image) (lift : Lift) (scene : Scene) (limit : ℕ) (regs : List ℕ) (start last : Spot) (seen : List Sight)
    (i : ℕ) (c : CodePoint) (s : Sight) (machine : Machine) → IsSceneOf image lift scene → Begins image regs start
    → Reaches scene limit start seen last → MakesStep scene limit last i c s machine → Leaves c.flow s.told.next last.stack
    → return_detail s.moment s.told ≢ None
stray_found image lift scene limit regs start last seen i c s machine is begins way makes leaves =
    let run = reached image lift scene limit is regs start last seen begins way in
    found image lift scene limit is seen last run.0 run.1 i c s machine makes leaves
