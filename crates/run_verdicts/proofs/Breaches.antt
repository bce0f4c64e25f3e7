-- Watches of stores, returns and code find the first step that breaks their rule.
use Rattle.std.proofs.Common.{◌≡◌, ◌↔◌, ℕ, suc, ◌<◌, ◌≤◌, List, length, take, slice_get, Some, None, inl, inr, sym, ◌∙◌, arith, subst, length-take}
use Rattle.std.proofs.lemmas.Option.{slice_get_cases, slice_get_within}
use Rattle.elf_image.specs.declared.image.Image.{Image}
use Rattle.flow_points.specs.declared.code_points.CodePoint.{CodePoint}
use Rattle.rv_step.specs.Harts.{Hart}
use Rattle.run_paths.specs.Lifts.{Lift}
use Rattle.run_paths.specs.Activations.{Activation, activations_at}
use Rattle.run_paths.specs.Discipline.{LeavesSlots, ReturnsToCaller, RestoresFrame}
use Rattle.run_watch.specs.Judges.{detail_of}
use Rattle.run_watch.specs.Runs.{Scene, Sight, verdict}
use Rattle.run_verdicts.specs.Findings.{FindingsTell}
use Rattle.run_verdicts.specs.Runs.{AreSeenSteps, FindsFirstBreaches, KeepsAt}
use Rattle.run_verdicts.specs.Seen.{IsSceneOf}
use Rattle.run_verdicts.proofs.Quiet.{told_at_moment}
use Rattle.run_verdicts.proofs.Verdicts.{all_quiet, nth_taken, quiet_all}

abbrev Rule : Type 1
Rule = CodePoint → Activation → List Activation → Type 0

-- what is said of a step, and follows there from something else
kept_by : (lift : Lift) (m : Hart) (activations : List Activation) (P Q : Rule) → KeepsAt lift m activations P
    → ((c : CodePoint) (last : Activation) (earlier : List Activation) → P c last earlier → Q c last earlier)
    → KeepsAt lift m activations Q
kept_by lift m activations P Q h gives =
    record {
      last = h.last;
      earlier = h.earlier;
      are = h.are;
      at = h.at;
      is_at = h.is_at;
      keeps = gives h.at h.last h.earlier h.keeps;
    }

-- two things that are said of a step are said of one point and of the same activations
same_there : (lift : Lift) (m : Hart) (activations : List Activation) (P Q : Rule) (h : KeepsAt lift m activations P)
    → KeepsAt lift m activations Q
    → Q h.at h.last h.earlier
same_there lift m activations P Q h k =
    let at : k.at ≡ h.at = (let both = sym k.is_at ∙ h.is_at in cc both) in
    let stacks = sym k.are ∙ h.are in
    let last : k.last ≡ h.last = cc stacks in
    let earlier : k.earlier ≡ h.earlier = cc stacks in
    subst (λ (c : CodePoint). Q c h.last h.earlier) at
    (subst (λ (a : Activation). Q k.at a h.earlier) last
    (subst (λ (rest : List Activation). Q k.at k.last rest) earlier k.keeps))

module _ (image : Image) (lift : Lift) (scene : Scene) (is : IsSceneOf image lift scene) (limit : ℕ) (seen : List Sight)
    (run : ℕ → Hart)
    (h : AreSeenSteps image lift scene limit seen run) (k : ℕ) (within : k ≤ length seen) where
  -- a watch that finds nothing at a step exactly where something holds there
  finds_first : (kind : ℕ) (Holds : ℕ → Type 0)
      → ((i : ℕ) (s : Sight) → slice_get seen i ≡ Some s → (detail_of kind s.moment s.told ≡ None) ↔ Holds i)
      → (verdict kind None (take k seen) ≡ None) ↔ ((i : ℕ) → i < k → Holds i)
  finds_first kind Holds tells = (
    λ none i below. elim ((slice_get_cases seen i).1) [
      | inl (s, inside, at, same) ↦ (tells i s at).0 (all_quiet kind (take k seen) none i s (nth_taken seen k i below ∙ at))
      | inr (past, gone) ↦ absurd (omega (arith, past, below, within))
    ],
    λ holds. quiet_all kind (take k seen) (λ i s at.
        let inside = slice_get_within (take k seen) i s at in
        let below : i < k = omega (arith, inside, length-take k seen) in
        (tells i s (sym (nth_taken seen k i below) ∙ at)).1 (holds i below)),
  )

  module _ (i : ℕ) (s : Sight) (at : slice_get seen i ≡ Some s) where
    abbrev Tell : Rule
    Tell c last earlier = FindingsTell lift (run i) (run (suc i)) c last earlier s

    told : KeepsAt lift (run i) (activations_at lift run i) Tell
    told = told_at_moment image lift scene is limit seen run h i s at

    -- one part of what is told
    part : (Nothing : Type 0) (Q : Rule)
        → ((c : CodePoint) (last : Activation) (earlier : List Activation) → Tell c last earlier → Nothing ↔ Q c last earlier)
        → Nothing ↔ KeepsAt lift (run i) (activations_at lift run i) Q
    part Nothing Q tells = (
      λ nothing. kept_by lift (run i) (activations_at lift run i) Tell Q told
          (λ c last earlier tell. (tells c last earlier tell).0 nothing),
      λ keeps. (tells told.at told.last told.earlier told.keeps).1
          (same_there lift (run i) (activations_at lift run i) Tell Q told keeps),
    )

  pub finds_breaches : FindsFirstBreaches lift seen run k
  finds_breaches = record {
    stores = finds_first 2 (λ i. KeepsAt lift (run i) (activations_at lift run i)
        (λ c last earlier. LeavesSlots lift (run i) (run (suc i)) c last earlier))
        (λ i s at. part i s at (detail_of 2 s.moment s.told ≡ None)
        (λ c last earlier. LeavesSlots lift (run i) (run (suc i)) c last earlier)
        (λ c last earlier tell. tell.stores));
    returns = finds_first 3 (λ i. KeepsAt lift (run i) (activations_at lift run i)
        (λ c last earlier. ReturnsToCaller (run (suc i)) c last × RestoresFrame lift (run i) c last))
        (λ i s at. part i s at (detail_of 3 s.moment s.told ≡ None)
        (λ c last earlier. ReturnsToCaller (run (suc i)) c last × RestoresFrame lift (run i) c last)
        (λ c last earlier tell. tell.returns));
    code = finds_first 4 _ (λ i s at. (told i s at).keeps.code);
  }
