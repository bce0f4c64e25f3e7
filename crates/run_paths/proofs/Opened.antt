-- The registers of the moment when an activation opens.
use Rattle.std.proofs.Common.{◌≡◌, ℕ, suc, ◌<◌, List, [], ◌∷◌, Option, Some, refl, ap, sym, ◌∙◌, arith, subst}
use Rattle.elf_image.specs.declared.image.Image.{Image}
use Rattle.flow_points.specs.Flows.{next}
use Rattle.flow_points.specs.declared.code_points.CodePoint.{CodePoint}
use Rattle.flow_points.specs.declared.code_points.Flow.{Flow}
use Rattle.flow_points.specs.declared.code_points.Flow.TheVariants.{Call, Return}
use Rattle.rv_step.specs.Harts.{Hart}
use Rattle.rv_step.specs.Effects.{written}
use Rattle.rv_step.specs.Steps.{Step}
use Rattle.run_paths.specs.Lifts.{Lift, IsLiftOf}
use Rattle.run_paths.specs.Activations.{Activation, activations_at, begun, called, point_at, point_of, start_of, turned, turned_by}
use Rattle.run_paths.specs.Discipline.{IsRunTo, KeepsDiscipline, KeepsRules}
use Rattle.run_paths.specs.Follows.{path_of}
use Rattle.run_paths.specs.Relations.{OpensAt}
use Rattle.run_paths.proofs.Following.{moments, slots_left}
use Rattle.run_paths.proofs.Moments.{StandsAt, none_stand}
use Rattle.run_paths.proofs.Running.{turn}
use Rattle.run_paths.proofs.Turning.{IsPlain}
use Rattle.run_paths.proofs.Turns.{TurnsBy, ends, enters, stays}

linked_by : (p target to after : ℕ) (flow : Flow) (m n : Hart) → flow ≡ Call target to → TurnsBy p flow after m n
    → n.registers ≡ written m.registers 1 to
linked_by p target to after flow m n is (stays plain onto) = absurd (subst IsPlain is plain)
linked_by p target to after flow m n is (enters there e pc now memory) =
    let same : after ≡ to = (let both : Call there after ≡ Call target to = sym e ∙ is in cc both) in
    now ∙ ap (λ (k : ℕ). written m.registers 1 k) same
linked_by p target to after flow m n is (ends e pc now memory) = let both : Return ≡ Call target to = sym e ∙ is in cc both

module _ (image : Image) (lift : Lift) (is : IsLiftOf image lift) where
  linked_from : (s : List ℕ) (m n : Hart) (activations : List Activation) (maps : List (List ℕ)) (c : CodePoint) (target to : ℕ)
      → StandsAt image lift s m activations maps → Step m n → KeepsRules lift m n activations → point_of lift m activations ≡ Some c
      → c.flow ≡ Call target to → n.registers ≡ written m.registers 1 to
  linked_from s m n [] maps c target to h step k is_at flow = absurd h.all
  linked_from s m n (a ∷ earlier) [] c target to h step k is_at flow = absurd (none_stand lift s m.memory a earlier h.at m.registers h.all)
  linked_from s m n (a ∷ earlier) (f ∷ maps) c target to h step k is_at flow =
      let here : h.at ≡ c = (let e = sym h.is_at ∙ is_at in cc e) in
      linked_by h.at.point.proc_entry target to (next h.at.point.address h.at.length) h.at.flow m n
      (ap (λ (d : CodePoint). d.flow) here ∙ flow)
      (turn image lift is s m n a earlier f maps h step (slots_left image lift is s m n a earlier (f ∷ maps) h k) k.code)

  pub first_opens : (run : ℕ → Hart) → OpensAt lift run 0
  first_opens run = record { last = begun lift (run 0); earlier = []; are = refl; opens = refl }

  pub calls_open : (run : ℕ → Hart) (n : ℕ) → IsRunTo image run n → KeepsDiscipline lift run n → (i : ℕ) → i < n → (c : CodePoint)
      → point_at lift run i ≡ Some c → (target to : ℕ) → c.flow ≡ Call target to → OpensAt lift run (suc i)
  calls_open run n r keeps i below c is_at target to flow =
      let activations = activations_at lift run i in
      record {
        last = called c target to (run i);
        earlier = activations;
        are = ap (λ (o : Option CodePoint). turned o (run i) activations) is_at ∙ ap (λ (fl : Flow). turned_by c fl (run i) activations) flow;
        opens =
            linked_from (start_of lift (run 0)) (run i) (run (suc i)) activations (path_of lift run i) c target to
            (moments image lift is run n r keeps i (omega arith)) (r.steps i below) (keeps i below) is_at flow;
      }
