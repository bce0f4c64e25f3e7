-- The first activation of a run was called from nowhere.
use Rattle.std.proofs.Common.{◌≡◌, ℕ, zero, suc, List, [], ◌∷◌, Option, None, Some, refl, subst}
use Rattle.flow_points.specs.declared.code_points.CodePoint.{CodePoint}
use Rattle.flow_points.specs.declared.code_points.Flow.{Flow}
use Rattle.flow_points.specs.declared.code_points.Flow.TheVariants.{Next, Jump, Branch, Call, Return, Halt}
use Rattle.rv_step.specs.Harts.{Hart}
use Rattle.run_paths.specs.Lifts.{Lift}
use Rattle.run_paths.specs.Activations.{Activation, activations_at, point_of, turned, turned_by}

abbrev IsGrounded : List Activation → Type 0
IsGrounded [] = Unit {0}
IsGrounded (a ∷ []) = a.call ≡ None
IsGrounded (a ∷ b ∷ earlier) = IsGrounded (b ∷ earlier)

grounded_earlier : (a : Activation) (earlier : List Activation) → IsGrounded (a ∷ earlier) → IsGrounded earlier
grounded_earlier a [] h = tt
grounded_earlier a (b ∷ earlier) h = h

grounded_by : (c : CodePoint) (flow : Flow) (m : Hart) (a : Activation) (earlier : List Activation) → IsGrounded (a ∷ earlier)
    → IsGrounded (turned_by c flow m (a ∷ earlier))
grounded_by c (Call target next) m a earlier h = h
grounded_by c Return m a earlier h = grounded_earlier a earlier h
grounded_by c (Next n) m a earlier h = h
grounded_by c (Jump t) m a earlier h = h
grounded_by c (Branch n t) m a earlier h = h
grounded_by c Halt m a earlier h = h

grounded_turned : (o : Option CodePoint) (m : Hart) (a : Activation) (earlier : List Activation) → IsGrounded (a ∷ earlier)
    → IsGrounded (turned o m (a ∷ earlier))
grounded_turned None m a earlier h = h
grounded_turned (Some c) m a earlier h = grounded_by c c.flow m a earlier h

grounded_next : (lift : Lift) (m : Hart) (activations : List Activation) → IsGrounded activations
    → IsGrounded (turned (point_of lift m activations) m activations)
grounded_next lift m [] h = tt
grounded_next lift m (a ∷ earlier) h = grounded_turned (point_of lift m (a ∷ earlier)) m a earlier h

grounded : (lift : Lift) (run : ℕ → Hart) (i : ℕ) → IsGrounded (activations_at lift run i)
grounded lift run zero = refl
grounded lift run (suc i) = grounded_next lift (run i) (activations_at lift run i) (grounded lift run i)

pub first_uncalled : (lift : Lift) (run : ℕ → Hart) (i : ℕ) (a : Activation) → activations_at lift run i ≡ a ∷ [] → a.call ≡ None
first_uncalled lift run i a alone = subst IsGrounded alone (grounded lift run i)
