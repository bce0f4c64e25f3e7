-- The edges of a lifted program that are calls.
use Rattle.std.proofs.Common.{◌≡◌, ℕ, suc, List, [], ◌∷◌, get_or, flat_map, All, Contains, refl, sym, subst, arith}
use Rattle.std.proofs.lemmas.List.Elements.{All-append, All-contains_itself, All-nil}
use Rattle.affine_prog.specs.Assignments.{unknown_count}
use Rattle.affine_prog.specs.declared.Assign.{Assign}
use Rattle.affine_prog.specs.declared.Edge.{Edge}
use Rattle.affine_prog.specs.declared.Program.{Program}
use Rattle.flow_points.specs.PointLists.{FlowPoints, HasCode}
use Rattle.flow_points.specs.declared.code_points.CodePoint.{CodePoint}
use Rattle.flow_points.specs.declared.code_points.Flow.{Flow}
use Rattle.flow_points.specs.declared.code_points.Flow.TheVariants.{Next, Jump, Branch, Call, Return, Halt}
use Rattle.flow_points.proofs.Cited.{all_one, all_two}
use Rattle.report_text.specs.declared.names.Name.{Name}
use Rattle.affine_lift.specs.declared.width.Width.{Width}
use Rattle.affine_lift.specs.Effects.{effect_by}
use Rattle.affine_lift.specs.Lifting.{IsLiftedBy, edges_by, edges_of}
use Rattle.refute_path.specs.Writing.{CallsAreSure, IsSure}
use Rattle.lifted_calls.proofs.Linked.{call_sure}

all_along : {X Y : Type 0} (P : Y → Type 0) (f : X → List Y) (xs : List X) → All (λ x. All P (f x)) xs → All P (flat_map f xs)
all_along P f [] all = All-nil P
all_along P f (x ∷ xs) all =
    All-append P (f x) (flat_map f xs) (all 0 x (omega arith)) (all_along P f xs (λ k d below. all (suc k) d (omega arith)))

flow_sure : (points : FlowPoints) (assigns : List Assign) (u p : ℕ) (flow : Flow) → ((target to : ℕ) → flow ≡ Call target to → unknown_count assigns ≡ 0)
    → All (λ e. IsSure e.kind) (edges_by points assigns u p flow)
flow_sure points assigns u p (Next n) sure = all_one (λ (e : Edge). IsSure e.kind) _ tt
flow_sure points assigns u p (Jump t) sure = all_one (λ (e : Edge). IsSure e.kind) _ tt
flow_sure points assigns u p (Branch n t) sure = all_two (λ (e : Edge). IsSure e.kind) _ _ tt tt
flow_sure points assigns u p (Call t n) sure = all_one (λ (e : Edge). IsSure e.kind) _ (sure t n refl)
flow_sure points assigns u p Return sure = all_one (λ (e : Edge). IsSure e.kind) _ tt
flow_sure points assigns u p Halt sure = All-nil (λ (e : Edge). IsSure e.kind)

pub calls_sure : (w : Width) (points : FlowPoints) (names : List Name) (program : Program) → HasCode points → IsLiftedBy w points names program → CallsAreSure program
calls_sure w points names program has_code is =
    subst (All (λ (e : Edge). IsSure e.kind)) (sym is.edges)
    (all_along (λ (e : Edge). IsSure e.kind) (λ c. edges_of points (effect_by w names c (is.offset c)) c) points.points
    (λ k d below. at (get_or points.points k d) (All-contains_itself points.points k d below)))
  where
    at : (c : CodePoint) → Contains points.points c → All (λ (e : Edge). IsSure e.kind) (edges_of points (effect_by w names c (is.offset c)) c)
    at c there =
        flow_sure points (effect_by w names c (is.offset c)) _ c.point.proc_entry c.flow
        (λ target to flow. call_sure w points names c (is.offset c) target to has_code there flow)
