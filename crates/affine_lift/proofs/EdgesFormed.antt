-- The edges of a lifted program.
use Rattle.std.proofs.Common.{◌≡◌, ◌∙◌, ℕ, suc, ◌<◌, List, [], ◌∷◌, get_or, flat_map, All, Contains, refl, sym, subst, arith}
use Rattle.std.proofs.lemmas.Bool.{eq-eqb}
use Rattle.std.proofs.lemmas.List.Elements.{All-append, All-contains_itself, All-nil}
use Rattle.row_modules.proofs.Laws.{has_left, has_right}
use Rattle.affine_prog.specs.Programs.{edge, slots_of, owner_of, visible_in, IsAssignIn, IsKindIn, IsEdgeOf}
use Rattle.affine_prog.specs.declared.Program.{Program}
use Rattle.affine_prog.specs.declared.Kind.{Kind}
use Rattle.affine_prog.specs.declared.Kind.TheVariants.{Do, Call as CallEdge}
use Rattle.flow_points.specs.Walks.{point, successors_of}
use Rattle.flow_points.specs.PointLists.{FlowPoints, HasCode, places_of}
use Rattle.flow_points.specs.declared.code_points.Point.{Point}
use Rattle.flow_points.specs.declared.code_points.Flow.{Flow}
use Rattle.flow_points.specs.declared.code_points.Flow.TheVariants.{Next, Jump, Branch, Call, Return, Halt}
use Rattle.flow_points.specs.declared.code_points.CodePoint.{CodePoint}
use Rattle.flow_points.proofs.Lists.{Contains-map, all_one, all_two, alone, first, second}
use Rattle.flow_points.proofs.PointLaws.{goes_on}
use Rattle.report_text.specs.declared.names.Name.{Name}
use Rattle.report_text.specs.declared.names.Name.TheVariants.{Register, Slot}
use Rattle.affine_lift.specs.declared.width.Width.{Width}
use Rattle.affine_lift.specs.FrameSlots.{access_of}
use Rattle.affine_lift.specs.Effects.{effect_by}
use Rattle.affine_lift.specs.Lifting.{IsLiftedBy, edges_by, edges_of, exit_of as exit_node, is_slot_of, is_tracked_register, node_of, number_of, positions_where}
use Rattle.affine_lift.proofs.EffectsSeen.{Sees, effect_seen}
use Rattle.affine_lift.proofs.PositionBits.{has_name}
use Rattle.affine_lift.proofs.Owners.{exit_owner, number_small, point_below, point_owner, proc_at, procs_long}
use Rattle.affine_lift.proofs.Procedures.{owner_there}

all_flat_map : {X Y : Type 0} (P : Y → Type 0) (f : X → List Y) (xs : List X) → All (λ x. All P (f x)) xs → All P (flat_map f xs)
all_flat_map P f [] all = All-nil P
all_flat_map P f (x ∷ xs) all =
    All-append P (f x) (flat_map f xs) (all 0 x (omega arith)) (all_flat_map P f xs (λ k d below. all (suc k) d (omega arith)))

module _ {w : Width} (points : FlowPoints) (names : List Name) (program : Program) (has_code : HasCode points)
    (is : IsLiftedBy w points names program) where
  pub slots_at : (a : ℕ) → Contains points.procedures a → slots_of program (number_of points a) ≡ positions_where (is_slot_of a) names
  slots_at a there = proc_at points names program has_code is (λ proc. proc.slots) a there

  pub visible_sees : (a : ℕ) → Contains points.procedures a → Sees (visible_in program (number_of points a)) a names
  visible_sees a there k (Register r) at seen =
      has_left program.registers _ k (rw is.registers (has_name is_tracked_register names k (Register r) at refl))
  visible_sees a there k (Slot q n) at seen =
      has_right program.registers _ k (rw (slots_at a there) (has_name (is_slot_of a) names k (Slot q n) at (eq-eqb q a seen)))

  pub point_small : (q : Point) → Contains (places_of points.points) q → node_of points q < program.nodes
  point_small q there = omega (arith, is.nodes, point_below points names program has_code is q there)

  pub exit_small : (a : ℕ) → Contains points.procedures a → exit_node points a < program.nodes
  exit_small a there =
      omega (arith, is.nodes, procs_long points names program has_code is, number_small points names program has_code is a there)

  module _ (c : CodePoint) (there : Contains points.points c) where
    place : Contains (places_of points.points) c.point
    place = Contains-map (λ (d : CodePoint). d.point) points.points c there

    own : Contains points.procedures c.point.proc_entry
    own = owner_there points has_code c.point place

    -- an edge from the point, to a node of its procedure
    edge_formed : (v : ℕ) (kind : Kind) → v < program.nodes → owner_of program v ≡ number_of points c.point.proc_entry
        → IsKindIn program (number_of points c.point.proc_entry) kind → IsEdgeOf program (edge (node_of points c.point) v kind)
    edge_formed v kind small owner within =
        let from = point_owner points names program has_code is c.point place in
        record {
          from = point_small c.point place;
          to = small;
          one_owner = from ∙ sym owner;
          kind = subst (λ (p : ℕ). IsKindIn program p kind) (sym from) within;
        }

    assigns_seen : All (IsAssignIn (visible_in program (number_of points c.point.proc_entry))) (effect_by w names c (is.offset c))
    assigns_seen =
        effect_seen w (visible_in program (number_of points c.point.proc_entry)) c.point.proc_entry names (visible_sees c.point.proc_entry own) c
        (access_of c.instr (is.offset c)) refl

    to_point : (kind : Kind) (b : ℕ) → Contains (places_of points.points) (point c.point.proc_entry b)
        → IsKindIn program (number_of points c.point.proc_entry) kind
        → IsEdgeOf program (edge (node_of points c.point) (node_of points (point c.point.proc_entry b)) kind)
    to_point kind b at within =
        edge_formed (node_of points (point c.point.proc_entry b)) kind (point_small _ at) (point_owner points names program has_code is _ at) within

    flow_formed : (flow : Flow) → ((to : Point) → Contains (successors_of c.point.proc_entry flow) to → Contains (places_of points.points) to)
        → All (IsEdgeOf program) (edges_by points (effect_by w names c (is.offset c)) (node_of points c.point) c.point.proc_entry flow)
    flow_formed (Next n) goes = all_one (IsEdgeOf program) _ (to_point (Do (effect_by w names c (is.offset c))) n (goes _ (alone _)) assigns_seen)
    flow_formed (Jump t) goes = all_one (IsEdgeOf program) _ (to_point (Do (effect_by w names c (is.offset c))) t (goes _ (alone _)) assigns_seen)
    flow_formed (Branch n t) goes =
        all_two (IsEdgeOf program) _ _ (to_point (Do (effect_by w names c (is.offset c))) n (goes _ (first _ _)) assigns_seen)
        (to_point (Do (effect_by w names c (is.offset c))) t (goes _ (second _ _)) assigns_seen)
    flow_formed (Call t n) goes =
        let callee = owner_there points has_code (point t t) (goes (point t t) (first _ _)) in
        all_one (IsEdgeOf program) _ (to_point (CallEdge (number_of points t) (effect_by w names c (is.offset c))) n (goes _ (second _ _))
        (number_small points names program has_code is t callee, assigns_seen))
    flow_formed Return goes =
        all_one (IsEdgeOf program) _ (edge_formed (exit_node points c.point.proc_entry) (Do []) (exit_small _ own)
        (exit_owner points names program has_code is _ own) (All-nil _))
    flow_formed Halt goes = All-nil (IsEdgeOf program)

    point_formed : All (IsEdgeOf program) (edges_of points (effect_by w names c (is.offset c)) c)
    point_formed = flow_formed c.flow (λ to next. goes_on points c to has_code there next)

  pub edges_formed : All (IsEdgeOf program) program.edges
  edges_formed =
      subst (All (IsEdgeOf program)) (sym is.edges)
      (all_flat_map (IsEdgeOf program) (λ c. edges_of points (effect_by w names c (is.offset c)) c) points.points
      (λ k d below. point_formed (get_or points.points k d) (All-contains_itself points.points k d below)))
