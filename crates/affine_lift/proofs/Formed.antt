-- The program of points is well formed.
use Rattle.std.proofs.Common.{◌≡◌, ◌≢◌, ◌∙◌, ℕ, ◌^◌, ◌<◌, ◌≤◌, List, ◌∷◌, ◌++◌, length, get_or, map, All, AllPairs, Contains, IsTrue, Bool, length-append, sym, ap, subst, arith}
use Rattle.std.proofs.lemmas.Bool.{eqb-true}
use Rattle.std.proofs.lemmas.List.{get_or-map, length-map}
use Rattle.std.proofs.lemmas.Simd.{map-map}
use Rattle.std.proofs.lemmas.List.Concat.{length-flat_map}
use Rattle.std.proofs.lemmas.List.Elements.{All-append, All-cons, All-contains_itself, All-map}
use Rattle.std.proofs.lemmas.List.Kept.{AllPairs-cons, AllPairs-from_increasing}
use Rattle.std.proofs.lemmas.List.Sums.{sum_by-le}
use Rattle.affine_prog.specs.Programs.{owner_of, position_sets, AreDisjoint, OwnsItsEnds, IsWellFormed}
use Rattle.affine_prog.specs.declared.Program.{Program}
use Rattle.affine_prog.specs.declared.Proc.{Proc}
use Rattle.affine_prog.specs.declared.Assign.{Assign}
use Rattle.flow_points.specs.Walks.{point, start}
use Rattle.flow_points.specs.PointLists.{FlowPoints, HasCode, entries_of}
use Rattle.flow_points.specs.declared.code_points.Flow.{Flow}
use Rattle.flow_points.specs.declared.code_points.Flow.TheVariants.{Next, Jump, Branch, Call, Return, Halt}
use Rattle.flow_points.specs.declared.code_points.CodePoint.{CodePoint}
use Rattle.flow_points.proofs.Lists.{item_there}
use Rattle.flow_points.proofs.PointLaws.{all_procedures, ascending, begins}
use Rattle.report_text.specs.declared.names.Name.{Name}
use Rattle.report_text.specs.declared.names.Name.TheVariants.{Register, Slot}
use Rattle.affine_lift.specs.declared.width.Width.{Width}
use Rattle.affine_lift.specs.Effects.{effect_by}
use Rattle.affine_lift.specs.Lifting.{IsLiftedBy, edges_by, edges_of, is_slot_of, is_tracked_register, number_of, positions_where, proc_of}
use Rattle.affine_lift.proofs.EdgesFormed.{edges_formed, exit_small, point_small}
use Rattle.affine_lift.proofs.OffsetWords.{point_at}
use Rattle.affine_lift.proofs.Owners.{exit_owner, number_small, point_owner, proc_at, procs_long}
use Rattle.affine_lift.proofs.PositionBits.{positions_apart}
use Rattle.affine_lift.proofs.PositionSets.{positions_below}
use Rattle.affine_lift.proofs.Procedures.{entry_there, number_is, owner_there}

-- no name is a register and a slot, or a slot of two procedures
register_or_slot : (a : ℕ) (name : Name) → IsTrue (is_tracked_register name) → IsTrue (is_slot_of a name) → ⊥
register_or_slot a (Register r) s t = cc
register_or_slot a (Slot p n) s t = cc

slot_of_one : (a b : ℕ) → a ≢ b → (name : Name) → IsTrue (is_slot_of a name) → IsTrue (is_slot_of b name) → ⊥
slot_of_one a b other (Register r) s t = cc
slot_of_one a b other (Slot p n) s t = other (sym (eqb-true p a s) ∙ eqb-true p b t)

few_by : (points : FlowPoints) (assigns : List Assign) (u p : ℕ) (flow : Flow) → length (edges_by points assigns u p flow) ≤ 2
few_by points assigns u p (Next n) = omega arith
few_by points assigns u p (Jump t) = omega arith
few_by points assigns u p (Branch n t) = omega arith
few_by points assigns u p (Call t n) = omega arith
few_by points assigns u p Return = omega arith
few_by points assigns u p Halt = omega arith

module _ {w : Width} (points : FlowPoints) (names : List Name) (program : Program) (has_code : HasCode points) (few : length names ≤ 16)
    (is : IsLiftedBy w points names program) where
  ends_formed : (a : ℕ) → Contains points.procedures a → OwnsItsEnds program (number_of points a)
  ends_formed a there =
      let entry = proc_at points names program has_code is (λ proc. proc.entry) a there in
      let exit = proc_at points names program has_code is (λ proc. proc.exit) a there in
      let at = entry_there points has_code a there in
      record {
        entry = subst (λ (n : ℕ). n < program.nodes) (sym entry) (point_small points names program has_code is (point a a) at);
        exit = subst (λ (n : ℕ). n < program.nodes) (sym exit) (exit_small points names program has_code is a there);
        entry_owner = ap (owner_of program) entry ∙ point_owner points names program has_code is (point a a) at;
        exit_owner = ap (owner_of program) exit ∙ exit_owner points names program has_code is a there;
      }

  each_ends : (p : ℕ) → p < length program.procs → OwnsItsEnds program p
  each_ends p below =
      let found = point_at points.procedures p (omega (arith, below, procs_long points names program has_code is)) in
      let there = item_there points.procedures p found.0 found.1 in
      subst (OwnsItsEnds program) (number_is points has_code p found.0 found.1) (ends_formed found.0 there)

  sets_are : position_sets program ≡ positions_where is_tracked_register names ∷ map (λ a. positions_where (is_slot_of a) names) points.procedures
  sets_are =
      ap (λ (s : ℕ). s ∷ map (λ proc. proc.slots) program.procs) is.registers
      ∙ ap (λ (ss : List ℕ). positions_where is_tracked_register names ∷ ss)
      (ap (map (λ (proc : Proc). proc.slots)) is.procs ∙ map-map (λ (proc : Proc). proc.slots) (proc_of points names) points.procedures)

  sets_below : All (λ s. s < 2 ^ program.width) (position_sets program)
  sets_below =
      subst (All (λ s. s < 2 ^ program.width)) (sym sets_are)
      (All-cons (λ s. s < 2 ^ program.width) _ _ (small is_tracked_register)
      (All-map (λ s. s < 2 ^ program.width) (λ a. positions_where (is_slot_of a) names) points.procedures (λ k d below. small (is_slot_of (get_or points.procedures k d)))))
    where
      small : (test : Name → Bool) → positions_where test names < 2 ^ program.width
      small test = rw is.width (positions_below test names)

  sets_apart : AllPairs AreDisjoint (position_sets program)
  sets_apart =
      subst (AllPairs AreDisjoint) (sym sets_are)
      (AllPairs-cons AreDisjoint _ _
      (All-map (AreDisjoint (positions_where is_tracked_register names)) (λ a. positions_where (is_slot_of a) names) points.procedures
      (λ k d below. positions_apart is_tracked_register (is_slot_of (get_or points.procedures k d)) names (register_or_slot (get_or points.procedures k d))))
      slots_apart)
    where
      slots_apart : AllPairs AreDisjoint (map (λ a. positions_where (is_slot_of a) names) points.procedures)
      slots_apart i j d less within =
          let size = length-map points.procedures (λ (a : ℕ). positions_where (is_slot_of a) names) in
          let order = AllPairs-from_increasing points.procedures (ascending points has_code) i j 0 less (omega arith) in
          rw (
            get_or-map (λ (a : ℕ). positions_where (is_slot_of a) names) points.procedures i 0 d (omega arith),
            get_or-map (λ (a : ℕ). positions_where (is_slot_of a) names) points.procedures j 0 d (omega arith),
          )
          (positions_apart (is_slot_of (get_or points.procedures i 0)) (is_slot_of (get_or points.procedures j 0)) names
          (slot_of_one (get_or points.procedures i 0) (get_or points.procedures j 0) (λ same. omega arith)))

  owners_long : length program.owners ≡ program.nodes
  owners_long =
      let all = length-map (entries_of points.points ++ points.procedures) (number_of points) in
      let parts = length-append (entries_of points.points) points.procedures in
      let entries = length-map points.points (λ (c : CodePoint). c.point.proc_entry) in
      let same = ap length is.owners in
      omega (arith, is.nodes)

  owners_small : All (λ p. p < length program.procs) program.owners
  owners_small =
      subst (All (λ p. p < length program.procs)) (sym is.owners)
      (All-map (λ p. p < length program.procs) (number_of points) (entries_of points.points ++ points.procedures)
      (All-append (λ a. number_of points a < length program.procs) (entries_of points.points) points.procedures
      (λ k d below. number_small points names program has_code is _ (all_procedures points _ has_code (All-contains_itself (entries_of points.points) k d below)))
      (λ k d below. number_small points names program has_code is _ (All-contains_itself points.procedures k d below))))

  few_edges : length program.edges < 2 ^ 32
  few_edges =
      let same = ap length is.edges in
      let sum = length-flat_map (λ c. edges_of points (effect_by w names c (is.offset c)) c) points.points in
      let most = sum_by-le (λ c. length (edges_of points (effect_by w names c (is.offset c)) c)) 2 points.points
      (λ k d below. few_by points (effect_by w names (get_or points.points k d) (is.offset (get_or points.points k d))) _ _ (get_or points.points k d).flow) in
      omega (arith, has_code.are.few)

  pub lifted_formed : IsWellFormed program
  lifted_formed = record {
    width = omega (arith, is.width);
    below_width = sets_below;
    disjoint = sets_apart;
    owners = owners_long;
    owned = owners_small;
    start = subst (λ (n : ℕ). n < length program.procs) (sym is.start)
        (number_small points names program has_code is points.entry (owner_there points has_code (start points.entry) (begins points has_code)));
    procs = each_ends;
    few_edges = few_edges;
    edges = edges_formed points names program has_code is;
  }
