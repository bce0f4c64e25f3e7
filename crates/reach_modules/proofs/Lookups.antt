-- What is looked up by number in a well-formed program, and along its edges.
use Rattle.std.proofs.Common.{◌≡◌, ℕ, suc, ◌<◌, List, [], Contains, All, map, flat_map, length, get_or, bit_and, ap, sym, subst, ◌∙◌, arith}
use Rattle.std.proofs.lemmas.List.{get_or-map, length-map, get_or_default}
use Rattle.std.proofs.lemmas.List.Elements.{All-contains, All-weaker, All-contains_itself, Contains-get_or}
use Rattle.row_modules.specs.Modules.{AreRows, SameModule}
use Rattle.map_modules.specs.Matrices.{identity, linear_extension}
use Rattle.affine_prog.specs.declared.Program.{Program}
use Rattle.affine_prog.specs.declared.Edge.{Edge}
use Rattle.affine_prog.specs.declared.Proc.{Proc}
use Rattle.affine_prog.specs.declared.Kind.TheVariants.{Do, Call}
use Rattle.affine_prog.specs.declared.Assign.{Assign}
use Rattle.affine_prog.specs.Assignments.{position_of}
use Rattle.affine_prog.specs.Programs.{edge, entry_of, slots_of, IsEdgeOf, IsWellFormed}
use Rattle.affine_prog.specs.Spans.{IsMapOf}
use Rattle.affine_prog.proofs.Lemmas.{step_placed, call_placed}
use Rattle.affine_prog.specs.Laws.{IsOpening}
use Rattle.reach_modules.specs.Made.{MakesEach, opened_of, returned_of}
use Rattle.reach_modules.specs.Moves.{IsReturn}
use Rattle.row_engine.specs.Tables.{edge_at, AreOut}
use Rattle.row_engine.proofs.ByNode.{found}
use Rattle.reach_modules.specs.Tables.{ArePositions}
use Rattle.reach_modules.proofs.Returning.{returned_spans}
use Rattle.reach_modules.proofs.Openings.{opened_spans}

module _ (program : Program) (formed : IsWellFormed program) where
  apart : (q : ℕ) → q < length program.procs → bit_and program.registers (slots_of program q) ≡ 0
  apart q below =
      let e : length (map (λ (proc : Proc). proc.slots) program.procs) ≡ length program.procs = length-map program.procs (λ (proc : Proc). proc.slots) in
      formed.disjoint 0 (suc q) 0 (omega arith) (omega arith)

  pub slots_apart : (q : ℕ) (procs : List Proc) (d : Proc) → q < length program.procs → procs ≡ program.procs → bit_and program.registers (get_or procs q d).slots ≡ 0
  slots_apart q procs d below is =
      rw is (subst (λ s. bit_and program.registers s ≡ 0) (get_or-map (λ (proc : Proc). proc.slots) program.procs q d 0 below) (apart q below))

  pub entry_at : (q : ℕ) (procs : List Proc) (d : Proc) → q < length program.procs → procs ≡ program.procs → (get_or procs q d).entry ≡ entry_of program q
  entry_at q procs d below is = rw is (sym (get_or-map (λ (proc : Proc). proc.entry) program.procs q d 0 below))

  pub edge_in : (e : Edge) → Contains program.edges e → IsEdgeOf program e
  edge_in e contains = All-contains (IsEdgeOf program) program.edges e formed.edges contains

  pub assigns_placed : (e : Edge) (assigns given : List Assign) → Contains program.edges e → e.kind ≡ Do assigns → given ≡ assigns → All (λ a. position_of a < 16) given
  assigns_placed e assigns given contains is same =
      rw same (step_placed program formed e.from e.to assigns (subst (λ k. Contains program.edges (edge e.from e.to k)) is contains))

  pub before_placed : (e : Edge) (q : ℕ) (before given : List Assign) → Contains program.edges e → e.kind ≡ Call q before → given ≡ before → All (λ a. position_of a < 16) given
  before_placed e q before given contains is same =
      rw same (call_placed program formed e.from e.to q before (subst (λ k. Contains program.edges (edge e.from e.to k)) is contains))

  pub returned_makes : (s q r t : ℕ) (exits rows all : List (List ℕ)) → AreRows 289 (Contains exits) → SameModule 289 (Contains exits) (IsMapOf program q) → r ≡ program.registers → t ≡ s
      → all ≡ flat_map (returned_of r t exits) rows → MakesEach (IsReturn program s q) rows all
  returned_makes s q r t exits rows all are same registers slots is = record {
    by = returned_of program.registers s exits;
    is = is ∙ ap (λ x. flat_map (returned_of x t exits) rows) registers ∙ ap (λ x. flat_map (returned_of program.registers x exits) rows) slots;
    each = λ v row. returned_spans program formed s q exits v are same;
  }

  pub opened_makes : (q r s : ℕ) (slots given keep one : List ℕ) (rows all : List (List ℕ)) → q < length program.procs → r ≡ program.registers → s ≡ slots_of program q → ArePositions s slots → given ≡ slots
      → one ≡ identity 16 → keep ≡ linear_extension r 0 one → all ≡ flat_map (opened_of given keep) rows → MakesEach (IsOpening program.registers (slots_of program q)) rows all
  opened_makes q r s slots given keep one rows all below registers sets are same is_one keeps is = record {
    by = opened_of slots keep;
    is = is ∙ ap (λ x. flat_map (opened_of x keep) rows) same;
    each = λ v row. opened_spans program.registers (slots_of program q) slots keep v (apart q below) (subst (λ x. ArePositions x slots) sets are) (keeps ∙ ap (λ x. linear_extension x 0 one) registers ∙ ap (linear_extension program.registers 0) is_one) row;
  }

pub positions_below : (s : ℕ) (slots given : List ℕ) → ArePositions s slots → given ≡ slots → All (λ k. k < 17) given
positions_below s slots given are same =
    rw same (All-weaker (Contains slots) (λ k. k < 17) (λ k h. let b = (are k).0 h in let l = b.0 in omega arith) slots (All-contains_itself slots))

-- the numbers of the edges that leave a node
module _ (program : Program) (out : List (List ℕ)) (are : AreOut program out) (u i : ℕ) (below : u < program.nodes) (own items : List ℕ) (is : own ≡ get_or out u own) (same : items ≡ own) (within : i < length items) where
  pub edge_below : get_or items i 0 < length program.edges
  edge_below =
      let e = found out u program.nodes own items below are.each is same in
      ((are.is u (get_or items i 0)).0 (subst (λ ks. Contains ks (get_or items i 0)) e (Contains-get_or items i 0 within))).0

  module _ (edges : List Edge) (e : Edge) (edges_are : edges ≡ program.edges) (e_is : e ≡ get_or edges (get_or items i 0) e) where
    found_edge : get_or program.edges (get_or items i 0) e ≡ e
    found_edge = ap (λ es. get_or es (get_or items i 0) e) (sym edges_are) ∙ sym e_is

    pub edge_contained : Contains program.edges e
    edge_contained = (get_or items i 0, edge_below, found_edge)

    pub edge_is : edge_at program (get_or items i 0) ≡ e
    edge_is = get_or_default program.edges (get_or items i 0) (edge 0 0 (Do [])) e edge_below ∙ found_edge
