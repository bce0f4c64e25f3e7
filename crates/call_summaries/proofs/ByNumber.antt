-- Procedures and edges of a well-formed program, by number.
use Rattle.std.proofs.Common.{◌≡◌, ℕ, suc, ◌<◌, List, Contains, map, length, get_or, bit_and, subst, arith}
use Rattle.std.proofs.lemmas.List.{get_or-map, length-map}
use Rattle.std.proofs.lemmas.List.Elements.{All-contains}
use Rattle.affine_prog.specs.declared.Program.{Program}
use Rattle.affine_prog.specs.declared.Proc.{Proc}
use Rattle.affine_prog.specs.declared.Edge.{Edge}
use Rattle.affine_prog.specs.declared.Kind.{Kind}
use Rattle.affine_prog.specs.declared.Kind.TheVariants.{Do, Call}
use Rattle.affine_prog.specs.declared.Assign.{Assign}
use Rattle.affine_prog.specs.Programs.{edge, exit_of, entry_of, slots_of, owner_of, IsKindIn, IsEdgeOf, IsWellFormed}
use Rattle.row_engine.specs.Tables.{edge_at}
use Rattle.row_engine.proofs.ByNode.{edge_of}
use Rattle.affine_prog.proofs.Lemmas.{step_placed, call_placed}
use Rattle.affine_prog.proofs.Lemmas.{ArePlaced}

pub exit_at : (program : Program) (q : ℕ) (d : Proc) → q < length program.procs → exit_of program q ≡ (get_or program.procs q d).exit
exit_at program q d below = get_or-map (λ (proc : Proc). proc.exit) program.procs q d 0 below

pub entry_at : (program : Program) (q : ℕ) (d : Proc) → q < length program.procs → entry_of program q ≡ (get_or program.procs q d).entry
entry_at program q d below = get_or-map (λ (proc : Proc). proc.entry) program.procs q d 0 below

pub slots_at : (program : Program) (q : ℕ) (d : Proc) → q < length program.procs → slots_of program q ≡ (get_or program.procs q d).slots
slots_at program q d below = get_or-map (λ (proc : Proc). proc.slots) program.procs q d 0 below

pub apart : (program : Program) (q : ℕ) → IsWellFormed program → q < length program.procs → bit_and program.registers (slots_of program q) ≡ 0
apart program q formed below =
    let e : length (map (λ (proc : Proc). proc.slots) program.procs) ≡ length program.procs = length-map program.procs (λ (proc : Proc). proc.slots) in
    formed.disjoint 0 (suc q) 0 (omega arith) (omega arith)

pub owner_is : (program : Program) (u : ℕ) → IsWellFormed program → u < program.nodes → owner_of program u < length program.procs
owner_is program u formed below = formed.owned u 0 (omega (arith, formed.owners))

pub slots_apart : (program : Program) (u o : ℕ) (procs : List Proc) (d : Proc) → IsWellFormed program → u < program.nodes → procs ≡ program.procs → o ≡ owner_of program u → bit_and program.registers (get_or procs o d).slots ≡ 0
slots_apart program u o procs d formed below is own =
    let b = owner_is program u formed below in
    rw (is, own) (subst (λ s. bit_and program.registers s ≡ 0) (slots_at program (owner_of program u) d b) (apart program (owner_of program u) formed b))

pub exit_below : (program : Program) (q : ℕ) (procs : List Proc) (d : Proc) → IsWellFormed program → q < length program.procs → procs ≡ program.procs → (get_or procs q d).exit < program.nodes
exit_below program q procs d formed below is = rw is (subst (λ x. x < program.nodes) (exit_at program q d below) (formed.procs q below).exit)

-- an edge
module _ (program : Program) (formed : IsWellFormed program) (e : Edge) (contains : Contains program.edges e) where
  pub edge_is : IsEdgeOf program e
  edge_is = All-contains (IsEdgeOf program) program.edges e formed.edges contains

  pub of_kind : (kind : Kind) → e.kind ≡ kind → Contains program.edges (edge e.from e.to kind)
  of_kind kind is = subst (λ k. Contains program.edges (edge e.from e.to k)) is contains

  pub do_placed : (assigns : List Assign) → e.kind ≡ Do assigns → ArePlaced assigns
  do_placed assigns is = step_placed program formed e.from e.to assigns (of_kind (Do assigns) is)

  pub before_placed : (q : ℕ) (before : List Assign) → e.kind ≡ Call q before → ArePlaced before
  before_placed q before is = call_placed program formed e.from e.to q before (of_kind (Call q before) is)

  pub callee_within : (q : ℕ) (before : List Assign) → e.kind ≡ Call q before → q < length program.procs
  callee_within q before is = let k = subst (IsKindIn program (owner_of program e.from)) is edge_is.kind in k.0

pub callee_of : (program : Program) (k : ℕ) → IsWellFormed program → k < length program.edges → (q : ℕ) (before : List Assign) → (edge_at program k).kind ≡ Call q before → q < length program.procs
callee_of program k formed within q before is = let i = subst (IsKindIn program (owner_of program (edge_at program k).from)) is (edge_of program k formed within).kind in i.0

pub slots_disjoint : (program : Program) (p : ℕ) (procs : List Proc) (d : Proc) → IsWellFormed program → p < length program.procs → procs ≡ program.procs → bit_and program.registers (get_or procs p d).slots ≡ 0
slots_disjoint program p procs d formed within is = rw is (subst (λ s. bit_and program.registers s ≡ 0) (slots_at program p d within) (apart program p formed within))

pub entry_below : (program : Program) (q : ℕ) (procs : List Proc) (d : Proc) → IsWellFormed program → q < length program.procs → procs ≡ program.procs → (get_or procs q d).entry < program.nodes
entry_below program q procs d formed below is = rw is (subst (λ x. x < program.nodes) (entry_at program q d below) (formed.procs q below).entry)
