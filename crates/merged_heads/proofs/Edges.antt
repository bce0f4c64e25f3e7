-- Edges into merged nodes, and what a block edge comes from.
use Rattle.std.proofs.Common.{◌≡◌, ℕ, ◌⊎◌, inl, inr, List, [], ◌++◌, Contains, refl, ap, sym, subst, ◌==◌}
use Rattle.std.specs.List.{list_any}
use Rattle.merged_heads.specs.declared.Merging.{Merging}
use Rattle.affine_prog.specs.declared.Program.{Program}
use Rattle.affine_prog.specs.declared.Edge.{Edge}
use Rattle.affine_prog.specs.declared.Kind.{Kind}
use Rattle.affine_prog.specs.declared.Kind.TheVariants.{Do, Call}
use Rattle.affine_prog.specs.declared.Assign.{Assign}
use Rattle.affine_prog.specs.Programs.{edge, IsWellFormed}
use Rattle.merged_heads.specs.Chains.{IsHead, Chain, here, after}
use Rattle.merged_heads.specs.BlockPrograms.{behind, IsBlockEdge, edges_to, IsBlockProgram}
use Rattle.merged_heads.specs.Merges.{assigns_of, edge_number, IsMergedTable}
use Rattle.merged_heads.proofs.Classes.{none_some, edge_of_program, carried_by}
use Rattle.merged_heads.proofs.Lists.{filter_in, filter_out, zip_in, zip_out, listed}

-- the callee of a kind, and whether it calls
abbrev pub callee_of : Kind → ℕ
callee_of (Do assigns) = 0
callee_of (Call q before) = q

abbrev pub IsCall : Kind → Type 0
IsCall (Do assigns) = ⊥
IsCall (Call q before) = Unit {0}

-- a chain that leads to the end of an edge is at a head, or comes along the edge
pub record AtHead (program : Program) (table : Merging) (h v : ℕ) (chain : List Assign) : Type 0 where
  pub head : IsHead program table h
  pub same : v ≡ h
  pub none : chain ≡ []

pub record AlongEdge (program : Program) (table : Merging) (h u : ℕ) (kind : Kind) (chain : List Assign) : Type 0 where
  pub rest : List Assign
  pub leads : Chain program table h u rest
  pub is_do : kind ≡ Do (assigns_of kind)
  pub more : chain ≡ rest ++ assigns_of kind

pub chain_at : (program : Program) (table : Merging) → IsWellFormed program → IsMergedTable program table → (h u v : ℕ) (kind : Kind) (chain : List Assign)
    → Contains program.edges (edge u v kind) → Chain program table h v chain → AtHead program table h v chain ⊎ AlongEdge program table h u kind chain
chain_at program table w m h u v kind chain contains (here h' v' chain' head same none) = inl (record { head = head; same = same; none = none })
chain_at program table w m h u v kind chain contains (after h' u' v' rest list more leads p edge_in is) =
    let f = edge_of_program program table w m (edge u v kind) contains in
    elim (m.edges (edge u v kind) contains) [
      | inl none ↦ absurd (none_some (edge_number table v) p.number none p.entry)
      | inr c ↦
          let r = carried_by program table w m (edge u v kind) h chain f.from f.to c (after h u' v rest list chain leads p edge_in is) in
          inr (record { rest = r.0; leads = r.1; is_do = r.2; more = r.3 })
    ]

pub at_head : (program : Program) (table : Merging) (h v : ℕ) (chain : List Assign) → IsHead program table v → Chain program table h v chain → (v ≡ h) × (chain ≡ [])
at_head program table h v chain head (here h' v' chain' also same none) = (same, none)
at_head program table h v chain head (after h' u' v' rest list more leads p edge_in is) = absurd (none_some (edge_number table v) p.number head.not_merged p.entry)

-- the block edge of an edge to a head, and the edge of a block edge
pub block_of : (program : Program) (table : Merging) (heads : List ℕ) (small : Program) → IsBlockProgram program table heads small → (e : Edge) → Contains program.edges e → Contains heads e.to
    → (b : Edge) × Contains small.edges b × IsBlockEdge program table heads e b
block_of program table heads small blocks e contains head =
    zip_in (IsBlockEdge program table heads) (edges_to heads program.edges) small.edges e blocks.edges
    (filter_in (λ (x : Edge). list_any (λ h. h == x.to) heads) program.edges e (listed heads e.to head) contains)

pub edge_of : (program : Program) (table : Merging) (heads : List ℕ) (small : Program) → IsBlockProgram program table heads small → (b : Edge) → Contains small.edges b
    → (e : Edge) × Contains program.edges e × IsBlockEdge program table heads e b
edge_of program table heads small blocks b contains =
    let r = zip_out (IsBlockEdge program table heads) (edges_to heads program.edges) small.edges b blocks.edges contains in
    (r.0, filter_out (λ (x : Edge). list_any (λ h. h == x.to) heads) program.edges r.0 r.1, r.2)

-- the kind before a chain was put before it
pub before_chain : (chain : List Assign) (kind : Kind) (assigns : List Assign) → Do assigns ≡ behind chain kind → (kind ≡ Do (assigns_of kind)) × (assigns ≡ chain ++ assigns_of kind)
before_chain chain (Do mine) assigns e = (refl, ap assigns_of e)
before_chain chain (Call q mine) assigns e = absurd (subst IsCall (sym e) tt)

pub before_chain_call : (chain : List Assign) (kind : Kind) (q : ℕ) (assigns : List Assign) → Call q assigns ≡ behind chain kind → (kind ≡ Call q (assigns_of kind)) × (assigns ≡ chain ++ assigns_of kind)
before_chain_call chain (Do mine) q assigns e = absurd (subst IsCall e tt)
before_chain_call chain (Call q' mine) q assigns e = (ap (λ n. Call n mine) (sym (ap callee_of e)), ap assigns_of e)
