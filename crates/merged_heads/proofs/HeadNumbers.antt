-- Heads, their numbers, and the block edges that go to them.
use Rattle.std.proofs.Common.{◌≡◌, ℕ, ◌<◌, inl, inr, List, Contains, length, slice_index, ap₂, sym, subst, ◌∙◌}
use Rattle.std.proofs.lemmas.List.{get_or_default}
use Rattle.std.proofs.lemmas.List.Elements.{All-contains, Contains-get_or}
use Rattle.merged_heads.specs.declared.Merging.{Merging}
use Rattle.affine_prog.specs.declared.Program.{Program}
use Rattle.affine_prog.specs.declared.Kind.{Kind}
use Rattle.affine_prog.specs.declared.Kind.TheVariants.{Call}
use Rattle.affine_prog.specs.declared.Assign.{Assign}
use Rattle.affine_prog.specs.Programs.{edge, entry_of, slots_of, IsEdgeOf, IsWellFormed}
use Rattle.merged_heads.specs.Chains.{IsHead, Chain}
use Rattle.merged_heads.specs.Merges.{Carries, passes, assigns}
use Rattle.merged_heads.specs.BlockPrograms.{behind, IsBlockProgram}
use Rattle.merged_heads.proofs.Lists.{one_place}
use Rattle.merged_heads.proofs.Edges.{IsCall, block_of}
use Rattle.merged_heads.proofs.Procs.{slots_same, entry_same}

module _ (program : Program) (table : Merging) (heads : List ℕ) (small : Program) (w : IsWellFormed program) (blocks : IsBlockProgram program table heads small) where
  -- a head's number, and that the nodes with numbers are heads
  listed_head : (i : ℕ) → i < length heads → Contains heads (slice_index heads i)
  listed_head i within = Contains-get_or heads i 0 within

  pub head_at : (i : ℕ) → i < length heads → IsHead program table (slice_index heads i)
  head_at i within = let n = blocks.numbers in (n.all (slice_index heads i)).0 (listed_head i within)

  pub same_number : (i j : ℕ) → i < length heads → j < length heads → slice_index heads i ≡ slice_index heads j → i ≡ j
  same_number i j one other same = let n = blocks.numbers in one_place heads n.order i j one other same

  -- entries are heads
  pub entry_head : (p : ℕ) → p < length program.procs → IsHead program table (entry_of program p)
  entry_head p within = let e = entry_same heads program.procs small.procs p blocks.procs within in let h = head_at (entry_of small p) e.0 in rw e.1 at h

  pub slots_of_small : (p : ℕ) → slots_of small p ≡ slots_of program p
  slots_of_small p = slots_same heads program.procs small.procs p blocks.procs

  -- the block edge of an edge to head number i, from its own head and behind its own chain
  pub record BlockTo (i u : ℕ) (kind : Kind) : Type 0 where
    pub from : ℕ
    pub within : from < length heads
    pub chain : List Assign
    pub leads : Chain program table (slice_index heads from) u chain
    pub member : Contains small.edges (edge from i (behind chain kind))

  pub block_to : (i u v : ℕ) (kind : Kind) → i < length heads → v ≡ slice_index heads i → Contains program.edges (edge u v kind) → BlockTo i u kind
  block_to i u v kind within at contains =
      let r = block_of program table heads small blocks (edge u v kind) contains (rw at (listed_head i within)) in
      let b = r.0 in
      let e = r.2 in
      let to : b.to ≡ i = same_number b.to i e.to within (e.same_end ∙ at) in
      record {
        from = b.from;
        within = e.from;
        chain = e.chain;
        leads = e.leads;
        member = let h = r.1 in subst (Contains small.edges) (ap₂ (λ (n : ℕ) (k : Kind). edge b.from n k) to e.kind) h;
      }

  pub callee_within : (q u v : ℕ) (before : List Assign) → Contains program.edges (edge u v (Call q before)) → q < length program.procs
  callee_within q u v before contains = let e = All-contains (IsEdgeOf program) program.edges (edge u v (Call q before)) w.edges contains in e.kind.0

  -- a call edge goes to a head
  pub head_of_call : (u v q : ℕ) (before : List Assign) → Contains program.edges (edge u v (Call q before)) → (i : ℕ) × (i < length heads) × (v ≡ slice_index heads i)
  head_of_call u v q before contains =
      let n = blocks.numbers in
      let e = All-contains (IsEdgeOf program) program.edges (edge u v (Call q before)) w.edges contains in
      let h : IsHead program table v = record {
        node = e.to;
        not_merged = elim (blocks.merged.edges (edge u v (Call q before)) contains) [
          | inl none ↦ none
          | inr c ↦ absurd (no_call c)
        ];
      } in
      let c = (n.all v).1 h in
      (c.0, c.1, sym (get_or_default heads c.0 0 v c.1 ∙ c.2))
    where
      no_call : {r : ℕ} → Carries program table (edge u v (Call q before)) r → ⊥
      no_call (passes kind same) = subst IsCall kind tt
      no_call (assigns u' list p kind same) = subst IsCall kind tt
