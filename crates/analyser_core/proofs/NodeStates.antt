-- The states at a node, from the block program where it is a head, and along the edge from its parent where it is merged.
use Rattle.std.proofs.Common.{◌≡◌, ℕ, ◌<◌, List, [], Contains, length, refl, ap, sym, subst, ◌∙◌, arith, slice_index, slice_index_or}
use Rattle.std.specs.Prelude.{Option, None, Some}
use Rattle.std.proofs.lemmas.List.{get_or_default}
use Rattle.row_modules.proofs.Laws.{same_with, same_members}
use Rattle.affine_prog.specs.declared.Program.{Program}
use Rattle.affine_prog.specs.declared.Edge.{Edge}
use Rattle.affine_prog.specs.Programs.{IsWellFormed}
use Rattle.affine_prog.specs.Spans.{rows_at, IsStateAt, AreReached}
use Rattle.block_program.specs.Contractions.{Contraction}
use Rattle.merged_heads.specs.declared.Merging.{Merging}
use Rattle.merged_heads.specs.Merges.{assigns_of}
use Rattle.block_program.specs.Numbers.{AreBlocks, number_of, edge_number_of}
use Rattle.merged_heads.proofs.Lemmas.{states_alike}
use Rattle.block_program.proofs.Lemmas.{IsStepInto, merged_at, number_at, step_read}
use Rattle.analyser_core.specs.States.{Follows, HasStates, states_by, AreKept}

pub follows_of : (program : Program) (merging : Merging) (v : ℕ) (e : Edge) → IsStepInto program merging v e → Follows program merging e.from v
follows_of program merging v e s = record { assigns = assigns_of e.kind; parent = s.parent }

module _ (program : Program) (formed : IsWellFormed program) (blocks : Contraction) (b : AreBlocks program blocks) where
  pub head_within : (reached : List (List (List ℕ))) → AreReached blocks.small reached → (v : ℕ) → v < program.nodes → (i : ℕ) → number_of blocks v ≡ Some i → i < length reached
  head_within reached r v below i some = let n = number_at program formed blocks b v i below some in let s = b.small in omega (arith, n.within, s.nodes, r.each)

  pub states_known : (reached : List (List (List ℕ))) (made : List (List ℕ)) → AreReached blocks.small reached → (v : ℕ) → v < program.nodes
      → (number_of blocks v ≡ None → HasStates program v made) → HasStates program v (states_by reached made (number_of blocks v))
  states_known reached made r v below here = by (number_of blocks v) refl
    where
      by : (o : Option ℕ) → number_of blocks v ≡ o → HasStates program v (states_by reached made o)
      by None none = here none
      by (Some i) some =
          let n = number_at program formed blocks b v i below some in
          let s = b.small in
          let exact = r.exact i (omega (arith, n.within, s.nodes)) in
          subst (λ (u : ℕ). HasStates program u (rows_at reached i)) n.is
          (same_with 17 (Contains (rows_at reached i)) (IsStateAt blocks.small i) (IsStateAt program (slice_index b.heads i)) exact
          (same_members 17 (IsStateAt blocks.small i) (IsStateAt program (slice_index b.heads i))
          (λ x. (states_alike program blocks.merging b.heads blocks.small formed b.small i x n.within).1) (λ x. (states_alike program blocks.merging b.heads blocks.small formed b.small i x n.within).0)))

  pub before_known : (reached kept : List (List (List ℕ))) → AreReached blocks.small reached → (v : ℕ) → v < program.nodes → AreKept program blocks.merging v kept
      → (u : ℕ) → u < v → Follows program blocks.merging u v → HasStates program u (states_by reached (rows_at kept u) (number_of blocks u))
  before_known reached kept r v below k u before follows =
      let node : u < program.nodes = omega (arith, before, below) in
      states_known reached (rows_at kept u) r u node
      (λ none. k.exact u before (merged_at program formed blocks b u node none) (record { next = v; later = omega arith; node = below; follows = follows }))

  -- the states at the parent of a merged node, read from what is kept
  pub before_read : (reached kept : List (List (List ℕ))) → AreReached blocks.small reached → (v : ℕ) → v < program.nodes → AreKept program blocks.merging v kept → (e : Edge) → IsStepInto program blocks.merging v e
      → (rows states : List (List ℕ)) → rows ≡ slice_index_or kept e.from rows → states ≡ states_by reached rows (number_of blocks e.from) → HasStates program e.from states
  before_read reached kept r v below k e s rows states read is =
      let place : rows ≡ rows_at kept e.from = read ∙ get_or_default kept e.from rows [] (let b = s.from_below in let l = k.long in omega arith) in
      subst (HasStates program e.from) (sym (is ∙ ap (λ (xs : List (List ℕ)). states_by reached xs (number_of blocks e.from)) place))
      (before_known reached kept r v below k e.from s.from_below (follows_of program blocks.merging v e s))

  -- both, for a merged node whose edge is read
  pub record IsRead (v : ℕ) (e : Edge) (states : List (List ℕ)) : Type 0 where
    pub step : IsStepInto program blocks.merging v e
    pub known : HasStates program e.from states

  pub both_read : (reached kept : List (List (List ℕ))) → AreReached blocks.small reached → (v : ℕ) → v < program.nodes → AreKept program blocks.merging v kept
      → (k : ℕ) (edges : List Edge) (e : Edge) → edge_number_of blocks v ≡ Some k → edges ≡ program.edges → e ≡ slice_index_or edges k e
      → (rows states : List (List ℕ)) → rows ≡ slice_index_or kept e.from rows → states ≡ states_by reached rows (number_of blocks e.from) → IsRead v e states
  both_read reached kept r v below kept_are k edges e some same read rows states there is =
      let s = step_read program formed blocks b v k edges e below some same read in
      record { step = s; known = before_read reached kept r v below kept_are e s rows states there is }
