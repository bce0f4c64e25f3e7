-- The states at a node: at a head by its rows, and at a merged node by those at its parent; and that a node has one place.
use Rattle.std.proofs.Common.{◌≡◌, ℕ, ◌<◌, List, [], ◌++◌, Contains, All, refl, ap, sym, subst, ◌∙◌, ◌↔◌, unwrap_or}
use Rattle.std.specs.Prelude.{Option, Some}
use Rattle.std.proofs.lemmas.List.Elements.{All-weaker}
use Rattle.word_rows.specs.Rows.{dot}
use Rattle.row_modules.specs.Modules.{AreRows, SameModule}
use Rattle.affine_prog.specs.declared.Program.{Program}
use Rattle.affine_prog.specs.declared.Edge.{Edge}
use Rattle.affine_prog.specs.declared.Kind.TheVariants.{Do}
use Rattle.affine_prog.specs.Programs.{owner_of, IsWellFormed}
use Rattle.affine_prog.specs.Spans.{rows_at}
use Rattle.affine_prog.proofs.Lemmas.{next_node}
use Rattle.block_program.specs.Contractions.{Contraction}
use Rattle.merged_heads.specs.Chains.{here}
use Rattle.merged_heads.specs.Merges.{assigns_of}
use Rattle.merged_heads.specs.FollowLaws.{ChainsAreUnique}
use Rattle.merged_heads.specs.Pushes.{MakesOf}
use Rattle.merged_heads.proofs.Lemmas.{on_from_parent}
use Rattle.block_program.specs.Numbers.{AreBlocks, number_of}
use Rattle.block_program.proofs.Lemmas.{IsStepInto, head_node}
use Rattle.proof_rules.specs.Rules.{rule_6}
use Rattle.proof_rules.specs.Laws.{AreRowLists}
use Rattle.proof_rules.proofs.Lemmas.{chain_placed}
use Rattle.proof_verify.specs.declared.Claim.{Claim}
use Rattle.proof_verify.specs.Points.{HasPointStates, IsHeadBasis, IsPlaced, HasStatesAt}
use Rattle.proof_verify.specs.Verdicts.{ClaimPasses}
use Rattle.proof_verify.proofs.Pointing.{at_head, behind_edge, tried_on_rows}

module _ (program : Program) (w : IsWellFormed program) (blocks : Contraction) (b : AreBlocks program blocks) where
  module _ (levels entries : List (List (List ℕ))) (level_rows : AreRowLists 289 levels) (entry_rows : AreRowLists 17 entries) where
    pub at_a_head : (v i : ℕ) → v < program.nodes → number_of blocks v ≡ Some i → (basis : List (List ℕ)) → IsHeadBasis (rows_at levels i) (rows_at entries (owner_of program v)) basis
        → HasStatesAt program blocks levels entries v basis
    at_a_head v i below some basis h = record {
      place = record { node = v; head = i; number = some; chain = []; leads = here v v [] (head_node program w blocks b v i below some) refl refl };
      states = at_head levels entries level_rows entry_rows i (owner_of program v) basis h.are_rows h.same;
    }

    pub behind_a_node : (v : ℕ) (e : Edge) → IsStepInto program blocks.merging v e → (before pushed : List (List ℕ)) → AreRows 17 (Contains pushed)
        → HasStatesAt program blocks levels entries e.from before → SameModule 17 (Contains pushed) (MakesOf (assigns_of e.kind) before)
        → HasStatesAt program blocks levels entries v pushed
    behind_a_node v e step before pushed are known same =
        let p = known.place in let assigns = assigns_of e.kind in
        let own : owner_of program v ≡ owner_of program e.from = (next_node program w (owner_of program e.from) e.from v (Do assigns) refl step.contains).1 in
        record {
          place = record {
            node = p.node;
            head = p.head;
            number = p.number;
            chain = p.chain ++ assigns;
            leads = on_from_parent program blocks.merging p.node v e.from assigns p.chain step.parent p.leads;
          };
          states = subst (λ (q : ℕ). HasPointStates levels entries p.head q (p.chain ++ assigns) pushed) (sym own)
              (behind_edge levels entries level_rows entry_rows p.head (owner_of program e.from) p.chain assigns before pushed are known.states same);
        }

-- a claim is tried on the rows that generate the states of its node
module _ (program : Program) (w : IsWellFormed program) (blocks : Contraction) (levels entries : List (List (List ℕ)))
    (level_rows : AreRowLists 289 levels) (entry_rows : AreRowLists 17 entries) (unique : ChainsAreUnique) where
  same_place : (u : ℕ) (p q : IsPlaced program blocks u) → (p.head ≡ q.head) × (p.chain ≡ q.chain)
  same_place u p q =
      let both = unique program blocks.merging u p.node q.node p.chain q.chain p.leads q.leads in
      let numbers : Some p.head ≡ Some q.head = sym p.number ∙ ap (number_of blocks) both.0 ∙ q.number in
      (ap (λ (o : Option ℕ). unwrap_or o 0) numbers, both.1)

  pub claim_tried : (c : Claim) (states : List (List ℕ)) → HasStatesAt program blocks levels entries c.node states
      → All (λ a. All (λ v. dot a v ≡ 0) states) c.rows ↔ ClaimPasses program blocks levels entries c
  claim_tried c states h =
      let p = h.place in let own = owner_of program c.node in
      let tried : (a : List ℕ) → All (λ v. dot a v ≡ 0) states ↔ rule_6 levels entries p.head own p.chain a =
      λ a. tried_on_rows levels entries level_rows entry_rows p.head own p.chain states a (chain_placed program w blocks.merging p.node c.node p.chain p.leads) h.states in (
        λ all. record {
          place = p;
          zero = All-weaker (λ a. All (λ v. dot a v ≡ 0) states) (λ a. rule_6 levels entries p.head own p.chain a) (λ a each. (tried a).0 each) c.rows all;
        },
        λ passes. let q = passes.place in let same = same_place c.node p q in
            All-weaker (λ a. rule_6 levels entries q.head own q.chain a) (λ a. All (λ v. dot a v ≡ 0) states)
            (λ a rule. (tried a).1 (rw (same.0, same.1) rule)) c.rows passes.zero,
      )
