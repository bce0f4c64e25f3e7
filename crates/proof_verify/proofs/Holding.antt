-- Where nothing is broken, what is claimed holds.
use Rattle.std.proofs.Common.{ℕ, ◌<◌, [], List, Contains, length, get_or, sym, subst, ◌∙◌}
use Rattle.std.proofs.lemmas.List.{get_or_default}
use Rattle.affine_prog.specs.declared.Program.{Program}
use Rattle.affine_prog.specs.declared.Edge.{Edge}
use Rattle.affine_prog.specs.declared.Kind.TheVariants.{Do, Call}
use Rattle.affine_prog.specs.declared.Assign.{Assign}
use Rattle.affine_prog.specs.Programs.{edge, IsWellFormed}
use Rattle.block_program.specs.Contractions.{Contraction}
use Rattle.merged_heads.specs.declared.Merging.{Merging}
use Rattle.merged_heads.specs.Chains.{Chain, here, after}
use Rattle.merged_heads.specs.Laws.{OpenPathsAlongChains}
use Rattle.block_program.proofs.Lemmas.{number_at}
use Rattle.block_program.specs.Numbers.{AreBlocks}
use Rattle.proof_rules.specs.Rules.{PassRules}
use Rattle.proof_rules.specs.Laws.{AreRowLists}
use Rattle.proof_rules.proofs.Lemmas.{claim_holds}
use Rattle.proof_verify.specs.declared.Claim.{Claim}
use Rattle.proof_verify.specs.Items.{nth_edge, step_rule, call_rule, entry_rule}
use Rattle.proof_verify.specs.Verdicts.{sheet, AllPass, PassEntries, ClaimPasses, nth_claim, ClaimsHoldAt}

-- an edge of the program by its number
module _ (small : Program) (P : Edge → Type 0) (all : AllPass (length small.edges) (λ k. P (nth_edge small k))) where
  pub each_edge : (e : Edge) → Contains small.edges e → P e
  each_edge e (k, within, is) = subst P (get_or_default small.edges k (edge 0 0 (Do [])) e within ∙ is) (all k within)

pub pass_rules : (small : Program) (levels entries : List (List (List ℕ))) → PassEntries (sheet small levels entries) → PassRules small levels entries
pass_rules small levels entries pass = record {
  openings = pass.0.0.0.0;
  steps = λ u v assigns contains. each_edge small (step_rule small levels) pass.0.0.0.1 (edge u v (Do assigns)) contains;
  calls = λ u v q before contains. each_edge small (call_rule small levels) pass.0.0.1 (edge u v (Call q before)) contains;
  starts = pass.0.1;
  enters = λ u v q before contains. each_edge small (entry_rule small levels entries) pass.1 (edge u v (Call q before)) contains;
}

chain_node : (program : Program) (table : Merging) (h u : ℕ) (chain : List Assign) → Chain program table h u chain → h < program.nodes
chain_node program table h u chain (here h' u' chain' head same none) = head.node
chain_node program table h v more (after h' u v' chain assigns more' leads inner contains is) = chain_node program table h u chain leads

module _ (program : Program) (w : IsWellFormed program) (blocks : Contraction) (b : AreBlocks program blocks) (levels entries : List (List (List ℕ)))
    (level_rows : AreRowLists 289 levels) (entry_rows : AreRowLists 17 entries) (along : OpenPathsAlongChains) where
  pub claims_hold_at : (claims : List Claim) → PassEntries (sheet blocks.small levels entries)
      → AllPass (length claims) (λ k. ClaimPasses program blocks levels entries (nth_claim claims k)) → ClaimsHoldAt program claims
  claims_hold_at claims pass all k d below j e within on =
      let none : Claim = record { node = 0; rows = [] } in
      let claim = get_or claims k d in let u = claim.node in
      let passes = subst (ClaimPasses program blocks levels entries) (get_or_default claims k none d below) (all k below) in
      let p = passes.place in
      let n = number_at program w blocks b p.node p.head (chain_node program blocks.merging p.node u p.chain p.leads) p.number in
      claim_holds program w blocks.merging b.heads blocks.small b.small along levels entries level_rows entry_rows (pass_rules blocks.small levels entries pass) u (get_or claim.rows j e) (record {
        row = on;
        head = p.head;
        within = n.within;
        chain = p.chain;
        leads = subst (λ (h : ℕ). Chain program blocks.merging h u p.chain) (sym n.is) p.leads;
        zero = passes.zero j e within;
      })
