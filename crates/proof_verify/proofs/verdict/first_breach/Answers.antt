use Rattle.std.proofs.Common.{length, subst}
use Rattle.proof_verify.specs.Items.{IsFirst}
use Rattle.proof_verify.specs.Verdicts.{sheet, ClaimPasses, nth_claim, IsVerdict}
use Rattle.proof_verify.proofs.Members.{are_row_lists}
use Rattle.proof_verify.proofs.Holding.{claims_hold_at}
use Rattle.proof_verify.proofs.Breaching.{still_broken}
use Rattle.proof_verify.proofs.verdict.first_breach.Goals as goal

pub returns-in-Some-clause-exact : goal.returns-in-Some-clause-exact
returns-in-Some-clause-exact g c =
    let s = sheet c.args.blocks.now.small c.args.levels.now c.args.entries.now in
    still_broken s (length c.args.claims.now) (λ k. ClaimPasses c.args.program.now c.args.blocks.now c.args.levels.now c.args.entries.now (nth_claim c.args.claims.now k)) c.in-Some.breach
    (subst (IsVerdict s 0 (λ k. ⊥)) c.in-Some.is (rw c.small.ensures at c.in_ok-breach.ensures))

pub returns-in-Some-first_broken_claim-clause-exact :
    goal.returns-in-Some-first_broken_claim-clause-exact
returns-in-Some-first_broken_claim-clause-exact g c =
    let s = sheet c.args.blocks.now.small c.args.levels.now c.args.entries.now in
    let passed = subst (IsVerdict s 0 (λ k. ⊥)) c.in_default.is (rw c.small.ensures at c.in_ok-breach.ensures) in (
      passed.0,
      subst (IsFirst (λ k. ClaimPasses c.args.program.now c.args.blocks.now c.args.levels.now c.args.entries.now (nth_claim c.args.claims.now k)) (length c.args.claims.now))
          c.in-Some-first_broken_claim.is c.first_broken_claim.ensures,
    )

pub returns-clause-sound : goal.returns-clause-sound
returns-clause-sound g c =
    let s = sheet c.args.blocks.now.small c.args.levels.now c.args.entries.now in
    let passed = subst (IsVerdict s 0 (λ k. ⊥)) c.in_default.is (rw c.small.ensures at c.in_ok-breach.ensures) in
    let all = subst (IsFirst (λ k. ClaimPasses c.args.program.now c.args.blocks.now c.args.levels.now c.args.entries.now (nth_claim c.args.claims.now k)) (length c.args.claims.now))
    c.in-None.is c.first_broken_claim.ensures in
    λ e. claims_hold_at c.args.program.now c.requires.formed c.args.blocks.now c.requires.blocks c.args.levels.now c.args.entries.now (are_row_lists 289 c.args.levels.now c.known_bases.ensures)
    (are_row_lists 17 c.args.entries.now c.known_bases-2.ensures) c.open_paths_are_kept.ensures.chains c.args.claims.now passed.0 all
