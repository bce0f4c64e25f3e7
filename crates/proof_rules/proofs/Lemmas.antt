-- The laws of the rules that crates above cite, each with variables for all that it speaks of.
pub use Rattle.proof_rules.proofs.Choosing.{simple_choice}
pub use Rattle.proof_rules.proofs.Applying.{applied}
pub use Rattle.proof_rules.proofs.Claiming.{chain_placed, claim_holds}
