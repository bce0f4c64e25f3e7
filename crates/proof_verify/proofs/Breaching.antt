-- A breach of the rules for heads and procedures is a breach, whatever is claimed.
use Rattle.std.proofs.Common.{ℕ, arith}
use Rattle.proof_verify.specs.declared.Breach.{Breach}
use Rattle.proof_verify.specs.declared.Breach.TheVariants.{Opening, Step, Call, Start, Entry, Claimed}
use Rattle.proof_verify.specs.Verdicts.{Sheet, IsBreach}

pub still_broken : (s : Sheet) (n : ℕ) (P : ℕ → Type 0) (breach : Breach) → IsBreach s 0 (λ k. ⊥) breach → IsBreach s n P breach
still_broken s n P (Opening p) h = h
still_broken s n P (Step k) h = h
still_broken s n P (Call k) h = h
still_broken s n P Start h = h
still_broken s n P (Entry k) h = h
still_broken s n P (Claimed k) h = let f = h.1 in absurd (omega (arith, f.within))
