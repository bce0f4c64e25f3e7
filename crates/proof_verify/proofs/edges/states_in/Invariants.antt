use Rattle.std.proofs.Common.{ℕ, List, ◌<◌, All, Contains, slice_index_or}
use Rattle.row_modules.specs.Modules.{IsCombination}
use Rattle.map_modules.specs.Matrices.{product, apply}
use Rattle.proof_verify.proofs.edges.states_in.Given as goal

abbrev pub invariant-loop-m : goal.invariant-loop-m
invariant-loop-m l =
    (k : ℕ) (d : List ℕ) → k < l.m-index
    → All (λ b. All (λ s. IsCombination 17 (Contains l.basis) (apply (product b (slice_index_or l.rows k d)) s)) l.states) l.matrices
