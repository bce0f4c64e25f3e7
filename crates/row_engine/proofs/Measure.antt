-- The measure of the loop over queued nodes.
use Rattle.std.proofs.Common.{◌≡◌, ℕ, suc, get_or, ◌<◌, ◌+◌, ◌-◌, ◌*◌, ◌≤◌, List, [], ◌∷◌, ◌++◌, All, length, length-append, sum_by, ap, arith}
use Rattle.std.proofs.lemmas.List.Elements.{All-head, All-tail}
use Rattle.std.proofs.lemmas.List.Sums.{sum_by-cons}
use Rattle.row_modules.specs.Bases.{IsLeadingBasis, basis_length}
use Rattle.lead_basis.proofs.Laws.{length_bound}
use Rattle.row_engine.specs.States.{State, state, total}
use Rattle.row_engine.specs.Growth.{Grows, Queues}

-- the sum of the lengths is bounded
bases_bound : (n : ℕ) (bases : List (List (List ℕ))) → All (IsLeadingBasis n) bases → sum_by basis_length bases ≤ 64 * n * length bases
bases_bound n [] all = omega arith
bases_bound n (b ∷ bases) all =
    let h = bases_bound n bases (All-tail (IsLeadingBasis n) b bases all) in
    let k = (length_bound n b (All-head (IsLeadingBasis n) b bases all)).1 in
    let e = sum_by-cons basis_length b bases in
    let s : 64 * n * length (b ∷ bases) ≡ 64 * n + 64 * n * length bases = omega arith in omega arith

pub total_bound : (n : ℕ) (s : State) → All (IsLeadingBasis n) s.bases → total s.bases ≤ 64 * n * length s.bases
total_bound n s all = bases_bound n s.bases all

-- and by any bound on each
pub total_at_most : (bases : List (List (List ℕ))) (b : ℕ) → ((u : ℕ) → u < length bases → basis_length (get_or bases u []) ≤ b) → total bases ≤ b * length bases
total_at_most [] b each = omega arith
total_at_most (rows ∷ bases) b each =
    let h = total_at_most bases b (λ u below. each (suc u) (omega arith)) in let k = each 0 (omega arith) in let e = sum_by-cons basis_length rows bases in
    let s : b * length (rows ∷ bases) ≡ b + b * length bases = omega arith in omega arith

-- what the modules can still grow, and the queue
abbrev pub measure : ℕ → State → ℕ
measure n s = (64 * n * length s.bases - total s.bases) + length s.queue

pub measure_falls : (n : ℕ) (offered : ℕ → List ℕ → Type 0) (bases : List (List (List ℕ))) (marks cleared : List (List ℕ)) (rest : List ℕ) (u : ℕ) (new : State) (before after : ℕ)
    → All (IsLeadingBasis n) bases → Grows n offered (state bases cleared rest) new before after → Queues (state bases cleared rest) new before after
    → measure n new < measure n (state bases marks (rest ++ u ∷ []))
measure_falls n offered bases marks cleared rest u new before after all grows queues =
    let a = bases_bound n bases all in let b = total_bound n new (grows.leading all) in let c = grows.nodes in let d = queues.fewer in
    let e = length-append rest (u ∷ []) in let f = grows.bounded in let g = grows.rises in
    let s : 64 * n * length new.bases ≡ 64 * n * length bases = ap (λ (k : ℕ). 64 * n * k) c in omega arith
