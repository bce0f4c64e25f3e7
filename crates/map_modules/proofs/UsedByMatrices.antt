-- How many positions the matrices of a list use.
use Rattle.std.proofs.Common.{◌≡◌, ℕ, zero, suc, ◌+◌, ◌-◌, ◌*◌, ◌^◌, ◌<◌, ◌≤◌, inl, inr, Bool, false, List, Contains, min, ap, ◌∙◌, arith, if◌then◌else◌}
use Rattle.std.proofs.lemmas.Bool.{cases_eq, cases_lt}
use Rattle.row_modules.specs.Positions.{has, with_constant}
use Rattle.row_modules.specs.Bases.{used_positions}
use Rattle.row_modules.proofs.Laws.{has_beyond, with_constant_other, is_used_none, used_after}
use Rattle.map_modules.specs.Matrices.{IsMatrixOn}

-- matrices on sets of positions below k, and the constant's, use at most (k + 1) * (k + 1) positions
module _ (rows : List (List ℕ)) (k r c : ℕ) (few : k ≤ 16) (rows_small : r < 2 ^ k) (columns_small : c < 2 ^ k)
    (on : (m : List ℕ) → Contains rows m → IsMatrixOn (with_constant r) (with_constant c) m) where
  out_of : (s i : ℕ) → s < 2 ^ k → k ≤ i → (i ≡ 16 → ⊥) → has (with_constant s) i ≡ false
  out_of s i small beyond ne = with_constant_other s i ne ∙ has_beyond k s i small beyond

  in_row : (i : ℕ) → i < 17 → (n : ℕ) → n ≤ 17 → used_positions (17 * i + n) rows ≤ used_positions (17 * i) rows + min n k + (n - 16)
  in_row i below n short =
      used_after rows (17 * i) k few n short
      (λ l inside beyond ne. is_used_none rows (17 * i + l) (λ m h. (on m h).in_columns i l below (omega arith) (out_of c l columns_small beyond ne)))

  empty_row : (i : ℕ) → i < 17 → k ≤ i → (i ≡ 16 → ⊥) → (n : ℕ) → n ≤ 17 → used_positions (17 * i + n) rows ≤ used_positions (17 * i) rows
  empty_row i below beyond ne zero short = let e : 17 * i + 0 ≡ 17 * i = omega arith in rw e (omega arith)
  empty_row i below beyond ne (suc n) short =
      let h = empty_row i below beyond ne n (omega arith) in
      let none = is_used_none rows (17 * i + n) (λ m h. (on m h).in_rows i n below (omega arith) (out_of r i rows_small beyond ne)) in
      let e : used_positions (suc (17 * i + n)) rows ≡ used_positions (17 * i + n) rows + 0 = ap (λ (b : Bool). used_positions (17 * i + n) rows + (if b then 1 else 0)) none in
      let s : 17 * i + suc n ≡ suc (17 * i + n) = omega arith in
      rw s (omega arith)

  so_far : (i : ℕ) → i ≤ 17 → used_positions (17 * i) rows ≤ (min i k + (i - 16)) * (k + 1)
  so_far zero le = omega arith
  so_far (suc i) le =
      let h = so_far i (omega arith) in
      let s : 17 * suc i ≡ 17 * i + 17 = omega arith in
      rw s (elim (cases_lt i k) [
        | inl named ↦
            let own = in_row i (omega arith) 17 (omega arith) in
            let a : (min i k + (i - 16)) ≡ i = omega arith in let b : (min (suc i) k + (suc i - 16)) ≡ i + 1 = omega arith in
            let p = rw a at h in rw b (omega arith)
        | inr beyond ↦ elim (cases_eq i 16) [
          | inl last ↦
              let own = in_row i (omega arith) 17 (omega arith) in
              let a : (min i k + (i - 16)) ≡ k = omega arith in let b : (min (suc i) k + (suc i - 16)) ≡ k + 1 = omega arith in
              let p = rw a at h in rw b (omega arith)
          | inr other ↦
              let own = empty_row i (omega arith) beyond other 17 (omega arith) in
              let a : (min i k + (i - 16)) ≡ k = omega arith in let b : (min (suc i) k + (suc i - 16)) ≡ k = omega arith in
              let p = rw a at h in rw b (omega arith)
        ]
      ])

  pub few_used_by_matrices : used_positions 289 rows ≤ (k + 1) * (k + 1)
  few_used_by_matrices =
      let h = so_far 17 (omega arith) in
      let a : (min 17 k + (17 - 16)) ≡ k + 1 = omega arith in
      rw a at h
