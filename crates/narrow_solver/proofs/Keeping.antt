-- Rows of which some are dropped.
use Rattle.std.proofs.Common.{◌≡◌, ℕ, ◌^◌, inl, inr, List, [], ◌∷◌, if◌then◌else◌, Contains, replicate, refl, ap, sym, ◌∙◌}
use Rattle.std.proofs.lemmas.Bool.{cases_eq, eq-eqb, ne_eqb}
use Rattle.word_rows.specs.Rows.{words_of, plus, pivot}
use Rattle.row_modules.specs.Modules.{AreRows, IsCombination, none, more}
use Rattle.row_modules.proofs.Laws.{combination_is_row, contains_first, contains_later, first_or_later, nothing_contained}
use Rattle.narrow_solver.specs.Narrow.{narrowed, kept}
use Rattle.narrow_solver.proofs.Narrowing.{narrow_sum, narrow_nothing}

pub kept_dropped : (row : List ℕ) (rest : List (List ℕ)) → pivot row ≡ 2 ^ 32 → kept (row ∷ rest) ≡ kept rest
kept_dropped row rest e = ap (λ b. if b then kept rest else row ∷ kept rest) (eq-eqb (pivot row) (2 ^ 32) e)

pub kept_stays : (row : List ℕ) (rest : List (List ℕ)) → (pivot row ≡ 2 ^ 32 → ⊥) → kept (row ∷ rest) ≡ row ∷ kept rest
kept_stays row rest ne = ap (λ b. if b then kept rest else row ∷ kept rest) (ne_eqb (pivot row) (2 ^ 32) ne)

pub kept_contains : (rows : List (List ℕ)) (v : List ℕ) → Contains rows v → (pivot v ≡ 2 ^ 32 → ⊥) → Contains (kept rows) v
kept_contains [] v h ne = absurd (nothing_contained v h)
kept_contains (row ∷ rest) v h ne = elim (cases_eq (pivot row) (2 ^ 32)) [
  | inl drop ↦ let k = kept_dropped row rest drop in
      elim (first_or_later row rest v h) [ inl e ↦ absurd (ne (ap pivot e ∙ drop)) | inr i ↦ rw k (kept_contains rest v i ne) ]
  | inr stay ↦ let k = kept_stays row rest stay in
      elim (first_or_later row rest v h) [ inl e ↦ rw (k, e) (contains_first row (kept rest)) | inr i ↦ rw k (contains_later row (kept rest) v (kept_contains rest v i ne)) ]
]

pub record IsKept (rows : List (List ℕ)) (v : List ℕ) : Type 0 where
  pub there : Contains rows v
  pub other : pivot v ≡ 2 ^ 32 → ⊥

pub kept_within : (rows : List (List ℕ)) (v : List ℕ) → Contains (kept rows) v → IsKept rows v
kept_within [] v h = absurd (nothing_contained v h)
kept_within (row ∷ rest) v h = elim (cases_eq (pivot row) (2 ^ 32)) [
  | inl drop ↦ let k = kept_dropped row rest drop in
      let i = kept_within rest v (rw k at h) in record { there = contains_later row rest v i.there; other = i.other }
  | inr stay ↦ let k = kept_stays row rest stay in
      elim (first_or_later row (kept rest) v (rw k at h)) [
        | inl e ↦ record { there = rw e (contains_first row rest); other = λ p. stay (ap pivot (sym e) ∙ p) }
        | inr j ↦ let i = kept_within rest v j in record { there = contains_later row rest v i.there; other = i.other }
      ]
]

-- a combination of the kept rows that is the same modulo 2^32
pub record HasTwin (n : ℕ) (rows : List (List ℕ)) (v : List ℕ) : Type 0 where
  pub twin : List ℕ
  pub combination : IsCombination n (Contains rows) twin
  pub same : narrowed v ≡ narrowed twin

-- where the dropped rows are 0 modulo 2^32, they add nothing
pub dropped_add_nothing : (n : ℕ) (rows : List (List ℕ)) → AreRows n (Contains rows) → ((r : List ℕ) → Contains rows r → pivot r ≡ 2 ^ 32 → narrowed r ≡ replicate n 0) → (v : List ℕ) → IsCombination n (Contains rows) v → HasTwin n (kept rows) v
dropped_add_nothing n rows are zeros v (none v' e) = record { twin = v; combination = none v e; same = refl }
dropped_add_nothing n rows are zeros w (more c v row w' m p e) =
    let t = dropped_add_nothing n rows are zeros v m in
    let width = (combination_is_row n (Contains rows) are v m).width in
    elim (cases_eq (pivot row) (2 ^ 32)) [
      | inl drop ↦ record { twin = t.twin; combination = t.combination; same = ap narrowed e ∙ narrow_nothing n c v row width (zeros row p drop) ∙ t.same }
      | inr stay ↦ record {
        twin = words_of (plus c t.twin row);
        combination = more c t.twin row (words_of (plus c t.twin row)) t.combination (kept_contains rows row p stay) refl;
        same = ap narrowed e ∙ narrow_sum c v t.twin row t.same;
      }
    ]
