-- What an insertion says of modules.
use Rattle.std.proofs.Common.{◌↔◌, ℕ, Bool, true, false, IsTrue, IsFalse, List, ◌∷◌, Contains, Result, Ok, Err, IfOk, OnOk, refl}
use Rattle.word_rows.specs.Rows.{IsRow}
use Rattle.row_modules.specs.Modules.{IsCombination, IsWithin, SameModule}
use Rattle.row_modules.specs.Bases.{IsLeadingBasis}
use Rattle.lead_basis.specs.Inserts.{IsBetween, Adds}
use Rattle.lead_basis.proofs.Leading.{basis_rows}
use Rattle.lead_basis.proofs.Between.{within_with}

module _ (n : ℕ) (old : List (List ℕ)) (row : List ℕ) (new : List (List ℕ)) (basis : IsLeadingBasis n old) (row_is : IsRow n row) where
  module_with_row : IsBetween n old row new → IsCombination n (Contains new) row → SameModule n (Contains new) (Contains (row ∷ old))
  module_with_row b m = record {
    there = b.within;
    back = within_with n row old new (basis_rows n new b.basis) m b.kept (basis_rows n old basis);
  }

  row_was_in : IsBetween n old row new → IsCombination n (Contains new) row → IsWithin n (Contains new) (Contains old) → IsCombination n (Contains old) row
  row_was_in b m w = w row m

  module_as_before : IsBetween n old row new → IsCombination n (Contains old) row → IsWithin n (Contains new) (Contains old)
  module_as_before b m v h =
      let rows = basis_rows n old basis in
      within_with n row old old rows m (λ u i. i) rows v (b.within v h)

  growth : (grew : Bool) → IsBetween n old row new → IsCombination n (Contains new) row → (IsFalse grew ↔ IsCombination n (Contains old) row) → (IsTrue grew ↔ ¬ IsWithin n (Contains new) (Contains old))
  growth true b m h = ((λ t w. let f = h.1 (row_was_in b m w) in cc), λ no. refl)
  growth false b m h = ((λ t. absurd (cc)), λ no. absurd (no (module_as_before b (h.0 refl))))

  pub adds_same_module : {E : Type 0} (result : Result Bool E) (before after : ℕ) → Adds n old row new result before after → OnOk result (SameModule n (Contains new) (Contains (row ∷ old)))
  adds_same_module (Ok grew) before after a = module_with_row a.between a.added
  adds_same_module (Err e) before after a = tt

  pub adds_growth : {E : Type 0} (result : Result Bool E) (before after : ℕ) → Adds n old row new result before after → IfOk result (λ grew. IsTrue grew ↔ ¬ IsWithin n (Contains new) (Contains old))
  adds_growth (Ok grew) before after a = growth grew a.between a.added a.not_grown
  adds_growth (Err e) before after a = tt
