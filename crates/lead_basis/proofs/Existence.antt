-- Each list of rows has a leading-position basis: its rows are added one after the other.
use Rattle.std.proofs.Common.{ℕ, ◌+◌, List, [], ◌∷◌, length, Contains, arith}
use Rattle.row_modules.specs.Modules.{AreRows, SameModule}
use Rattle.row_modules.specs.Bases.{IsLeadingBasis}
use Rattle.row_modules.proofs.Laws.{generator, contains_first, contains_later, same_members}
use Rattle.lead_basis.specs.Laws.{HasBasis}
use Rattle.lead_basis.proofs.Leading.{basis_rows}
use Rattle.lead_basis.proofs.Between.{later_within, within_with}
use Rattle.lead_basis.proofs.Lengths.{length_within_used}
use Rattle.lead_basis.proofs.Insertion.{extended}

record Based (n : ℕ) (rows : List (List ℕ)) : Type 0 where
  basis : List (List ℕ)
  is_basis : IsLeadingBasis n basis
  same_module : SameModule n (Contains basis) (Contains rows)

based : (n : ℕ) (rows : List (List ℕ)) → AreRows n (Contains rows) → Based n rows
based n [] are = record { basis = []; is_basis = tt; same_module = same_members n (Contains []) (Contains []) (λ v h. h) (λ v h. h) }
based n (row ∷ rows) are =
    let later : AreRows n (Contains rows) = λ v h. are v (contains_later row rows v h) in
    let b = based n rows later in
    let e = extended n (n + length b.basis) b.basis row b.is_basis (are row (contains_first row rows)) (omega arith) in
    let between = e.adds.between in
    let own = basis_rows n e.new between.basis in
    record {
      basis = e.new;
      is_basis = between.basis;
      same_module = record {
        there = λ v m. within_with n row b.basis (row ∷ rows) are (generator n (Contains (row ∷ rows)) are row (contains_first row rows))
            (λ u i. later_within n row rows u (b.same_module.there u i)) (basis_rows n b.basis b.is_basis) v (between.within v m);
        back = within_with n row rows e.new own e.adds.added (λ u i. between.kept u (b.same_module.back u i)) later;
      };
    }

pub list_has_basis : (n : ℕ) (rows : List (List ℕ)) → AreRows n (Contains rows) → HasBasis n rows
list_has_basis n rows are =
    let b = based n rows are in
    record { basis = b.basis; is_basis = b.is_basis; same_module = b.same_module; short = length_within_used n rows b.basis b.is_basis are b.same_module.there }
