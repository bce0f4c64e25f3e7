-- A set of rows has one reduced narrow basis.
use Rattle.std.proofs.Common.{◌≡◌, ℕ, List, [], ◌∷◌, map, Contains, refl, ap, ap₂, sym, ◌∙◌}
use Rattle.row_modules.specs.Modules.{IsWithin}
use Rattle.row_modules.specs.Bases.{IsReduced}
use Rattle.row_modules.proofs.Laws.{within_from_generators}
use Rattle.lead_basis.proofs.Laws.{unique_reduced}
use Rattle.narrow_solver.specs.Narrow.{scaled, IsNarrowBasis, NarrowGenerates}
use Rattle.narrow_solver.proofs.Narrowing.{unscaled, unscaled-scaled}
use Rattle.narrow_solver.proofs.Scaling.{mapped_from, mapped_rows, narrow_basis_rows, scaled_narrow_member, scaled_basis, scaled_reduced}

unscaled_rows : (n : ℕ) (rows : List (List ℕ)) → IsNarrowBasis n rows → map unscaled (map scaled rows) ≡ rows
unscaled_rows n [] b = refl
unscaled_rows n (row ∷ rest) b = ap₂ (λ (x : List ℕ) (xs : List (List ℕ)). x ∷ xs) (unscaled-scaled n row b.0.is_row) (unscaled_rows n rest b.1)

-- of two lists that generate one set, the multiples by 2^32 span one module
scaled_within : (n : ℕ) (S : List ℕ → Type 0) (xs ys : List (List ℕ)) → IsNarrowBasis n ys → NarrowGenerates n xs S → NarrowGenerates n ys S → IsWithin n (Contains (map scaled xs)) (Contains (map scaled ys))
scaled_within n S xs ys b g h =
    let are = narrow_basis_rows n ys b in
    within_from_generators n (Contains (map scaled xs)) (Contains (map scaled ys)) (mapped_rows n ys are)
    (λ v i. let f = mapped_from xs v i in let e = f.is in rw e (scaled_narrow_member n ys are f.of (h.all f.of (g.inside f.of f.there))))

pub one_answer : (n : ℕ) (S : List ℕ → Type 0) (xs ys : List (List ℕ)) → IsNarrowBasis n xs → IsNarrowBasis n ys → IsReduced xs → IsReduced ys → NarrowGenerates n xs S → NarrowGenerates n ys S → xs ≡ ys
one_answer n S xs ys b c r s g h =
    let same = unique_reduced n (map scaled xs) (map scaled ys) (scaled_basis n xs b) (scaled_basis n ys c) (scaled_reduced n xs b r) (scaled_reduced n ys c s)
    (record { there = scaled_within n S xs ys c g h; back = scaled_within n S ys xs b h g }) in
    sym (unscaled_rows n xs b) ∙ ap (map unscaled) same ∙ unscaled_rows n ys c
