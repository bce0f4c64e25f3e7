-- New numbers.
use Rattle.std.proofs.Common.{◌≡◌, ℕ, ◌+◌, ◌-◌, ◌≤◌, List, ◌++◌, All, Some, length, map, get_or, slice_get, refl, ap, ap₂, sym, subst, arith}
use Rattle.std.proofs.lemmas.List.{get_or_append_left}
use Rattle.refute_path.specs.declared.derivations.Deriv.{Deriv}
use Rattle.refute_path.specs.declared.derivations.Deriv.TheVariants.{Opening, Step, Call}
use Rattle.refute_path.proofs.Numbered.{got_index}
use Rattle.refute_path.proofs.Placing.{got_kept}
use Rattle.needed_derivs.specs.Needed.{IsNumberUpTo, numbers_in}
use Rattle.needed_derivs.specs.Renumbered.{number_at, renumbered, IsKeptAt}

pub number_kept : (xs ys : List ℕ) (n : ℕ) → IsNumberUpTo (length xs) n → number_at (xs ++ ys) n ≡ number_at xs n
number_kept xs ys n (least, most) = get_or_append_left xs ys 0 (n - 1) (omega (arith, least, most))

pub renumbered_kept : (xs ys : List ℕ) (d : Deriv) → All (IsNumberUpTo (length xs)) (numbers_in d) → renumbered (xs ++ ys) d ≡ renumbered xs d
renumbered_kept xs ys (Opening p slots) all = refl
renumbered_kept xs ys (Step b e choice) all = ap (λ n. Step n e choice) (number_kept xs ys b (all 0 0 (omega arith)))
renumbered_kept xs ys (Call b e c) all =
    ap₂ (λ n m. Call n e m) (number_kept xs ys b (all 0 0 (omega arith))) (number_kept xs ys c (all 1 0 (omega arith)))

pub up_to : (j k : ℕ) (xs : List ℕ) → j ≤ k → All (IsNumberUpTo j) xs → All (IsNumberUpTo k) xs
up_to j k xs less all = λ i d below. (let (least, most) = all i d below in (least, omega (arith, less, most)))

pub kept_still : (own more : List Deriv) (numbers further : List ℕ) (j : ℕ) (d : Deriv) → All (IsNumberUpTo (length numbers)) (numbers_in d) → IsKeptAt own numbers j d
    → IsKeptAt (own ++ more) (numbers ++ further) j d
kept_still own more numbers further j d all is = record {
  place = is.place;
  number = got_kept numbers further j (is.place + 1) is.number;
  there = subst (λ x. slice_get (own ++ more) is.place ≡ Some x) (sym (renumbered_kept numbers further d all)) (got_kept own more is.place (renumbered numbers d) is.there);
  earlier = λ i x below. subst (λ n. n ≤ is.place) (sym (number_kept numbers further (get_or (numbers_in d) i x) (all i x below))) (is.earlier i x below);
}

pub numbers_renumbered : (numbers : List ℕ) (d : Deriv) → numbers_in (renumbered numbers d) ≡ map (number_at numbers) (numbers_in d)
numbers_renumbered numbers (Opening p slots) = refl
numbers_renumbered numbers (Step b e choice) = refl
numbers_renumbered numbers (Call b e c) = refl

pub new_number : (numbers : List ℕ) (n k place : ℕ) → n ≡ k + 1 → slice_get numbers k ≡ Some (place + 1) → number_at numbers n ≡ place + 1
new_number numbers n k place e is =
    let same : n - 1 ≡ k = omega arith in got_index numbers (n - 1) (place + 1) (subst (λ i. slice_get numbers i ≡ Some (place + 1)) (sym same) is)
