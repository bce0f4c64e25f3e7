-- Derivations that are kept, one after the other.
use Rattle.std.proofs.Common.{◌≡◌, inl, inr, ℕ, ◌+◌, ◌-◌, ◌<◌, ◌≤◌, Bool, true, false, List, [], ◌∷◌, ◌++◌, All, Some, length, length-append, get_or, slice_get, refl, ap, sym, subst, ◌∙◌, arith}
use Rattle.std.proofs.lemmas.Bool.{true≢false, cases_eq}
use Rattle.std.proofs.lemmas.List.Elements.{All-push}
use Rattle.std.proofs.lemmas.Option.{same_Some}
use Rattle.refute_path.specs.declared.derivations.Deriv.{Deriv}
use Rattle.refute_path.proofs.Placing.{got_kept, got_at_end}
use Rattle.needed_derivs.specs.Needed.{IsNumberUpTo, numbers_in, AreEarlier}
use Rattle.needed_derivs.specs.Marks.{IsMarked}
use Rattle.needed_derivs.specs.Renumbered.{renumbered, Puts, IsKeptAt, AreRenumbered}
use Rattle.needed_derivs.proofs.Growing.{number_kept, renumbered_kept, up_to, kept_still}

append_nothing : (xs : List Deriv) → xs ++ [] ≡ xs
append_nothing [] = refl
append_nothing (x ∷ xs) = ap (λ l. x ∷ l) (append_nothing xs)

pub kept_none : (derivs : List Deriv) (marks : List Bool) → AreRenumbered derivs marks [] [] 0
kept_none derivs marks = record {
  count = refl;
  few = λ i d below. absurd (omega (arith, below));
  kept = λ j d below is at. absurd (omega (arith, below));
  only = λ i below. absurd (omega (arith, below));
}

module _ (derivs : List Deriv) (marks : List Bool) (earlier : AreEarlier derivs) (own : List Deriv) (numbers : List ℕ) (k : ℕ) (r : AreRenumbered derivs marks own numbers k) (d : Deriv) (at : slice_get derivs k ≡ Some d) where
  before : (j : ℕ) (e : Deriv) → j ≤ k → slice_get derivs j ≡ Some e → All (IsNumberUpTo (length numbers)) (numbers_in e)
  before j e less there = let c = r.count in up_to j (length numbers) (numbers_in e) (omega (arith, less, c)) (earlier j e there)

  counted : (number : ℕ) → length (numbers ++ number ∷ []) ≡ k + 1
  counted number = let c = r.count in let l = length-append numbers (number ∷ []) in omega arith

  number_at_end : (number : ℕ) → slice_get (numbers ++ number ∷ []) k ≡ Some number
  number_at_end number = subst (λ i. slice_get (numbers ++ number ∷ []) i ≡ Some number) r.count (got_at_end numbers number)

  one_left : (IsMarked marks k → ⊥) → AreRenumbered derivs marks own (numbers ++ 0 ∷ []) (k + 1)
  one_left never = record {
    count = counted 0;
    few = All-push (λ n. n ≤ length own) numbers 0 r.few (omega arith);
    kept = own_kept;
    only = λ i below. (let (j, is, e) = r.only i below in (j, is, got_kept numbers (0 ∷ []) j (i + 1) e));
  }
    where
      own_kept : (j : ℕ) (e : Deriv) → j < k + 1 → IsMarked marks j → slice_get derivs j ≡ Some e → IsKeptAt own (numbers ++ 0 ∷ []) j e
      own_kept j e below is there = elim (cases_eq j k) [
        | inl same ↦ absurd (never (subst (IsMarked marks) same is))
        | inr other ↦ subst (λ l. IsKeptAt l (numbers ++ 0 ∷ []) j e) (append_nothing own)
            (kept_still own [] numbers (0 ∷ []) j e (before j e (omega arith) there) (r.kept j e (omega arith) is there))
      ]

  one_kept : IsMarked marks k → AreRenumbered derivs marks (own ++ renumbered numbers d ∷ []) (numbers ++ (length own + 1) ∷ []) (k + 1)
  one_kept here = record {
    count = counted number;
    few = All-push (λ n. n ≤ length new) numbers number (λ i x below. (let h = r.few i x below in omega (arith, h, longer))) (omega (arith, longer));
    kept = own_kept;
    only = own_only;
  }
    where
      number : ℕ
      number = length own + 1

      new : List Deriv
      new = own ++ renumbered numbers d ∷ []

      longer : length (own ++ renumbered numbers d ∷ []) ≡ length own + 1
      longer = length-append own (renumbered numbers d ∷ [])

      last_one : IsKeptAt new (numbers ++ number ∷ []) k d
      last_one = record {
        place = length own;
        number = number_at_end number;
        there = got_at_end own (renumbered numbers d) ∙ ap Some (sym (renumbered_kept numbers (number ∷ []) d (before k d (omega arith) at)));
        earlier = λ i x below. (
            let n = get_or (numbers_in d) i x in
            let (least, most) = before k d (omega arith) at i x below in
            subst (λ m. m ≤ length own) (sym (number_kept numbers (number ∷ []) n (least, most))) (r.few (n - 1) 0 (omega (arith, least, most))));
      }

      own_kept : (j : ℕ) (e : Deriv) → j < k + 1 → IsMarked marks j → slice_get derivs j ≡ Some e → IsKeptAt new (numbers ++ number ∷ []) j e
      own_kept j e below is there = elim (cases_eq j k) [
        | inl same ↦ subst (λ i. IsKeptAt new (numbers ++ number ∷ []) i e) (sym same)
            (subst (IsKeptAt new (numbers ++ number ∷ []) k) (same_Some d e (sym at ∙ subst (λ i. slice_get derivs i ≡ Some e) same there)) last_one)
        | inr other ↦ kept_still own (renumbered numbers d ∷ []) numbers (number ∷ []) j e (before j e (omega arith) there) (r.kept j e (omega arith) is there)
      ]

      own_only : (i : ℕ) → i < length new → (j : ℕ) × IsMarked marks j × (slice_get (numbers ++ number ∷ []) j ≡ Some (i + 1))
      own_only i below = elim (cases_eq i (length own)) [
        | inl same ↦ (k, here, subst (λ m. slice_get (numbers ++ number ∷ []) k ≡ Some (m + 1)) (sym same) (number_at_end number))
        | inr other ↦ (let (j, is, e) = r.only i (omega (arith, other, below, longer)) in (j, is, got_kept numbers (number ∷ []) j (i + 1) e))
      ]

  pub one_put : (b : Bool) (new : List Deriv) (number : ℕ) → slice_get marks k ≡ Some b → Puts b own new (renumbered numbers d) number
      → AreRenumbered derivs marks new (numbers ++ number ∷ []) (k + 1)
  one_put true new number is put =
      subst (λ l. AreRenumbered derivs marks l (numbers ++ number ∷ []) (k + 1)) (sym put.is)
      (subst (λ n. AreRenumbered derivs marks (own ++ renumbered numbers d ∷ []) (numbers ++ n ∷ []) (k + 1)) (sym put.number_is) (one_kept is))
  one_put false new number is put =
      subst (λ l. AreRenumbered derivs marks l (numbers ++ number ∷ []) (k + 1)) (sym put.0)
      (subst (λ n. AreRenumbered derivs marks own (numbers ++ n ∷ []) (k + 1)) (sym put.1)
      (one_left (λ m. true≢false (same_Some true false (sym m ∙ is)))))
