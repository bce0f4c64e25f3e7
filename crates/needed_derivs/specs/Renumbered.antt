-- Derivations under new numbers.
--
--   number_at numbers n            the new number of derivation number n
--   renumbered numbers deriv       the derivation with the new numbers of those that it names
--   Puts marked old new deriv number   the derivation stands at the end of the new list, and this is its number, where it is marked;
--                                  else the list is as it was, and the number is 0
--   IsKeptAt own numbers j d       the derivation d, which stood at place j, stands under its new number, behind those that it names
--   AreRenumbered derivs marks own numbers k   of the first k derivations the marked ones are kept so, and no others
use Rattle.std.specs.Prelude.{◌≡◌, ℕ, ◌+◌, ◌-◌, ◌<◌, ◌≤◌, Bool, true, false, List, All, Some, length, slice_get, slice_index}
use Rattle.refute_path.specs.declared.derivations.Deriv.{Deriv}
use Rattle.refute_path.specs.declared.derivations.Deriv.TheVariants.{Opening, Step, Call}
use Rattle.refute_path.specs.Derivations.{IsAppended}
use Rattle.needed_derivs.specs.Needed.{numbers_in}
use Rattle.needed_derivs.specs.Marks.{IsMarked}

abbrev pub number_at : List ℕ → ℕ → ℕ
number_at numbers n = slice_index numbers (n - 1)

abbrev pub renumbered : List ℕ → Deriv → Deriv
renumbered numbers (Opening p slots) = Opening p slots
renumbered numbers (Step before e choice) = Step (number_at numbers before) e choice
renumbered numbers (Call before e callee) = Call (number_at numbers before) e (number_at numbers callee)

abbrev pub Puts : Bool → List Deriv → List Deriv → Deriv → ℕ → Type 0
Puts true old new deriv number = IsAppended old new deriv number
Puts false old new deriv number = (new ≡ old) × (number ≡ 0)

pub record IsKeptAt (own : List Deriv) (numbers : List ℕ) (j : ℕ) (d : Deriv) : Type 0 where
  pub place : ℕ
  pub number : slice_get numbers j ≡ Some (place + 1)
  pub there : slice_get own place ≡ Some (renumbered numbers d)
  pub earlier : All (λ n. number_at numbers n ≤ place) (numbers_in d)

pub record AreRenumbered (derivs : List Deriv) (marks : List Bool) (own : List Deriv) (numbers : List ℕ) (k : ℕ) : Type 0 where
  pub count : length numbers ≡ k
  pub few : All (λ n. n ≤ length own) numbers
  pub kept : (j : ℕ) (d : Deriv) → j < k → IsMarked marks j → slice_get derivs j ≡ Some d → IsKeptAt own numbers j d
  pub only : (i : ℕ) → i < length own → (j : ℕ) × IsMarked marks j × (slice_get numbers j ≡ Some (i + 1))
