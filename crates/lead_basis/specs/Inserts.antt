-- What adding a row to a leading-position basis does.
--
--   IsBetween n old row new     new is a leading-position basis, and its module has that of old and lies in that of old
--                               with the row
--   Adds n old row new result before after
--       a row was added with this answer, old and new are the rows, and before and after the counter:
--       between            at every answer, new lies between old and old with the row
--       added              at Ok the row is a combination of new
--       not_grown          the answer is false exactly where the row was a combination of old
--       memory             it was out of memory only where the row wasn't
--       counts_growth      where the module grew, the counter rose
--       counts_no_more     where it didn't, the counter stayed
--       counts_rows        at Ok the counter rose by at least the gain in rows
--       bounded            at every answer it rose by at most the gain in length
--   AddsFrom n from old row new result before after
--       the same of the rows from place `from` on, and the earlier ones stayed
--   HasPassed rows from position at     the rows from `from` up to `at` have leads before this position
--   HasLead rows from position at       such a place, where a row with this lead stands
--   LacksLead rows from position at     such a place, from which on all leads are after the position
use Rattle.std.specs.Prelude.{◌≡◌, ℕ, ◌+◌, ◌<◌, ◌≤◌, ◌↔◌, Bool, IsTrue, IsFalse, List, ◌∷◌, length, take, drop, All, HoldsAt, Contains, Result, IfOk, OnOk, OnErr}
use Rattle.std.specs.List.{AllWithin}
use Rattle.word_rows.specs.Rows.{lead}
use Rattle.row_modules.specs.Modules.{IsCombination, IsWithin}
use Rattle.row_modules.specs.Bases.{IsLeadingBasis, basis_length}

pub record IsBetween (n : ℕ) (old : List (List ℕ)) (row : List ℕ) (new : List (List ℕ)) : Type 0 where
  pub basis : IsLeadingBasis n new
  pub kept : IsWithin n (Contains old) (Contains new)
  pub within : IsWithin n (Contains new) (Contains (row ∷ old))

pub record Adds {E : Type 0} (n : ℕ) (old : List (List ℕ)) (row : List ℕ) (new : List (List ℕ)) (result : Result Bool E) (before after : ℕ) : Type 0 where
  pub between : IsBetween n old row new
  pub added : OnOk result (IsCombination n (Contains new) row)
  pub not_grown : IfOk result (λ grew. IsFalse grew ↔ IsCombination n (Contains old) row)
  pub memory : OnErr result (¬ IsCombination n (Contains old) row)
  pub never_falls : before ≤ after
  pub counts_growth : IfOk result (λ grew. IsTrue grew → before + 1 ≤ after)
  pub counts_no_more : IfOk result (λ grew. IsFalse grew → after ≡ before)
  pub counts_rows : OnOk result (length new + before ≤ length old + after)
  pub bounded : after + basis_length old ≤ before + basis_length new

pub record AddsFrom {E : Type 0} (n from : ℕ) (old : List (List ℕ)) (row : List ℕ) (new : List (List ℕ)) (result : Result Bool E) (before after : ℕ) : Type 0 where
  pub front : take from new ≡ take from old
  pub adds : Adds n (drop from old) row (drop from new) result before after

pub record HasPassed (rows : List (List ℕ)) (from position at : ℕ) : Type 0 where
  pub start : from ≤ at
  pub end : at ≤ length rows
  pub passed : AllWithin (λ r. lead r < position) rows from at

pub record HasLead (rows : List (List ℕ)) (from position at : ℕ) : Type 0 where
  pub reached : HasPassed rows from position at
  pub below : at < length rows
  pub here : HoldsAt (λ r. lead r ≡ position) rows at

pub record LacksLead (rows : List (List ℕ)) (from position at : ℕ) : Type 0 where
  pub reached : HasPassed rows from position at
  pub later : All (λ r. position < lead r) (drop at rows)
