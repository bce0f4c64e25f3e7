-- What fresh watches of the four kinds find is the verdict of each kind.
use Rattle.std.proofs.Common.{◌≡◌, ℕ, ◌≤◌, List, [], ◌∷◌, map, replicate, Option, None, refl, ap₂, sym, subst, ◌∙◌, arith}
use Rattle.std.specs.List.{AllZip, AllByRecursion}
use Rattle.run_watch.specs.Runs.{IsVerdict, Sight, verdict}
use Rattle.run_watch.specs.declared.context.Found.{Found}
use Rattle.run_answers.specs.Answers.{findings, four_kinds}

module _ {W : Type 0} (kind : W → ℕ) (state : W → Option Found) (seen : List Sight) where
  abbrev Finds : W → Option Found → Type 0
  Finds w f = IsVerdict (kind w) (state w) seen f

  abbrev IsOfFour : ℕ → Type 0
  IsOfFour k = (1 ≤ k) × (k ≤ 4)

  found_one : (w : W) (f : Option Found) (k : ℕ) → kind w ≡ k → state w ≡ None → IsOfFour k → Finds w f → f ≡ verdict k None seen
  found_one w f k is fresh of finds =
      finds (subst (λ n. 1 ≤ n) (sym is) of.0) (subst (λ n. n ≤ 4) (sym is) of.1)
      ∙ ap₂ (λ n s. verdict n s seen) is fresh

  found_each : (ks : List ℕ) (ws : List W) (fs : List (Option Found)) → AllByRecursion IsOfFour ks → map kind ws ≡ ks
      → map state ws ≡ map (λ k. None) ks → AllZip Finds ws fs → fs ≡ map (λ k. verdict k None seen) ks
  found_each [] [] [] of kinds fresh finds = refl
  found_each [] [] (f ∷ fs) of kinds fresh finds = absurd finds
  found_each [] (w ∷ ws) fs of kinds fresh finds = absurd cc
  found_each (k ∷ ks) [] fs of kinds fresh finds = absurd cc
  found_each (k ∷ ks) (w ∷ ws) [] of kinds fresh finds = absurd finds
  found_each (k ∷ ks) (w ∷ ws) (f ∷ fs) of kinds fresh finds =
      ap₂ (λ g gs. g ∷ gs) (found_one w f k (cc) (cc) of.0 finds.0) (found_each ks ws fs of.1 (cc) (cc) finds.1)

  four_of_four : AllByRecursion IsOfFour four_kinds
  four_of_four =
      ((omega arith, omega arith), ((omega arith, omega arith), ((omega arith, omega arith), ((omega arith, omega arith), tt))))

  pub found_all : (ws : List W) (fs : List (Option Found)) → map kind ws ≡ four_kinds → map state ws ≡ replicate 4 None
      → AllZip Finds ws fs → fs ≡ findings seen
  found_all ws fs kinds fresh finds = found_each four_kinds ws fs four_of_four kinds fresh finds
