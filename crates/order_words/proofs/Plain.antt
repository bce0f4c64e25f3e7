-- Orders whose texts are words of their own.
use Rattle.std.proofs.Common.{◌≡◌, ℕ, false, ◌==◌, List, [], ◌∷◌, refl, sym, subst, ne_eqb}
use Rattle.clap.specs.Faults.{walk_fault, defaults_fault}
use Rattle.clap.specs.Walk.{walked}
use Rattle.orders.specs.Orders.{track_command, is_taken, given_in}
use Rattle.order_words.specs.Words.{IsPlain, TakesPlain, alone, begun, empty}

module _ (c d : ℕ) (rest more : List ℕ) (first : (c == 45) ≡ false) (second : (d == 45) ≡ false) where
  both_begun : TakesPlain (c ∷ rest) (d ∷ more)
  unfolding track_command is_taken given_in walk_fault defaults_fault walked
  both_begun = record {
    behind = simp (first, second) refl;
    before = simp (first, second) refl;
    with_value = simp first refl;
    value_first = simp first refl;
  }

module _ (c : ℕ) (rest : List ℕ) (first : (c == 45) ≡ false) where
  over_empty : TakesPlain (c ∷ rest) []
  unfolding track_command is_taken given_in walk_fault defaults_fault walked
  over_empty = record { behind = simp first refl; before = simp first refl; with_value = simp first refl; value_first = simp first refl }

  over_alone : TakesPlain (c ∷ rest) (45 ∷ [])
  unfolding track_command is_taken given_in walk_fault defaults_fault walked
  over_alone = record { behind = simp first refl; before = simp first refl; with_value = simp first refl; value_first = simp first refl }

  of_empty : TakesPlain [] (c ∷ rest)
  unfolding track_command is_taken given_in walk_fault defaults_fault walked
  of_empty = record { behind = simp first refl; before = simp first refl; with_value = refl; value_first = refl }

  of_alone : TakesPlain (45 ∷ []) (c ∷ rest)
  unfolding track_command is_taken given_in walk_fault defaults_fault walked
  of_alone = record { behind = simp first refl; before = simp first refl; with_value = refl; value_first = refl }

both_empty : TakesPlain [] []
unfolding track_command is_taken given_in walk_fault defaults_fault walked
both_empty = record { behind = refl; before = refl; with_value = refl; value_first = refl }

both_alone : TakesPlain (45 ∷ []) (45 ∷ [])
unfolding track_command is_taken given_in walk_fault defaults_fault walked
both_alone = record { behind = refl; before = refl; with_value = refl; value_first = refl }

empty_over_alone : TakesPlain [] (45 ∷ [])
unfolding track_command is_taken given_in walk_fault defaults_fault walked
empty_over_alone = record { behind = refl; before = refl; with_value = refl; value_first = refl }

alone_over_empty : TakesPlain (45 ∷ []) []
unfolding track_command is_taken given_in walk_fault defaults_fault walked
alone_over_empty = record { behind = refl; before = refl; with_value = refl; value_first = refl }

by_list : (list : List ℕ) → IsPlain list → (file : List ℕ) → TakesPlain file [] → TakesPlain file (45 ∷ [])
    → ((d : ℕ) (more : List ℕ) → (d == 45) ≡ false → TakesPlain file (d ∷ more)) → TakesPlain file list
by_list list (empty is) file nothing dash other = subst (TakesPlain file) (sym is) nothing
by_list list (alone is) file nothing dash other = subst (TakesPlain file) (sym is) dash
by_list list (begun d more differ is) file nothing dash other = subst (TakesPlain file) (sym is) (other d more (ne_eqb d 45 differ))

pub plain_taken : (file list : List ℕ) → IsPlain file → IsPlain list → TakesPlain file list
plain_taken file list (empty is) plain =
    subst (λ (x : List ℕ). TakesPlain x list) (sym is) (by_list list plain [] both_empty empty_over_alone of_empty)
plain_taken file list (alone is) plain =
    subst (λ (x : List ℕ). TakesPlain x list) (sym is) (by_list list plain (45 ∷ []) alone_over_empty both_alone of_alone)
plain_taken file list (begun c rest differ is) plain = subst (λ (x : List ℕ). TakesPlain x list) (sym is) (by_list list plain (c ∷ rest)
    (over_empty c rest (ne_eqb c 45 differ)) (over_alone c rest (ne_eqb c 45 differ))
    (λ d more second. both_begun c d rest more (ne_eqb c 45 differ) second))
