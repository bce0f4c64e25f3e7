-- A counterexample has its derivations in order.
use Rattle.std.proofs.Common.{◌≡◌, ℕ, zero, suc, ◌+◌, ◌≤◌, List, [], ◌∷◌, All, Some, length, slice_get, refl, sym, subst, ◌∙◌, arith}
use Rattle.std.proofs.lemmas.List.Elements.{All-push}
use Rattle.std.proofs.lemmas.Option.{same_Some, slice_get_within}
use Rattle.affine_prog.specs.declared.Program.{Program}
use Rattle.refute_path.specs.declared.answer.Refuted.{Refuted}
use Rattle.refute_path.specs.declared.answer.Refuted.TheVariants.{Holds, Broken}
use Rattle.refute_path.specs.declared.derivations.Deriv.{Deriv}
use Rattle.refute_path.specs.declared.derivations.Deriv.TheVariants.{Opening, Step, Call}
use Rattle.refute_path.specs.Answers.{IsRefuted}
use Rattle.refute_path.specs.Derivations.{Spells, opening, step, call, IsSound, Unfolds, last, next}
use Rattle.refute_path.proofs.Derived.{number_within}
use Rattle.needed_derivs.specs.Needed.{IsNumberUpTo, numbers_in, AreEarlier, IsOrderedIn}

module _ (program : Program) (derivs : List Deriv) where
  from_one : (n p u : ℕ) (m : List ℕ) → Spells program derivs n p u m → 1 ≤ n
  from_one n p u m (opening k n' p' u' slots m' at is within there row map_is) = omega (arith, is)
  from_one n p v m (step k n' b e p' u v' assigns words m' made at is earlier before along choice map_is) = omega (arith, is)
  from_one n p v m (call k n' b e c p' q u v' assigns m' callee made at is earlier earlier_callee before along none over map_is) = omega (arith, is)

  here : (j k : ℕ) (own d : Deriv) → slice_get derivs j ≡ Some own → slice_get derivs k ≡ Some d → k + 1 ≡ j + 1 → All (IsNumberUpTo j) (numbers_in own) → All (IsNumberUpTo k) (numbers_in d)
  here j k own d there at same all =
      let e : j ≡ k = omega arith in
      let one = same_Some own d (sym (subst (λ i. slice_get derivs i ≡ Some own) e there) ∙ at) in
      subst (λ (x : Deriv). All (IsNumberUpTo k) (numbers_in x)) one (subst (λ i. All (IsNumberUpTo i) (numbers_in own)) e all)

  one_number : (k n : ℕ) → IsNumberUpTo k n → All (IsNumberUpTo k) (n ∷ [])
  one_number k n is zero d below = is
  one_number k n is (suc i) d below = absurd (omega (arith, below))

  two_numbers : (k n m : ℕ) → IsNumberUpTo k n → IsNumberUpTo k m → All (IsNumberUpTo k) (n ∷ m ∷ [])
  two_numbers k n m is also zero d below = is
  two_numbers k n m is also (suc zero) d below = also
  two_numbers k n m is also (suc (suc i)) d below = absurd (omega (arith, below))

  spelled_earlier : (n k p u : ℕ) (m : List ℕ) (d : Deriv) → Spells program derivs n p u m → k + 1 ≡ n → slice_get derivs k ≡ Some d → All (IsNumberUpTo k) (numbers_in d)
  spelled_earlier n k p u m d (opening j n' p' u' slots m' there is within entry row map_is) same at =
      here j k (Opening p slots) d there at (same ∙ is) (λ i x below. absurd (omega (arith, below)))
  spelled_earlier n k p v m d (step j n' b e p' u v' assigns words m' made there is earlier before along choice map_is) same at =
      here j k (Step b e words) d there at (same ∙ is) (one_number j b (from_one b p u m' before, earlier))
  spelled_earlier n k p v m d (call j n' b e c p' q u v' assigns m' callee made there is earlier earlier_callee before along none over map_is) same at =
      here j k (Call b e c) d there at (same ∙ is) (two_numbers j b c (from_one b p u m' before, earlier) (from_one c q _ callee over, earlier_callee))

  sound_earlier : IsSound program derivs → AreEarlier derivs
  sound_earlier sound k d at = let s = sound k (slice_get_within derivs k d at) in spelled_earlier (k + 1) k s.proc s.node s.map d s.spells refl at

  unfolded_within : (start path : List ℕ) (u : ℕ) (v : List ℕ) → Unfolds program derivs start path u v → All (IsNumberUpTo (length derivs)) path
  unfolded_within start path u v (last n u' path' m v' is spells value) =
      subst (All (IsNumberUpTo (length derivs))) (sym is)
      (one_number (length derivs) n (from_one n program.start u m spells, number_within program derivs n program.start u m spells))
  unfolded_within start path w v (next n q u v' w' before path' longer m state after unfolds longer_is contains none spells value) =
      subst (All (IsNumberUpTo (length derivs))) (sym longer_is)
      (All-push (IsNumberUpTo (length derivs)) path' n (unfolded_within start path' u state unfolds) (from_one n q w m spells, number_within program derivs n q w m spells))

-- an answer that is right is so
pub refuted_ordered : (program : Program) (u : ℕ) (a : List ℕ) (answer : Refuted) → IsRefuted program u a answer → IsOrderedIn answer
refuted_ordered program u a Holds is = tt
refuted_ordered program u a (Broken found) is = record {
  earlier = sound_earlier program found.derivs is.sound;
  path_within = unfolded_within program found.derivs found.start found.path u is.state is.unfolds;
}
