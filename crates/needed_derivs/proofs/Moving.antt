-- What the derivations that are kept spell, and what the path under new numbers unfolds to.
use Rattle.std.proofs.Common.{◌≡◌, ℕ, zero, suc, ◌+◌, ◌-◌, Bool, true, List, [], ◌∷◌, Contains, Some, length, map, slice_get, refl, ap, sym, subst, ◌∙◌, arith}
use Rattle.std.proofs.lemmas.List.{map-append}
use Rattle.std.proofs.lemmas.List.Elements.{Contains-append_left, Contains-append_right}
use Rattle.std.proofs.lemmas.Option.{slice_get_within}
use Rattle.affine_prog.specs.declared.Program.{Program}
use Rattle.refute_path.specs.declared.derivations.Deriv.{Deriv}
use Rattle.refute_path.specs.declared.derivations.Deriv.TheVariants.{Opening, Step, Call}
use Rattle.refute_path.specs.Derivations.{Spells, opening, step, call, IsSound, Unfolds, last, next}
use Rattle.needed_derivs.specs.Needed.{IsNumberUpTo, numbers_in, IsNeeded, on_path, named}
use Rattle.needed_derivs.specs.Marks.{IsMarked, HasMark, AreMarks}
use Rattle.needed_derivs.specs.Renumbered.{number_at, renumbered, IsKeptAt, AreRenumbered}
use Rattle.needed_derivs.proofs.Growing.{numbers_renumbered, new_number}

pub contains_map : (f : ℕ → ℕ) (xs : List ℕ) (n : ℕ) → Contains xs n → Contains (map f xs) (f n)
contains_map f [] n (k, below, e) = absurd (omega arith)
contains_map f (x ∷ xs) n (zero, below, e) = (0, omega arith, ap f e)
contains_map f (x ∷ xs) n (suc k, below, e) = let (j, within, is) = contains_map f xs n (k, omega arith, e) in (suc j, omega arith, is)

module _ (derivs own : List Deriv) (path numbers : List ℕ) (marks : List Bool) (m : AreMarks derivs path marks) (r : AreRenumbered derivs marks own numbers (length derivs)) where
  new : ℕ → ℕ
  new n = number_at numbers n

  mark_at : (n k : ℕ) → n ≡ k + 1 → HasMark marks n → IsMarked marks k
  mark_at n k e (j, is, marked) = let same : j ≡ k = omega arith in subst (IsMarked marks) same marked

  kept_at : (k : ℕ) (d : Deriv) → IsMarked marks k → slice_get derivs k ≡ Some d → IsKeptAt own numbers k d
  kept_at k d is at = r.kept k d (slice_get_within derivs k d at) is at

  module _ (program : Program) where
    pub spelled : (n p u : ℕ) (x : List ℕ) → Spells program derivs n p u x → HasMark marks n → Spells program own (number_at numbers n) p u x
    spelled n p u x (opening k n' p' u' slots m' at is within there row map_is) has =
        let s = kept_at k (Opening p slots) (mark_at n k is has) at in
        opening s.place (number_at numbers n) p u slots x s.there (new_number numbers n k s.place is s.number) within there row map_is
    spelled n p v x (step k n' b e p' u v' assigns words m' made' at is earlier before along choice map_is) has =
        let here = mark_at n k is has in
        let s = kept_at k (Step b e words) here at in
        let own_before = spelled b p u m' before (m.closed k (Step b e words) here at b (0, omega arith, refl)) in
        step s.place (number_at numbers n) (number_at numbers b) e p u v assigns words m' x s.there (new_number numbers n k s.place is s.number)
        (s.earlier 0 0 (omega arith)) own_before along choice map_is
    spelled n p v x (call k n' b e c p' q u v' assigns m' callee made' at is earlier earlier_callee before along none over map_is) has =
        let here = mark_at n k is has in
        let s = kept_at k (Call b e c) here at in
        let own_before = spelled b p u m' before (m.closed k (Call b e c) here at b (0, omega arith, refl)) in
        let own_over = spelled c q _ callee over (m.closed k (Call b e c) here at c (1, omega arith, refl)) in
        call s.place (number_at numbers n) (number_at numbers b) e (number_at numbers c) p q u v assigns m' callee x s.there (new_number numbers n k s.place is s.number)
        (s.earlier 0 0 (omega arith)) (s.earlier 1 0 (omega arith)) own_before along none own_over map_is

    pub sound_still : IsSound program derivs → IsSound program own
    sound_still sound i below =
        let (j, is, number) = r.only i below in
        let size = m.size in
        let within = slice_get_within marks j true is in
        let s = sound j (omega (arith, size, within)) in
        record {
          proc = s.proc;
          node = s.node;
          map = s.map;
          spells = subst (λ n. Spells program own n s.proc s.node s.map) (new_number numbers (j + 1) j i refl number)
              (spelled (j + 1) s.proc s.node s.map s.spells (j, refl, is));
        }

    pub unfolded : (start : List ℕ) (part : List ℕ) (u : ℕ) (v : List ℕ) → Unfolds program derivs start part u v → ((n : ℕ) → Contains part n → HasMark marks n)
        → Unfolds program own start (map (number_at numbers) part) u v
    unfolded start part u v (last n u' path' m' v' is spells value) has =
        last (number_at numbers n) u (map (number_at numbers) part) m' v (ap (map (number_at numbers)) is)
        (spelled n program.start u m' spells (has n (subst (λ l. Contains l n) (sym is) (0, omega arith, refl)))) value
    unfolded start part w v (next n q u v' w' before path' longer m' state after unfolds longer_is contains none spells value) has =
        let shorter : (x : ℕ) → Contains path' x → HasMark marks x = λ x c. has x (subst (λ l. Contains l x) (sym longer_is) (Contains-append_left path' (n ∷ []) x c)) in
        next (number_at numbers n) q u v' w before (map (number_at numbers) path') (map (number_at numbers) part) m' state v
        (unfolded start path' u state unfolds shorter)
        (ap (map (number_at numbers)) longer_is ∙ map-append (number_at numbers) path' (n ∷ []))
        contains none
        (spelled n q w m' spells (has n (subst (λ l. Contains l n) (sym longer_is) (Contains-append_right path' (n ∷ []) n (0, omega arith, refl)))))
        value

  needed_has : (n : ℕ) → IsNeeded derivs path n → HasMark marks n
  needed_has n (on_path n' c) = m.path_marked n c
  needed_has n (named n' k d h at c) = m.closed k d (mark_at (k + 1) k refl (needed_has (k + 1) h)) at n c

  needed_still : (n : ℕ) → IsNeeded derivs path n → IsNeeded own (map (number_at numbers) path) (number_at numbers n)
  needed_still n (on_path n' c) = on_path (number_at numbers n) (contains_map (number_at numbers) path n c)
  needed_still n (named n' k d h at c) =
      let s = kept_at k d (mark_at (k + 1) k refl (needed_has (k + 1) h)) at in
      named (number_at numbers n) s.place (renumbered numbers d)
      (subst (IsNeeded own (map (number_at numbers) path)) (new_number numbers (k + 1) k s.place refl s.number) (needed_still (k + 1) h))
      s.there
      (subst (λ l. Contains l (number_at numbers n)) (sym (numbers_renumbered numbers d)) (contains_map (number_at numbers) (numbers_in d) n c))

  pub all_needed : (n : ℕ) → IsNumberUpTo (length own) n → IsNeeded own (map (number_at numbers) path) n
  all_needed n (least, most) =
      let (j, is, number) = r.only (n - 1) (omega (arith, least, most)) in
      let same : n - 1 + 1 ≡ n = omega (arith, least) in
      subst (IsNeeded own (map (number_at numbers) path)) (new_number numbers (j + 1) j (n - 1) refl number ∙ same) (needed_still (j + 1) (m.only j is))
