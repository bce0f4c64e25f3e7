-- A counterexample with what is marked of another one, under new numbers.
use Rattle.std.proofs.Common.{◌≡◌, ℕ, Bool, List, length, map, ap, sym, subst, ◌∙◌}
use Rattle.affine_prog.specs.declared.Program.{Program}
use Rattle.refute_path.specs.declared.derivations.Break.{Break}
use Rattle.refute_path.specs.declared.derivations.Deriv.{Deriv}
use Rattle.refute_path.specs.Derivations.{Unfolds, IsBreak}
use Rattle.needed_derivs.specs.Needed.{IsNumberUpTo, IsNeeded}
use Rattle.needed_derivs.specs.Marks.{AreMarks}
use Rattle.needed_derivs.specs.Renumbered.{number_at, AreRenumbered}
use Rattle.needed_derivs.proofs.Moving.{sound_still, unfolded, all_needed}

pub record IsShort (found : Break) (own : List Deriv) (own_path numbers : List ℕ) (marks : List Bool) : Type 0 where
  pub marks_are : AreMarks found.derivs found.path marks
  pub kept : AreRenumbered found.derivs marks own numbers (length found.derivs)
  pub path_is : own_path ≡ map (number_at numbers) found.path

pub is_short : (found : Break) (own derivs : List Deriv) (own_path path told numbers : List ℕ) (told_marks marks : List Bool) → derivs ≡ found.derivs → path ≡ found.path
    → told ≡ numbers → told_marks ≡ marks → AreMarks derivs path marks → AreRenumbered derivs told_marks own numbers (length derivs) → own_path ≡ map (number_at told) path
    → IsShort found own own_path numbers marks
is_short found own derivs own_path path told numbers told_marks marks same_derivs same_path same_numbers same_marks m r is = record {
  marks_are = subst (λ p. AreMarks found.derivs p marks) same_path (subst (λ l. AreMarks l path marks) same_derivs m);
  kept = subst (λ l. AreRenumbered found.derivs l own numbers (length found.derivs)) same_marks
      (subst (λ l. AreRenumbered l told_marks own numbers (length l)) same_derivs r);
  path_is = is ∙ ap (map (number_at told)) same_path ∙ ap (λ n. map (number_at n) found.path) same_numbers;
}

module _ (found : Break) (own : List Deriv) (own_path numbers : List ℕ) (marks : List Bool) (s : IsShort found own own_path numbers marks) where
  pub break_still : (program : Program) (u : ℕ) (a : List ℕ) → IsBreak program u a found
      → IsBreak program u a (record { start = found.start; derivs = own; path = own_path; value = found.value })
  break_still program u a b = record {
    sound = sound_still found.derivs own found.path numbers marks s.marks_are s.kept program b.sound;
    is_start = b.is_start;
    state = b.state;
    unfolds = subst (λ l. Unfolds program own found.start l u b.state) (sym s.path_is)
        (unfolded found.derivs own found.path numbers marks s.marks_are s.kept program found.start found.path u b.state b.unfolds s.marks_are.path_marked);
    value_is = b.value_is;
    not_zero = b.not_zero;
  }

  pub short_needed : (n : ℕ) → IsNumberUpTo (length own) n → IsNeeded own own_path n
  short_needed n within =
      subst (λ l. IsNeeded own l n) (sym s.path_is) (all_needed found.derivs own found.path numbers marks s.marks_are s.kept n within)
