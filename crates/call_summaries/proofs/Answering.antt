-- What is answered, from what is solved.
use Rattle.std.proofs.Common.{◌≡◌, ℕ, zero, suc, ◌<◌, Bool, true, false, List, [], Contains, length, map, replicate, get_or, refl, ap, sym, subst, ◌∙◌}
use Rattle.std.proofs.lemmas.Bool.{false≢true}
use Rattle.std.proofs.lemmas.List.{get_or-map, length-map}
use Rattle.row_modules.specs.Modules.{IsWithin, SameModule}
use Rattle.row_modules.proofs.Laws.{spans_more}
use Rattle.affine_prog.specs.declared.Program.{Program}
use Rattle.affine_prog.specs.declared.Proc.{Proc}
use Rattle.affine_prog.specs.Programs.{exit_of, owner_of, IsWellFormed}
use Rattle.affine_prog.specs.LevelPaths.{LevelPath}
use Rattle.affine_prog.specs.Spans.{rows_at, IsMapTo, IsMapOf, AreLevels, AreExits}
use Rattle.call_summaries.specs.Solutions.{IsWanted, OthersStay, IsSolved}
use Rattle.call_summaries.proofs.ByNumber.{exit_at}

pub all_wanted : (n p : ℕ) → IsWanted (replicate n true) p
all_wanted zero p = refl
all_wanted (suc n) zero = refl
all_wanted (suc n) (suc p) = all_wanted n p

pub others_none : (program : Program) (wanted : List Bool) → wanted ≡ replicate (length program.procs) true → OthersStay program wanted
others_none program wanted is p m other path = other (rw is (all_wanted (length program.procs) p))

pub solved_levels : (program : Program) (wanted : List Bool) (bases : List (List (List ℕ))) → wanted ≡ replicate (length program.procs) true → IsSolved program wanted bases → AreLevels program bases
solved_levels program wanted bases is s = record {
  each = s.each;
  exact = λ u within. record { there = s.sound u; back = s.exact u (rw is (all_wanted (length program.procs) (owner_of program u))) };
}

pub solved_exits : (program : Program) (formed : IsWellFormed program) (wanted : List Bool) (bases exits : List (List (List ℕ))) → OthersStay program wanted → IsSolved program wanted bases
    → exits ≡ map (λ (proc : Proc). rows_at bases proc.exit) program.procs → AreExits program exits
solved_exits program formed wanted bases exits others s is = record {
  each = ap (λ (l : List (List (List ℕ))). length l) is ∙ length-map program.procs (λ (proc : Proc). rows_at bases proc.exit);
  exact = λ p within. rw (rows_are p within) (at_exit p (formed.procs p within).exit_owner);
} where
  none : Proc
  none = record { entry = 0; exit = 0; slots = 0 }

  rows_are : (p : ℕ) → p < length program.procs → rows_at exits p ≡ rows_at bases (exit_of program p)
  rows_are p within =
      ap (λ (l : List (List (List ℕ))). rows_at l p) is ∙ get_or-map (λ (proc : Proc). rows_at bases proc.exit) program.procs p none [] within ∙ ap (rows_at bases) (sym (exit_at program p none within))

  at_exit : (p : ℕ) → owner_of program (exit_of program p) ≡ p → SameModule 289 (Contains (rows_at bases (exit_of program p))) (IsMapOf program p)
  at_exit p own =
      let x = exit_of program p in
      subst (λ q. SameModule 289 (Contains (rows_at bases x)) (λ m. LevelPath program q x m)) own (record { there = s.sound x; back = which (get_or wanted p true) refl })
    where
      which : (b : Bool) → get_or wanted p true ≡ b → IsWithin 289 (IsMapTo program (exit_of program p)) (Contains (rows_at bases (exit_of program p)))
      which true e = s.exact (exit_of program p) (rw own e)
      which false e =
          spans_more 289 (IsMapTo program (exit_of program p)) (Contains (rows_at bases (exit_of program p)))
          (λ m path. absurd (others p m (λ f. false≢true (sym e ∙ f)) (subst (λ q. LevelPath program q (exit_of program p) m) own path)))
