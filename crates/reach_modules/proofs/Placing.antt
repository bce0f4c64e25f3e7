-- The places of bases of exits.
use Rattle.std.proofs.Common.{◌≡◌, ℕ, ◌+◌, ◌<◌, List, [], ◌∷◌, ◌++◌, Contains, map, length, get_or, ap, sym, subst, ◌∙◌, arith}
use Rattle.std.specs.List.{range_with_len}
use Rattle.std.proofs.lemmas.List.{length-map, map-id}
use Rattle.std.proofs.lemmas.List.FromFn.{length-range_with_len, get_or-range_with_len, map-range_with_len_more}
use Rattle.row_modules.specs.Modules.{SameModule}
use Rattle.affine_prog.specs.declared.Program.{Program}
use Rattle.affine_prog.specs.declared.Proc.{Proc}
use Rattle.affine_prog.specs.Programs.{exit_of, IsWellFormed}
use Rattle.affine_prog.specs.LevelPaths.{LevelPath}
use Rattle.affine_prog.specs.Spans.{rows_at, IsMapOf, AreLevels, AreExits}
use Rattle.reach_modules.specs.Tables.{ArePlaces}

-- places of the bases of exits, among levels and among exits
pub level_places : (program : Program) (levels : List (List (List ℕ))) (places : List ℕ) → IsWellFormed program → AreLevels program levels → places ≡ map (λ proc. proc.exit) program.procs → ArePlaces program levels places
level_places program levels places formed are is = rw is (record {
  each = length-map program.procs (λ (proc : Proc). proc.exit);
  within = λ q below. let o = formed.procs q below in let e = are.each in let x = o.exit in omega arith;
  exact = λ q below. let o = formed.procs q below in
      subst (λ p. SameModule 289 (Contains (rows_at levels (exit_of program q))) (LevelPath program p (exit_of program q))) o.exit_owner (are.exact (exit_of program q) o.exit);
})

pub exit_places : (program : Program) (exits : List (List (List ℕ))) (places : List ℕ) (n : ℕ) → AreExits program exits → n ≡ length program.procs → places ≡ range_with_len 0 n → ArePlaces program exits places
exit_places program exits places n are long is = rw (is, long) (record {
  each = length-range_with_len 0 (length program.procs);
  within = λ q below. let e = are.each in let i = at q below in omega arith;
  exact = λ q below. subst (λ k. SameModule 289 (Contains (rows_at exits k)) (IsMapOf program q)) (sym (at q below)) (are.exact q below);
}) where
  at : (q : ℕ) → q < length program.procs → get_or (range_with_len 0 (length program.procs)) q 0 ≡ q
  at q below = get_or-range_with_len 0 (length program.procs) q 0 below ∙ (let e : 0 + q ≡ q = omega arith in e)

pub numbers_more : (n : ℕ) → range_with_len 0 (n + 1) ≡ range_with_len 0 n ++ n ∷ []
numbers_more n = sym (map-id (range_with_len 0 (n + 1))) ∙ map-range_with_len_more (λ k. k) 0 n n (omega arith) ∙ ap (λ l. l ++ n ∷ []) (map-id (range_with_len 0 n))
