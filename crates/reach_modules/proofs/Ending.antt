-- At the end modules that are closed under moves have all states.
use Rattle.std.proofs.Common.{◌≡◌, ℕ, List, Contains, All, length, refl}
use Rattle.row_modules.specs.Modules.{IsModule}
use Rattle.row_modules.specs.Bases.{IsLeadingBasis}
use Rattle.row_modules.proofs.Laws.{combinations, module_least}
use Rattle.map_modules.specs.Matrices.{apply}
use Rattle.affine_prog.specs.declared.Program.{Program}
use Rattle.affine_prog.specs.Programs.{entry_of, IsWellFormed}
use Rattle.affine_prog.specs.Spans.{IsStateAt, AreReached}
use Rattle.row_engine.specs.States.{State, rows_at, InModule}
use Rattle.row_engine.specs.Turns.{NoJoins, IsSound, IsClosed}
use Rattle.row_engine.proofs.Members.{all_rows}
use Rattle.reach_modules.specs.Moves.{IsFirst}
use Rattle.reach_modules.specs.Turns.{MakesOf}
use Rattle.reach_modules.proofs.Spanning.{applied_into}
use Rattle.reach_modules.proofs.Moving.{states_in}

module _ (program : Program) (formed : IsWellFormed program) (s : State) (nodes : length s.bases ≡ program.nodes) (all : All (IsLeadingBasis 17) s.bases) (sound : IsSound 17 (IsStateAt program) s)
    (firsts : (v : List ℕ) → IsFirst program v → InModule 17 s (entry_of program program.start) v) (closed : IsClosed 17 (MakesOf program) NoJoins (λ u v. Contains (rows_at s u) v) s) where
  modules : (u : ℕ) → IsModule 17 (InModule 17 s u)
  modules u = combinations 17 (Contains (rows_at s u)) (all_rows 17 s.bases all u)

  pub reached_at_end : AreReached program s.bases
  reached_at_end = record {
    each = nodes;
    exact = λ u within. record {
      there = sound u;
      back = module_least 17 (InModule 17 s u) (modules u) (IsStateAt program u)
          (states_in program formed (InModule 17 s) firsts
          (λ v x y m h move. applied_into m (Contains (rows_at s v)) (InModule 17 s x) (all_rows 17 s.bases all v) (modules x) (λ z k. closed.alone v x z (apply m z) k (m, move, refl)) y h) u);
    };
  }
