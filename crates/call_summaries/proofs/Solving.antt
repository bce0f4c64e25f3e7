-- From the openings to the end, where the modules are those of the maps of level paths.
use Rattle.std.proofs.Common.{◌≡◌, ℕ, ◌+◌, ◌*◌, ◌≤◌, Bool, List, [], Contains, All, length, ap, arith}
use Rattle.row_modules.specs.Bases.{IsLeadingBasis}
use Rattle.row_modules.proofs.Laws.{combinations, module_least}
use Rattle.lead_basis.proofs.Laws.{length_bound}
use Rattle.affine_prog.specs.declared.Program.{Program}
use Rattle.affine_prog.specs.Programs.{owner_of, IsWellFormed}
use Rattle.affine_prog.specs.Spans.{IsMapTo}
use Rattle.affine_prog.proofs.Lemmas.{level_maps_use_few}
use Rattle.row_engine.specs.States.{State, rows_at, InModule, total}
use Rattle.row_engine.specs.Turns.{IsClosed}
use Rattle.row_engine.proofs.Members.{all_rows}
use Rattle.row_engine.proofs.Measure.{total_at_most}
use Rattle.call_summaries.specs.Sound.{AreSound}
use Rattle.call_summaries.specs.Openings.{Opens}
use Rattle.call_summaries.specs.Pushes.{MakesOf, JoinsOf}
use Rattle.call_summaries.specs.Solutions.{OthersStay, IsSolved}
use Rattle.call_summaries.specs.Work.{work_bound}
use Rattle.call_summaries.proofs.Exactness.{path_in_module}

-- the sum of the lengths is bounded by the positions that names use
pub narrow_bound : (program : Program) → IsWellFormed program → (s : State) → length s.bases ≡ program.nodes → All (IsLeadingBasis 289) s.bases → AreSound program s → total s.bases ≤ work_bound program
narrow_bound program formed s nodes all sound =
    let k = program.width + 1 in
    let h = total_at_most s.bases (64 * (k * k))
    (λ u below.
    let used = level_maps_use_few program formed u (rows_at s u) (all_rows 289 s.bases all u) (sound u) in
    let l = (length_bound 289 (rows_at s u) (all u [] below)).0 in omega arith) in
    let e = ap (λ (n : ℕ). 64 * (k * k) * n) nodes in omega (arith, e)

-- modules that began with the openings, and are closed
pub solved_at_end : (program : Program) → IsWellFormed program → (wanted : List Bool) → OthersStay program wanted → (s : State) → length s.bases ≡ program.nodes → All (IsLeadingBasis 289) s.bases → AreSound program s
    → Opens program (length program.procs) wanted s → IsClosed 289 (MakesOf program) (JoinsOf program) (λ u m. Contains (rows_at s u) m) s → IsSolved program wanted s.bases
solved_at_end program formed wanted others s nodes all sound opens closed = record {
  each = nodes;
  sound = sound;
  exact = λ u chosen m h. module_least 289 (InModule 289 s u) (combinations 289 (Contains (rows_at s u)) (all_rows 289 s.bases all u)) (IsMapTo program u)
      (λ x path. path_in_module program formed wanted others s all opens closed (owner_of program u) u x chosen path) m h;
}

pub opens_stay : (program : Program) (n : ℕ) (wanted : List Bool) (mid new : State) → ((u : ℕ) (m : List ℕ) → InModule 289 mid u m → InModule 289 new u m) → Opens program n wanted mid → Opens program n wanted new
opens_stay program n wanted mid new grown opens p below chosen words row = grown _ _ (opens p below chosen words row)
