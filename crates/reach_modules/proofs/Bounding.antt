-- The placements are bounded by the positions that states use.
use Rattle.std.proofs.Common.{◌≡◌, ◌≤◌, ◌+◌, ◌*◌, [], All, length, ap, ◌∙◌, arith}
use Rattle.row_modules.specs.Bases.{IsLeadingBasis}
use Rattle.lead_basis.proofs.Laws.{length_bound}
use Rattle.affine_prog.specs.declared.Program.{Program}
use Rattle.affine_prog.specs.Programs.{IsWellFormed}
use Rattle.affine_prog.specs.Spans.{rows_at, IsStateAt}
use Rattle.affine_prog.proofs.Lemmas.{open_states_use_few}
use Rattle.row_engine.specs.States.{State, total}
use Rattle.row_engine.specs.Turns.{IsSound}
use Rattle.row_engine.proofs.Members.{all_rows}
use Rattle.row_engine.proofs.Measure.{total_at_most}

pub few_used : (program : Program) → IsWellFormed program → (s : State) → All (IsLeadingBasis 17) s.bases → IsSound 17 (IsStateAt program) s → length s.bases ≡ program.nodes
    → total s.bases ≤ 64 * program.nodes * (program.width + 1)
few_used program formed s lead sound nodes =
    let t = total_at_most s.bases (64 * (program.width + 1)) (λ u below.
    let k = (length_bound 17 (rows_at s.bases u) (lead u [] below)).0 in
    let f = open_states_use_few program formed u (rows_at s.bases u) (all_rows 17 s.bases lead u) (sound u) in omega arith) in
    let e : 64 * (program.width + 1) * length s.bases ≡ 64 * program.nodes * (program.width + 1) = ap (λ n. 64 * (program.width + 1) * n) nodes ∙ (let r : 64 * (program.width + 1) * program.nodes ≡ 64 * program.nodes * (program.width + 1) = omega arith in r) in
    omega arith
