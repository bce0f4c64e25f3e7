-- The constant of a state is 1, so a node at which it is claimed to be 0 is not reached.
use Rattle.std.proofs.Common.{◌≡◌, ℕ, ◌*◌, slice_index, ap, arith}
use Rattle.word_rows.specs.Words.{word}
use Rattle.word_rows.specs.Rows.{dot_sum, dot, unit}
use Rattle.word_rows.proofs.Laws.{dot_sum-unit}
use Rattle.affine_prog.specs.declared.Program.{Program}
use Rattle.affine_prog.specs.Programs.{IsWellFormed}
use Rattle.affine_prog.specs.Relations.{IsReached, Holds}
use Rattle.affine_prog.proofs.Lemmas.{open_state}

pub nowhere_zero : (program : Program) (u : ℕ) → IsWellFormed program → Holds program u (unit 17 16) → IsReached program u → ⊥
nowhere_zero program u w holds r =
    let state = open_state program w r.start r.is_start u r.state r.path in
    let constant = state.constant in
    let sum : dot_sum (unit 17 16) r.state ≡ 1 * slice_index r.state 16 = dot_sum-unit 1 17 16 r.state (omega arith) in
    let one : dot_sum (unit 17 16) r.state ≡ 1 = omega (arith, sum, constant) in
    let is : dot (unit 17 16) r.state ≡ 1 = ap word one in
    let zero = holds.zero r.start r.state r.is_start r.path in
    absurd (omega (arith, is, zero))
