-- A row between names that are seen.
use Rattle.std.proofs.Common.{◌≡◌, ◌≢◌, ℕ, ◌<◌, List, slice_get, Some, ⊎_elim}
use Rattle.std.specs.Prelude.{slice_index}
use Rattle.std.proofs.lemmas.Bool.{cases_eq}
use Rattle.word_rows.specs.Rows.{IsRow}
use Rattle.row_modules.specs.Positions.{with_constant, IsZeroOutside}
use Rattle.row_modules.proofs.Laws.{in_not_out, zero_outside_below}
use Rattle.affine_prog.specs.Programs.{owner_of, visible_in}
use Rattle.affine_prog.specs.declared.Program.{Program}
use Rattle.flow_points.specs.PointLists.{FlowPoints, HasCode}
use Rattle.flow_points.specs.declared.code_points.CodePoint.{CodePoint}
use Rattle.report_text.specs.Names.{IsSeenAt}
use Rattle.report_text.specs.declared.names.Name.{Name}
use Rattle.affine_lift.specs.declared.width.Width.{Width}
use Rattle.affine_lift.specs.Lifting.{IsLiftedBy}
use Rattle.affine_lift.proofs.Cited.{visible_seen}

pub seen_visible : (w : Width) (points : FlowPoints) (names : List Name) (program : Program) (u : ℕ) (code : CodePoint) (row : List ℕ) → HasCode points
    → IsLiftedBy w points names program → slice_get points.points u ≡ Some code → IsRow 17 row
    → ((k : ℕ) → k < 16 → slice_index row k ≢ 0 → IsSeenAt names code.point.proc_entry k)
    → IsZeroOutside (with_constant (visible_in program (owner_of program u))) row
seen_visible w points names program u code row has_code is at own seen =
    zero_outside_below (visible_in program (owner_of program u)) row own.width
    (λ k below out. ⊎_elim (λ zero. zero)
    (λ some. absurd (in_not_out (visible_in program (owner_of program u)) k ((visible_seen points names program u code k has_code is at).1 (seen k below some)) out))
    (cases_eq (slice_index row k) 0))
