-- The lines of derivations, one at a time.
use Rattle.std.proofs.Common.{◌≡◌, ℕ, zero, suc, ◌+◌, ◌<◌, List, [], ◌∷◌, ◌++◌, length, drop, get_or, refl, arith}
use Rattle.affine_prog.specs.declared.Program.{Program}
use Rattle.flow_points.specs.PointLists.{FlowPoints}
use Rattle.report_text.specs.declared.names.Name.{Name}
use Rattle.refute_path.specs.declared.derivations.Deriv.{Deriv}
use Rattle.refute_text.specs.Text.{line_text, lines_text}

-- from place i on, the derivation there comes first
pub lines_text-drop : (points : FlowPoints) (names : List Name) (program : Program) (n : ℕ) (derivs : List Deriv) (i : ℕ) (d : Deriv) → i < length derivs →
    lines_text points names program n (drop i derivs)
    ≡ line_text points names program n (get_or derivs i d) ++ lines_text points names program (n + 1) (drop (suc i) derivs)
lines_text-drop points names program n [] i d below = absurd (omega arith)
lines_text-drop points names program n (x ∷ derivs) zero d below = refl
lines_text-drop points names program n (x ∷ derivs) (suc i) d below = lines_text-drop points names program n derivs i d (omega arith)
