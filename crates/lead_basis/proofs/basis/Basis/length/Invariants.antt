use Rattle.std.proofs.Common.{◌≡◌, ◌+◌, drop}
use Rattle.row_modules.specs.Bases.{basis_length}
use Rattle.lead_basis.proofs.basis.Basis.length.Given as goal

abbrev pub invariant-loop-row : goal.invariant-loop-row
invariant-loop-row g l = l.sum + basis_length (drop l.row-index l.row-items) ≡ basis_length l.row-items
