use Rattle.std.proofs.Common.{List, ℕ, map, Contains, subst, sym}
use Rattle.row_modules.specs.Modules.{SameModule}
use Rattle.row_modules.specs.Bases.{IsLeadingBasis}
use Rattle.lead_basis.proofs.Laws.{basis_rows}
use Rattle.narrow_solver.specs.Narrow.{scaled}
use Rattle.narrow_solver.proofs.Gathering.{scaled_none, scaled_more, scaled_all}
use Rattle.narrow_solver.proofs.solve.scaled_basis.Goals as goal

pub loop-row-init : goal.loop-row-init
loop-row-init g c =
    let b = subst (λ (x : List (List ℕ)). IsLeadingBasis 17 x) (sym c.rows-row-items.ensures) c.known.ensures.basis in
    rw c.new-basis.ensures (scaled_none c.rows-row-items.result.now (basis_rows 17 c.rows-row-items.result.now b))

pub loop-row-preserved : goal.loop-row-preserved
loop-row-preserved g c =
    let b = subst (λ (x : List (List ℕ)). IsLeadingBasis 17 x) (sym c.rows-row-items.ensures) c.known.ensures.basis in
    let told = c.in_ok-insert.ensures in
    scaled_more c.rows-row-items.result.now (basis_rows 17 c.rows-row-items.result.now b) c.loop-row.basis c.row-item.result c.scaled_row.result c.insert.new.self c.loop-row.row-index
    c.loop-row-test.true c.row-item.is c.scaled_row.ensures told.adds.between.basis told.adds.added told.same_module c.loop-row.invariant

pub returns : goal.returns
returns g c =
    let b = subst (λ (x : List (List ℕ)). IsLeadingBasis 17 x) (sym c.rows-row-items.ensures) c.known.ensures.basis in
    subst (λ (x : List (List ℕ)). SameModule 17 (Contains c.loop-row.basis) (Contains (map scaled x))) c.rows-row-items.ensures
    (scaled_all c.rows-row-items.result.now (basis_rows 17 c.rows-row-items.result.now b) c.loop-row.basis c.loop-row.row-index c.loop-row-test.false c.loop-row.invariant)
