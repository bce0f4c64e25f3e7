use Rattle.std.proofs.Common.{◌↔◌, ℕ, List, ◌∷◌, Contains, Result, Bool, false, Ok, IsTrue, subst}
use Rattle.std.specs.Result.{OnOk, IfOk}
use Rattle.row_modules.specs.Bases.{IsLeadingBasis}
use Rattle.row_modules.specs.Modules.{IsWithin, SameModule}
use Rattle.lead_basis.specs.Whole.{HasWhole}
use Rattle.lead_basis.specs.declared.Memory.{Memory}
use Rattle.lead_basis.proofs.Growing.{adds_same_module, adds_growth}
use Rattle.lead_basis.proofs.Leading.{basis_rows}
use Rattle.lead_basis.proofs.Between.{adds_no_member}
use Rattle.lead_basis.proofs.Marked.{on_is_member}
use Rattle.lead_basis.proofs.basis.Basis.insert_marked.Goals as goal

pub returns-then-is_on-clause-adds : goal.returns-then-is_on-clause-adds
returns-then-is_on-clause-adds g c =
    let n = g.row.N in
    let basis : IsLeadingBasis n c.args.self.now = subst (IsLeadingBasis n) c.self.view_is c.self.invariant.2 in
    let whole : HasWhole n c.args.self.now c.self.inside.whole = subst (λ (rows : List (List ℕ)). HasWhole n rows c.self.inside.whole) c.self.view_is c.self.invariant.3 in
    let member = on_is_member n c.args.self.now (basis_rows n c.args.self.now basis) c.self.inside.whole whole c.args.row c.known.ensures.row (c.is_on.ensures c.if-is_on.true) in
    adds_no_member n c.args.self.now c.args.row c.args.steps.now basis member

pub returns-then-is_on-clause-same_module : goal.returns-then-is_on-clause-same_module
returns-then-is_on-clause-same_module g c =
    let n = g.row.N in
    let basis : IsLeadingBasis n c.args.self.now = subst (IsLeadingBasis n) c.self.view_is c.self.invariant.2 in
    adds_same_module n c.args.self.now c.args.row c.args.self.now basis c.known.ensures.row (Ok false) c.args.steps.now c.args.steps.now (returns-then-is_on-clause-adds g c)

pub returns-clause-same_module : goal.returns-clause-same_module
returns-clause-same_module g c =
    let n = g.row.N in
    let a = rw c.self.view_is at c.place.ensures.adds.adds in
    let same = adds_same_module n c.args.self.now c.args.row c.place.new.rows.items (rw (← c.self.view_is) c.self.invariant.2) c.known.ensures.row c.place.result c.args.steps.now c.place.new.steps a in
    subst (λ (r : Result Bool Memory). OnOk r (SameModule n (Contains c.place.new.rows.items) (Contains (c.args.row ∷ c.args.self.now)))) c.in_ok-grew.was same

pub returns-clause-grew : goal.returns-clause-grew
returns-clause-grew g c =
    let n = g.row.N in
    let a = rw c.self.view_is at c.place.ensures.adds.adds in
    let growth = adds_growth n c.args.self.now c.args.row c.place.new.rows.items (rw (← c.self.view_is) c.self.invariant.2) c.known.ensures.row c.place.result c.args.steps.now c.place.new.steps a in
    subst (λ (r : Result Bool Memory). IfOk r (λ grew. IsTrue grew ↔ (IsWithin n (Contains c.place.new.rows.items) (Contains c.args.self.now) → ⊥))) c.in_ok-grew.was growth
