use Rattle.std.proofs.Common.{List, ℕ, Contains, subst, sym}
use Rattle.row_modules.specs.Modules.{SameModule}
use Rattle.lead_basis.proofs.Uniqueness.{turned, transitive, unique_reduced}
use Rattle.lead_basis.proofs.basis.Basis.reduced.Goals as goal

pub returns-clause-unique : goal.returns-clause-unique
returns-clause-unique g c = λ rows basis reduced same.
    let one = c.reduce.ensures in
    let same_old = subst (λ (x : List (List ℕ)). SameModule g.row.N (Contains rows) (Contains x)) (sym c.self.view_is) same in
    unique_reduced g.row.N rows c.reduce.new.rows.items basis one.basis reduced one.reduced
    (transitive g.row.N (Contains rows) (Contains c.self.inside.rows.items) (Contains c.reduce.new.rows.items) same_old (turned g.row.N (Contains c.reduce.new.rows.items) (Contains c.self.inside.rows.items) one.same_module))
