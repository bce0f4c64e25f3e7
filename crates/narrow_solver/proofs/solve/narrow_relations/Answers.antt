use Rattle.std.proofs.Common.{◌↔◌, List, ℕ, Contains, refl, subst}
use Rattle.row_modules.specs.Modules.{IsCombination}
use Rattle.row_modules.specs.Bases.{IsReduced}
use Rattle.row_modules.specs.Forms.{Annihilates}
use Rattle.relation_solver.specs.declared.Relations.{Relations}
use Rattle.relation_solver.specs.Solving.{OnRows}
use Rattle.lead_basis.proofs.Laws.{basis_rows}
use Rattle.narrow_solver.proofs.Holding.{zero_alone, kept_answer}
use Rattle.narrow_solver.proofs.solve.narrow_relations.Goals as goal

pub returns-in-Unreached-clause-unreached : goal.returns-in-Unreached-clause-unreached
returns-in-Unreached-clause-unreached c =
    let z = zero_alone c.args.states.now c.in_ok-multiples.multiples (basis_rows 17 c.args.states.now c.known.ensures.basis) c.in_ok-multiples.ensures in
    (λ e. z.0 (c.in_ok-relations.ensures.unreached.0 c.in-Unreached.is), λ n. refl)

pub returns-clause-unreached : goal.returns-clause-unreached
returns-clause-unreached c =
    let z = zero_alone c.args.states.now c.in_ok-multiples.multiples (basis_rows 17 c.args.states.now c.known.ensures.basis) c.in_ok-multiples.ensures in
    let i = c.in-Rows.is in
    (λ e. absurd (cc), λ n. let u = c.in_ok-relations.ensures.unreached.1 (z.1 n) in absurd (cc))

pub returns-clause-rows : goal.returns-clause-rows
returns-clause-rows c =
    let all = subst (λ (r : Relations). OnRows r (λ rows. (a : List ℕ) → IsCombination 17 (Contains rows) a ↔ Annihilates c.args.visible (IsCombination 17 (Contains c.in_ok-multiples.multiples)) a)) c.in-Rows.is c.in_ok-relations.ensures.all in
    let reduced = subst (λ (r : Relations). OnRows r (λ rows. IsReduced rows)) c.in-Rows.is c.in_ok-relations.ensures.reduced in
    let e = c.in_ok-rows-in-Rows.ensures in
    rw e (kept_answer c.args.states.now c.in_ok-multiples.multiples (basis_rows 17 c.args.states.now c.known.ensures.basis) c.in_ok-multiples.ensures
    c.args.visible c.in-Rows.basis c.known-in-Rows.ensures.basis reduced all)
