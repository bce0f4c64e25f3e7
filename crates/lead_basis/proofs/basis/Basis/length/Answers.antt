use Rattle.std.proofs.Common.{ℕ, ◌-◌, List, ap, sym, subst, ◌∙◌, arith}
use Rattle.std.specs.Int.{w64, trailing_zeros}
use Rattle.word_rows.specs.Rows.{pivot}
use Rattle.row_modules.specs.Bases.{IsLeadingBasis, used_positions}
use Rattle.lead_basis.proofs.Taking.{leads_at}
use Rattle.lead_basis.proofs.Lengths.{length_bound, length_more}
use Rattle.lead_basis.proofs.basis.Basis.length.Goals as goal

pub overflow_add-sum : goal.overflow_add-sum
overflow_add-sum g c =
    let rows = c.deref-row-items.result.now in
    let basis = subst (λ (x : List (List ℕ)). IsLeadingBasis g.row.N x) (sym c.deref-row-items.ensures.value) c.self.invariant.2 in
    let bound = (length_bound g.row.N c.deref-row-items.result.now basis).1 in
    let sum = c.loop-row.invariant in
    let small = c.pivot_length-sum.ensures.small in
    let within = c.self.invariant.1 in
    omega arith

pub loop-row-preserved : goal.loop-row-preserved
loop-row-preserved g c =
    let basis = subst (λ (x : List (List ℕ)). IsLeadingBasis g.row.N x) (sym c.deref-row-items.ensures.value) c.self.invariant.2 in
    let below = c.loop-row-test.true in
    let leads = leads_at g.row.N c.deref-row-items.result.now c.loop-row.row-index c.row-item.result basis below in
    let one = c.pivot_length-sum.ensures.length (rw c.row-item.is leads.within) in
    let more = length_more c.deref-row-items.result.now c.loop-row.row-index c.row-item.result below in
    let same = ap (λ (x : List ℕ). 64 - trailing_zeros w64 (pivot x)) c.row-item.is in
    let sum = c.loop-row.invariant in
    omega arith

pub returns-clause-bound : goal.returns-clause-bound
returns-clause-bound g c =
    let basis = subst (λ (x : List (List ℕ)). IsLeadingBasis g.row.N x) (sym c.deref-row-items.ensures.value) c.self.invariant.2 in
    let bound = (length_bound g.row.N c.deref-row-items.result.now basis).0 in
    let same = ap (λ (x : List (List ℕ)). used_positions g.row.N x) (c.deref-row-items.ensures.value ∙ c.self.view_is) in
    let sum = c.loop-row.invariant in
    omega arith
