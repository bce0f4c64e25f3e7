use Rattle.std.proofs.Common.{◌≡◌, Bool, true, false, not, List, ℕ, refl, ap, sym, ◌∙◌, subst}
use Rattle.row_modules.specs.Bases.{IsLeadingBasis}
use Rattle.lead_basis.specs.Remainders.{IsRemainder}
use Rattle.lead_basis.proofs.Remains.{member_from_zero, zero_from_member}
use Rattle.lead_basis.proofs.basis.Basis.member.Goals as goal

true_from_not : (b : Bool) → not b ≡ false → b ≡ true
true_from_not true e = refl
true_from_not false e = sym e

pub returns : goal.returns
returns g c =
    let same : c.deref.result.now ≡ c.args.self.now = c.deref.ensures.value ∙ c.self.view_is in
    let basis : IsLeadingBasis g.row.N c.args.self.now = subst (λ (x : List (List ℕ)). IsLeadingBasis g.row.N x) c.self.view_is c.self.invariant.2 in
    let left : IsRemainder g.row.N c.args.self.now c.args.row.now c.take_multiples.new.row =
    subst (λ (x : List (List ℕ)). IsRemainder g.row.N x c.args.row.now c.take_multiples.new.row) same c.take_multiples.ensures in (
      λ h. member_from_zero g.row.N c.args.self.now c.args.row.now c.take_multiples.new.row basis left (c.lead.ensures.zero.0 (c.is_none.ensures ∙ ap not h)),
      λ m. let z = c.lead.ensures.zero.1 (zero_from_member g.row.N c.args.self.now c.args.row.now c.take_multiples.new.row basis left m) in true_from_not c.is_none.result (sym c.is_none.ensures ∙ z),
    )
