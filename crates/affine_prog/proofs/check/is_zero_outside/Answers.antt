use Rattle.std.proofs.Common.{◌≡◌, ◌∙◌, false, inl, inr, refl, arith}
use Rattle.std.proofs.lemmas.Bool.{false≢true}
use Rattle.row_modules.specs.Positions.{has}
use Rattle.row_modules.proofs.Laws.{in_or_out, zero_outside_below, zero_below}
use Rattle.affine_prog.proofs.check.is_zero_outside.Goals as goal

pub returns-then-get-ne0 : goal.returns-then-get-ne0
returns-then-get-ne0 c = (
  λ t. absurd (false≢true t),
  λ zeros.
      let out : has c.args.set c.loop-k.k ≡ false = elim (in_or_out c.args.set c.loop-k.k) [ inl there ↦ let t = c.has.ensures.1 there in let f = c.if-not-has.true in absurd (cc) | inr out ↦ out ] in
      absurd (c.if-get-ne0.true (c.get.ensures ∙ zero_below c.args.set c.args.row.now zeros c.loop-k.k c.loop-k-test.true out)),
)

pub returns : goal.returns
returns c = (
  λ t. zero_outside_below c.args.set c.args.row.now c.known.ensures.row.width (λ k below out. c.loop-k.invariant k (let e = c.loop-k-test.false in omega arith) out),
  λ zeros. refl,
)
