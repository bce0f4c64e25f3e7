use Rattle.std.proofs.Common.{Contains, inr, refl, sym, subst, ◌∙◌}
use Rattle.std.proofs.lemmas.Bool.{false≢true}
use Rattle.word_rows.specs.Rows.{words_of, plus, unit}
use Rattle.row_modules.specs.Modules.{IsCombination}
use Rattle.row_modules.specs.Positions.{IsUnitOn}
use Rattle.proof_verify.proofs.starts.starts_into.Goals as goal

pub returns-then-not-member-2 : goal.returns-then-not-member-2
returns-then-not-member-2 c = (
  λ h. absurd (false≢true h),
  λ into.
      let i = c.loop-i.i in
      let unit_in : IsUnitOn 17 c.args.registers (unit 17 i) = record { position = i; within = c.loop-i-test.true; there = sym c.has.ensures ∙ c.if-has.true; is = refl } in
      let simple = into (words_of (plus 1 (unit 17 16) (unit 17 i))) (inr (unit 17 i, unit_in, refl)) in
      let member = c.member-then-has.ensures.1 (subst (IsCombination 17 (Contains c.args.basis.now)) (sym c.start_with.ensures) simple) in
      absurd (false≢true (sym c.if-not-member-2.true ∙ member)),
)
