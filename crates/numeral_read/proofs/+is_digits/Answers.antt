use Rattle.std.proofs.Common.{rules, sym, ◌∙◌, arith}
use Rattle.std.proofs.lemmas.List.{nil_from_length}
use Rattle.numeral_read.proofs.Digits.{last_is, no_front, front_is, one_again, more_again, no_digits}
use Rattle.numeral_read.proofs.+is_digits.Goals as goal

pub returns-then-last-glyph_of : goal.returns-then-last-glyph_of
returns-then-last-glyph_of t c =
    (λ no. absurd (search rules), λ e. absurd (c.if-last-glyph_of.true (last_is c.args.base c.args.n c.args.text.now c.requires.low c.ranges.n.fits c.in-len1-up.len_at_least e ∙ sym c.glyph_of.ensures)))

pub returns-then-n-base : goal.returns-then-n-base
returns-then-n-base t c = (
  λ yes'. one_again c.args.base c.args.n c.args.text.now c.requires.low c.ranges.n.fits c.in-len1-up.len_at_least c.if-n-base.true (grind (arith, nil_from_length)) (c.if-last-glyph_of.false ∙ c.glyph_of.ensures),
  λ e. let f = no_front c.args.base c.args.n c.args.text.now c.requires.low c.ranges.n.fits c.in-len1-up.len_at_least c.if-n-base.true e in grind arith,
)

pub returns-in-empty : goal.returns-in-empty
returns-in-empty t c = (λ no. absurd (search rules), λ e. absurd (no_digits c.args.base c.args.n c.requires.low c.requires.high c.ranges.n.fits (sym e ∙ nil_from_length c.args.text.now (omega arith))))

pub returns-else-n-base : goal.returns-else-n-base
returns-else-n-base t c = (
  λ yes'. more_again c.args.base c.args.n c.args.text.now c.requires.low c.ranges.n.fits c.in-len1-up.len_at_least c.if-n-base.false (c.is_digits.ensures.0 yes') (c.if-last-glyph_of.false ∙ c.glyph_of.ensures),
  λ e. c.is_digits.ensures.1 (front_is c.args.base c.args.n c.args.text.now c.requires.low c.ranges.n.fits c.in-len1-up.len_at_least c.if-n-base.false e),
)
