use Rattle.std.proofs.Common.{arith}
use Rattle.word_rows.proofs.Covered.{leads_in, lead_in_last, no_lead}
use Rattle.word_rows.proofs.masks.lead_of.Goals as goal

pub returns-then-mask-eq0 : goal.returns-then-mask-eq0
returns-then-mask-eq0 c = no_lead c.args.mask c.args.words.now c.requires.within c.requires.mask c.if-mask-eq0.true

pub lead_from-requires : goal.lead_from-requires
lead_from-requires c =
    let h = leads_in c.args.mask c.args.words.now c.requires.within c.requires.mask c.if-mask-eq0.false c.ranges.mask.fits in
    omega (arith, h.inside)

pub returns-then-at-words : goal.returns-then-at-words
returns-then-at-words c =
    let h = leads_in c.args.mask c.args.words.now c.requires.within c.requires.mask c.if-mask-eq0.false c.ranges.mask.fits in
    omega (arith, h.is, c.lead_of_lanes.ensures)

pub returns-else-at-words : goal.returns-else-at-words
returns-else-at-words c =
    let h = leads_in c.args.mask c.args.words.now c.requires.within c.requires.mask c.if-mask-eq0.false c.ranges.mask.fits in
    lead_in_last _ c.args.words.now _ h (omega arith) c.lead_from.ensures
