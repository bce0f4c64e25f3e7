use Rattle.std.proofs.Common.{arith, ◌∙◌, sym}
use Rattle.std.proofs.lemmas.Fmt.{decimal_injective}
use Rattle.report_lines.proofs.NamesTold.{hex_injective}
use Rattle.proof_lines.proofs.WordTexts.{item_is, not_within}
use Rattle.proof_lines.proofs.words.read_word.Goals as goal

pub returns-then-position-least : goal.returns-then-position-least
returns-then-position-least c item fits e =
    let is = item_is c.args.least c.args.width item c.args.text.now c.in-Some.number.now c.in-Some.behind.now c.requires fits c.in-Some.ensures.0 c.in-Some.ensures.1 e in
    not_within c.args.least c.args.width item c.in-Some-read_dec.position c.in-Some-read_hex.word fits
    (decimal_injective c.in-Some-read_dec.position item.position c.in-Some-read_dec.ensures.0 (omega (arith, fits.within, c.requires)) (sym c.in-Some-read_dec.ensures.1 ∙ is.0))
    (hex_injective c.in-Some-read_hex.word item.word c.in-Some-read_hex.ensures.0 fits.small (sym c.in-Some-read_hex.ensures.1 ∙ is.1))
    c.then-position-least.either

pub returns-in-None : goal.returns-in-None
returns-in-None c item fits e =
    c.in-None.ensures item.position (omega (arith, fits.within, c.requires))
    (item_is c.args.least c.args.width item c.args.text.now c.in-Some.number.now c.in-Some.behind.now c.requires fits c.in-Some.ensures.0 c.in-Some.ensures.1 e).0

pub returns-in-None-read_hex : goal.returns-in-None-read_hex
returns-in-None-read_hex c item fits e =
    c.in-None-read_hex.ensures item.word fits.small
    (item_is c.args.least c.args.width item c.args.text.now c.in-Some.number.now c.in-Some.behind.now c.requires fits c.in-Some.ensures.0 c.in-Some.ensures.1 e).1
