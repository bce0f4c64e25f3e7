use Rattle.std.proofs.Common.{refl}
use Rattle.proof_lines.specs.declared.lines.Line.TheVariants.{Head, Entry, Row, Claims}
use Rattle.proof_lines.proofs.Heads.{begins_apart, head_is, no_head}
use Rattle.proof_lines.proofs.lines.head_line.Goals as goal

pub returns-in_default : goal.returns-in_default
returns-in_default c (Head p a) fits e = no_head c.args.text.now p a c.in_default.ensures fits.0 e
returns-in_default c (Entry p) fits e = begins_apart 104 101 _ _ refl e
returns-in_default c (Row row) fits e = begins_apart 104 114 _ _ refl e
returns-in_default c Claims fits e = begins_apart 104 99 _ _ refl e

pub returns-in-None : goal.returns-in-None
returns-in-None c (Head p a) fits e = c.in-None.ensures p fits.0 (head_is c.args.text.now c.in-Some.number.now c.in-Some.place.now p a c.in-Some.ensures.0 c.in-Some.ensures.1 fits.0 e).0
returns-in-None c (Entry p) fits e = begins_apart 104 101 _ _ refl e
returns-in-None c (Row row) fits e = begins_apart 104 114 _ _ refl e
returns-in-None c Claims fits e = begins_apart 104 99 _ _ refl e

pub returns-in-None-read_place : goal.returns-in-None-read_place
returns-in-None-read_place c (Head p a) fits e =
    c.in-None-read_place.ensures a fits.1 (head_is c.args.text.now c.in-Some.number.now c.in-Some.place.now p a c.in-Some.ensures.0 c.in-Some.ensures.1 fits.0 e).1
returns-in-None-read_place c (Entry p) fits e = begins_apart 104 101 _ _ refl e
returns-in-None-read_place c (Row row) fits e = begins_apart 104 114 _ _ refl e
returns-in-None-read_place c Claims fits e = begins_apart 104 99 _ _ refl e
