use Rattle.report_lines.proofs.NamesTold.{slot_is, no_slot}
use Rattle.report_lines.proofs.names.read_slot.Goals as goal

pub returns-in_default : goal.returns-in_default
returns-in_default c p n small also e = no_slot c.args.text.now p n c.in_default.ensures small e

pub returns-in-None : goal.returns-in-None
returns-in-None c p n small also e =
    c.in-None.ensures p small (slot_is c.args.text.now c.in-Some.front.now c.in-Some.behind.now p n c.in-Some.ensures.0 c.in-Some.ensures.1 small e).0

pub returns-in-None-read_below : goal.returns-in-None-read_below
returns-in-None-read_below c p n small also e =
    c.in-None-read_below.ensures n also
    (slot_is c.args.text.now c.in-Some.front.now c.in-Some.behind.now p n c.in-Some.ensures.0 c.in-Some.ensures.1 small e).1
