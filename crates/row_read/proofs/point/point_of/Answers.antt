use Rattle.row_read.proofs.Commas.{no_point, point_cut}
use Rattle.row_read.proofs.point.point_of.Goals as goal

pub returns-in_default : goal.returns-in_default
returns-in_default c = no_point c.args.text.now c.in_default.ensures

pub returns-in-None : goal.returns-in-None
returns-in-None c p a small also e =
    c.in-None.ensures p small (point_cut c.args.text.now c.in-Some.front.now c.in-Some.behind.now p a c.in-Some.ensures small e).0

pub returns-in-None-read_hex : goal.returns-in-None-read_hex
returns-in-None-read_hex c p a small also e =
    c.in-None-read_hex.ensures a also (point_cut c.args.text.now c.in-Some.front.now c.in-Some.behind.now p a c.in-Some.ensures small e).1
