use Rattle.report_places.proofs.FirstOnes.{is_absent}
use Rattle.report_places.proofs.strangers.is_strange_point.Goals as goal

pub returns : goal.returns
returns c = is_absent _ _ c.find.result c.is_none.result c.is_none.ensures c.find.ensures.found c.find.ensures.none
