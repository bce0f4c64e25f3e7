use Rattle.std.proofs.Common.{refl}
use Rattle.report_read.specs.declared.draft.Place.TheVariants as places
use Rattle.report_read.proofs.StepsJudged.{relation_there}
use Rattle.report_read.proofs.judging.relation_at.Goals as goal

pub returns-in-Point : goal.returns-in-Point
returns-in-Point c = relation_there c.args.draft.now c.args.piece.now (places.Point c.in-Point.entry c.in-Point.address c.in-Point.line) c.relation_in.result c.in-Point.is (λ terms d. refl) c.relation_in.ensures

pub returns-in-Rows : goal.returns-in-Rows
returns-in-Rows c = relation_there c.args.draft.now c.args.piece.now (places.Rows c.in-Rows.entry c.in-Rows.address c.in-Rows.line c.in-Rows.rows) c.relation_in-in-Rows.result c.in-Rows.is (λ terms d. refl) c.relation_in-in-Rows.ensures
