use Rattle.std.proofs.Common.{List, subst}
use Rattle.report_text.specs.declared.points.PointRows.{PointRows}
use Rattle.report_places.specs.Strangers.{FirstIs, IsStrangeName, IsStrangePoint, procedure_of}
use Rattle.report_places.proofs.strangers.stranger.Goals as goal

pub returns : goal.returns
returns c = record {
  name = c.strange_name.result;
  place = c.strange_point.result;
  names_first = subst (λ names. FirstIs (IsStrangeName c.args.points.now.procedures) procedure_of names c.strange_name.result)
      c.as_slice.ensures
      (subst (λ procedures. FirstIs (IsStrangeName procedures) procedure_of c.as_slice.result.now c.strange_name.result)
      c.procedures.ensures c.strange_name.ensures);
  points_first = subst (λ (told : List PointRows). FirstIs (IsStrangePoint c.args.points.now.points) (λ t. t.address) told
      c.strange_point.result) c.as_slice-2.ensures c.strange_point.ensures;
  is = c.either.ensures;
}
