use Rattle.flow_points.proofs.PointLaws.{all_procedures, ascending, only_procedures}
use Rattle.flow_points.proofs.laws.procedures_ascend.Goals as goal

pub returns-clause-ascending : goal.returns-clause-ascending
returns-clause-ascending c = ascending

pub returns-clause-all : goal.returns-clause-all
returns-clause-all c = all_procedures

pub returns-clause-only : goal.returns-clause-only
returns-clause-only c = only_procedures
