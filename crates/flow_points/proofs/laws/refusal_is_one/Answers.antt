use Rattle.flow_points.specs.Flows.{fetches_of}
use Rattle.flow_points.proofs.OneRefusal.{one_refusal}
use Rattle.flow_points.proofs.laws.refusal_is_one.Goals as goal

pub returns : goal.returns
returns c = λ image r s. one_refusal (fetches_of image) image.entry r s
