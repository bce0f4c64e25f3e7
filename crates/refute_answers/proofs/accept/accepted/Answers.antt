use Rattle.std.proofs.lemmas.Bool.{iff_false}
use Rattle.refute_answers.proofs.Accepting.{refused_code}
use Rattle.refute_answers.proofs.accept.accepted.Goals as goal

pub returns-in-Err-points_of : goal.returns-in-Err-points_of
returns-in-Err-points_of c =
    refused_code c.args.bytes.now c.args.list.now c.in-Ok.image c.in-Err-points_of.refusal c.in-Ok.ensures c.in-Err-points_of.ensures

pub returns-in-Ok-read_tracked : goal.returns-in-Ok-read_tracked
returns-in-Ok-read_tracked c = record {
  image = c.in-Ok.image;
  accepted = record { is_image = c.in-Ok.ensures; has_points = c.in-Ok-points_of.ensures; is_tracked = c.in-Ok-read_tracked.ensures };
}

pub returns : goal.returns
returns c = (c.in-Ok.image, c.in-Ok-points_of.points, c.in-Ok.ensures, c.in-Ok-points_of.ensures, c.in-Err-read_tracked.ensures, iff_false c.is_memory.ensures c.if-is_memory.false)
