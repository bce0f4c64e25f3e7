-- What the orders over a file and a report read.
--
--   HasCode contents image points   the contents of a file, or what isn't told of them, are accepted: they have this image and these points
--   AreInputs contents other image points report   a file's image and points, and the bytes of a report, which aren't too many
use Rattle.std.specs.Prelude.{ℕ, ◌≤◌, List, length, Option}
use Rattle.elf_image.specs.declared.image.Image.{Image}
use Rattle.flow_points.specs.PointLists.{FlowPoints}
use Rattle.refusal_lines.specs.Lines.{most_report_bytes}
use Rattle.call_ends.specs.Replies.{IsWhole}
use Rattle.order_answers.specs.FileRefusals.{IsCode}

pub record HasCode (contents : Option (List ℕ)) (image : Image) (points : FlowPoints) : Type 0 where
  pub bytes : List ℕ
  pub whole : IsWhole contents bytes
  pub code : IsCode bytes image points

pub record AreInputs (contents other : Option (List ℕ)) (image : Image) (points : FlowPoints) (report : List ℕ) : Type 0 where
  pub code : HasCode contents image points
  pub whole : IsWhole other report
  pub short : length report ≤ most_report_bytes
