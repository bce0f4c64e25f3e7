use Rattle.std.proofs.Common.{refl}
use Rattle.order_answers.specs.Answers.{listed}
use Rattle.order_answers.proofs.LinesTold.{listing_refused}
use Rattle.order_answers.proofs.list_order.answer_to_list.Goals as goal

pub returns-in-Ok : goal.returns-in-Ok
returns-in-Ok c =
    listed 0 _ c.requires (record {
      image = _;
      points = _;
      is_image = c.in-Ok.ensures.is_image;
      has_points = c.in-Ok.ensures.has_points;
      text_is = c.in_ok-write_list-in-Ok.ensures;
    }) refl

pub returns : goal.returns
returns c = listing_refused c.args.bytes.now c.refused.result c.refused.ensures
