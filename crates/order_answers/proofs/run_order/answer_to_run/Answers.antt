use Rattle.order_answers.proofs.OffsetsFound.{with_offsets}
use Rattle.order_answers.proofs.run_order.answer_to_run.Goals as goal

pub returns : goal.returns
returns g c =
    with_offsets c.args.image.now c.args.points.now c.in-Ok.offsets c.args.report.now c.args.start c.from.result c.args.steps c.run_answer.result
    c.in-Ok.ensures c.from.ensures c.run_answer.ensures
