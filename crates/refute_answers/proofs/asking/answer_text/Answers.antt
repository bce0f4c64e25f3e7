use Rattle.affine_lift.specs.declared.width.Width.TheVariants.{Wide}
use Rattle.needed_derivs.proofs.Ordered.{refuted_ordered}
use Rattle.refute_text.proofs.Sound.{refuted_sound}
use Rattle.refute_answers.proofs.asking.answer_text.Goals as goal

pub refute-requires-clause-sure : goal.refute-requires-clause-sure
refute-requires-clause-sure g c =
    c.lifted_calls_are_plain.ensures Wide c.args.points.now c.args.tracked.now.names c.args.program.now c.known.ensures c.requires.program.lifted

pub needed_alone-requires : goal.needed_alone-requires
needed_alone-requires g c = refuted_ordered c.args.program.now c.args.node c.args.row.now c.in_ok-found.found c.in_ok-found.ensures.refuted

pub write_refuted-requires-clause-sound : goal.write_refuted-requires-clause-sound
write_refuted-requires-clause-sound g c =
    let is = c.in_ok-answer.ensures.still c.args.program.now c.args.node c.args.row.now c.in_ok-found.ensures in
    refuted_sound c.args.program.now c.args.node c.args.row.now c.in_ok-answer.answer is.refuted

pub returns-in-Ok : goal.returns-in-Ok
returns-in-Ok g c = record {
  answer = c.in_ok-answer.answer;
  is_answer = c.in_ok-answer.ensures.still c.args.program.now c.args.node c.args.row.now c.in_ok-found.ensures;
  text_is = c.in-Ok.ensures;
}
