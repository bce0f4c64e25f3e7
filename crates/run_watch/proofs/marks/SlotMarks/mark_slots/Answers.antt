use Rattle.std.proofs.Common.{All, subst}
use Rattle.std.proofs.lemmas.List.{take_all}
use Rattle.run_watch.specs.Marks.{IsMarkedName}
use Rattle.run_watch.proofs.Marking.{names_marked, one_more_name}
use Rattle.report_text.specs.declared.names.Name.TheVariants.{Register}
use Rattle.run_watch.proofs.marks.SlotMarks.mark_slots.Goals as goal

pub loop-name-preserved : goal.loop-name-preserved
loop-name-preserved c = (
  λ g n is. c.in_ok-mark_name.ensures.kept g n (c.loop-name.invariant.0 g n is),
  one_more_name c.loop-name.self c.mark_name.new.self c.args.names.now c.args.depth c.args.activation.now c.loop-name.name-index
      (Register 0) c.loop-name-test.true c.in_ok-mark_name.ensures.kept c.loop-name.invariant.1 c.in_ok-mark_name.ensures.there,
)

pub returns-clause-there : goal.returns-clause-there
returns-clause-there c =
    names_marked c.loop-name.self c.args.names.now c.args.depth c.args.activation.now
    (subst (λ names. All (IsMarkedName c.loop-name.self c.args.depth c.args.activation.now) names)
    (take_all c.loop-name.name-index c.args.names.now c.loop-name-test.false) c.loop-name.invariant.1)
