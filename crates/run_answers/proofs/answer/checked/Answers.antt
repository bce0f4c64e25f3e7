use Rattle.std.proofs.Common.{Err, refl, ap}
use Rattle.run_watch.specs.declared.verdicts.RunRefusal.{RunRefusal}
use Rattle.run_answers.specs.Answers.{checked, strange}
use Rattle.run_answers.proofs.FourFound.{found_all}
use Rattle.run_answers.proofs.KnownReports.{known_by}
use Rattle.run_answers.proofs.answer.checked.Goals as goal

pub returns-in_ok-write_verdict-in-Ok : goal.returns-in_ok-write_verdict-in-Ok
returns-in_ok-write_verdict-in-Ok g c =
    let ended = c.in-Ok.ensures.verdict in
    let refused = c.check_run.ensures.refused in
    let known = known_by c.args.points.now c.args.report.now c.check_run.result c.in-Ok.verdict refused c.in-Ok.is in
    checked c.args.report.now c.requires.read known (record {
      seen = ended.0;
      verdict = c.in-Ok.verdict;
      run = ended.1;
      found = found_all (λ (b : _). (goal.Watch-dyn g (b.vtable, b.value)).kind_of b.value)
          (λ (b : _). (goal.Watch-dyn g (b.vtable, b.value)).state b.value) ended.0 c.args.watches.items c.in-Ok.verdict.found
          c.requires.kinds c.requires.fresh ended.2;
      status_is = c.status_of.ensures;
      text_is = c.in_ok-write_verdict-in-Ok.ensures;
    })

pub returns-in_ok-stranger_line-in-Err-NotAPoint : goal.returns-in_ok-stranger_line-in-Err-NotAPoint
returns-in_ok-stranger_line-in-Err-NotAPoint g c =
    let address = c.in-Err-NotAPoint.address in
    let is = ap (λ (refusal : RunRefusal). Err refusal) c.in-Err-NotAPoint.field-0-is in
    strange c.args.report.now address c.requires.read ((c.in-Err-NotAPoint.ensures.refused address).0 is) refl
    c.in_ok-stranger_line-in-Err-NotAPoint.ensures
