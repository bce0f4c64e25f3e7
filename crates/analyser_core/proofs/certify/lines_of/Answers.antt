use Rattle.std.proofs.Common.{◌+◌, refl, sym, subst, ◌∙◌}
use Rattle.std.proofs.lemmas.List.{drop_more, drop_all}
use Rattle.std.proofs.lemmas.Option.{slice_get-get_or}
use Rattle.analyser_core.proofs.LinesRead.{AreBefore, line_more, none_more, all_read}
use Rattle.analyser_core.proofs.certify.lines_of.Goals.{in-Some+in_ok-push, in_default}
use Rattle.analyser_core.proofs.certify.lines_of.Goals as goal

pub loop-i-preserved : goal.loop-i-preserved
loop-i-preserved c =
    let summary = c.args.summary.now in
    let names = c.args.names.now in
    let i = c.loop-i.i in
    let below = c.loop-i-test.true in
    elim c.match-certified_register.branch [
      | in-Some+in_ok-push w ↦
          line_more summary c.args.proc_entry names i c.loop-i.lines c.loop-i.invariant _ _ _ (slice_get-get_or names i _ below)
          (drop_more names i _ below) w.in-Some.ensures.some.0 w.in-Some.ensures.some.1 refl w.certificate.ensures
          (w.lines-is ∙ w.in_ok-push.ensures {u = tt})
      | in_default w ↦
          subst (AreBefore summary c.args.proc_entry names (i + 1)) (sym w.lines-is)
          (none_more summary c.args.proc_entry names i c.loop-i.lines c.loop-i.invariant _ (drop_more names i _ below) w.in_default.ensures.none)
    ]

pub returns : goal.returns
returns c =
    all_read c.args.summary.now c.args.proc_entry c.args.names.now c.loop-i.i c.loop-i.lines c.loop-i.invariant
    (drop_all c.loop-i.i c.args.names.now c.loop-i-test.false)
