use Rattle.std.proofs.Common.{◌≡◌, ◌<◌, true, false, length, sym, subst, ◌∙◌, arith}
use Rattle.std.proofs.lemmas.Bool.{false≢true}
use Rattle.std.proofs.lemmas.List.{get_or_default}
use Rattle.affine_prog.specs.Spans.{IsMapTo}
use Rattle.row_engine.proofs.Pushing.{grown_none, grown_all, grown_then, grown_fails, grown_stays}
use Rattle.call_summaries.specs.Openings.{Opens}
use Rattle.call_summaries.proofs.Soundness.{maps_are_rows}
use Rattle.call_summaries.proofs.OpeningAll.{opens_none, opens_skipped, opens_more}
use Rattle.call_summaries.proofs.openings.open_all.Goals.{then-wanted-p+in_ok-open_one, else-wanted-p}
use Rattle.call_summaries.proofs.openings.open_all.Goals as goal

pub loop-p-init : goal.loop-p-init
loop-p-init g c = grown_none 289 (IsMapTo c.args.program.now) c.args.nodes.now c.args.steps.now (opens_none c.args.program.now c.args.wanted.now c.args.nodes.now)

pub open_one-requires-clause-nodes : goal.open_one-requires-clause-nodes
open_one-requires-clause-nodes g c = c.loop-p.invariant.grows.nodes ∙ c.requires.nodes

pub returns-in_err-open_one : goal.returns-in_err-open_one
returns-in_err-open_one g c =
    grown_fails (maps_are_rows c.args.program.now c.requires.formed) c.known.ensures.leading c.loop-p.invariant c.open_one.ensures c.from_residual.result c.from_residual.ensures.0

pub loop-p-preserved : goal.loop-p-preserved
loop-p-preserved g c = elim c.if-wanted-p.branch [
  | then-wanted-p+in_ok-open_one w ↦
      rw (w.nodes-is, w.steps-is) (grown_then (maps_are_rows c.args.program.now c.requires.formed) c.known.ensures.leading c.loop-p.invariant w.in_ok-open_one.ensures
      (opens_more c.args.program.now c.args.wanted.now c.loop-p.p c.loop-p.nodes w.open_one.new.nodes w.in_ok-open_one.ensures.grows.grown))
  | else-wanted-p w ↦
      let f = w.if-wanted-p.false in
      rw (w.nodes-is, w.steps-is) (grown_stays c.loop-p.invariant
      (opens_skipped c.args.program.now c.args.wanted.now c.loop-p.p c.loop-p.nodes
      (λ h. let b : c.loop-p.p < length c.args.wanted.now = let e = c.len-p-end.ensures in let t = c.loop-p-test.true in let n = c.requires.wanted in omega arith in
      false≢true (sym f ∙ get_or_default c.args.wanted.now c.loop-p.p false true b ∙ h))))
]

pub returns : goal.returns
returns g c =
    let e : c.loop-p.p ≡ length c.args.program.now.procs = let n = c.len-p-end.ensures in let t = c.loop-p-test.false in let a = c.loop-p.auto.p-end in omega arith in
    grown_all (subst (λ n. Opens c.args.program.now n c.args.wanted.now c.loop-p.nodes) e) c.loop-p.invariant
