use Rattle.affine_prog.specs.Spans.{IsMapTo}
use Rattle.row_engine.proofs.Pushing.{GrownSoFar}
use Rattle.call_summaries.specs.Openings.{Opens}
use Rattle.call_summaries.proofs.openings.open_all.Given as goal

abbrev pub invariant-loop-p : goal.invariant-loop-p
invariant-loop-p g l = GrownSoFar 289 (IsMapTo l.program) l.fn.nodes l.nodes l.fn.steps l.steps (Opens l.program l.p l.wanted l.nodes)
