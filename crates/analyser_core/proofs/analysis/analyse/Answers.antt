use Rattle.std.proofs.Common.{ℕ, List, Result, Ok, Err, IfOk}
use Rattle.flow_points.specs.PointLists.{FlowPoints}
use Rattle.report_text.specs.declared.names.Name.{Name}
use Rattle.analyser_core.specs.Accepted.{IsAcceptedAs}
use Rattle.analyser_core.specs.MachineRuns.{TellsOfRuns}
use Rattle.analyser_core.specs.declared.analysis.Analysis.{Analysis}
use Rattle.analyser_core.specs.declared.refusal.Refusal.{Refusal}
use Rattle.analyser_core.proofs.RunsTold.{tells_of_runs}
use Rattle.analyser_core.specs.Made as made
use Rattle.analyser_core.specs.Made.{HasWorked, IsMade}
use Rattle.analyser_core.specs.Work.{IsWithinWork, none, some}
use Rattle.analyser_core.proofs.Answered.{answered, report_over}
use Rattle.analyser_core.proofs.analysis.analyse.Goals as goal

within : (bytes list : List ℕ) (points : FlowPoints) (names : List Name) (before after : ℕ) → IsAcceptedAs bytes list points names →
    HasWorked points names before after → IsWithinWork bytes list before after
within bytes list points names before after accepted (made.none same) = none same
within bytes list points names before after accepted (made.some program heads lifted numbers falls bound) =
    some points names program heads (record { accepted = accepted; lifted = lifted }) numbers falls bound

pub returns-clause-report : goal.returns-clause-report
returns-clause-report g c =
    answered c.args.bytes.now c.args.track.now c.in-Ok.accepted.0 c.in-Ok.accepted.1.names c.in-Ok.ensures _ _ c.analysis_of.result c.analysis_of.ensures.made c.analysis_of.ensures.refusal

pub returns-clause-bounded : goal.returns-clause-bounded
returns-clause-bounded g c =
    within c.args.bytes.now c.args.track.now c.in-Ok.accepted.0 c.in-Ok.accepted.1.names _ _ c.in-Ok.ensures c.analysis_of.ensures.worked

runs : (bytes list : List ℕ) (points : FlowPoints) (names : List Name) (before after : ℕ) (result : Result Analysis Refusal)
    → IsAcceptedAs bytes list points names → IfOk result (λ a. IsMade points names before after a.report a.certs)
    → IfOk result (λ a. TellsOfRuns bytes list a.report a.certs)
runs bytes list points names before after (Ok a) accepted is =
    tells_of_runs bytes list a.report a.certs (report_over bytes list points names accepted before after a is)
runs bytes list points names before after (Err e) accepted is = tt

pub returns-clause-runs : goal.returns-clause-runs
returns-clause-runs g c =
    runs c.args.bytes.now c.args.track.now c.in-Ok.accepted.0 c.in-Ok.accepted.1.names _ _ c.analysis_of.result c.in-Ok.ensures c.analysis_of.ensures.made
