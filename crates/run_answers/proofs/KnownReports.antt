-- A report that a run was checked against tells of nothing that the file doesn't have.
use Rattle.std.proofs.Common.{◌≡◌, ◌↔◌, ℕ, Result, Ok, Err, Some}
use Rattle.flow_points.specs.PointLists.{FlowPoints}
use Rattle.report_text.specs.declared.reports.Report.{Report}
use Rattle.report_places.specs.Strangers.{IsStranger}
use Rattle.run_watch.specs.declared.verdicts.RunRefusal.{RunRefusal}
use Rattle.run_watch.specs.declared.verdicts.RunRefusal.TheVariants.{NotAPoint}
use Rattle.run_watch.specs.declared.verdicts.RunVerdict.{RunVerdict}
use Rattle.run_answers.specs.Answers.{HasNoStranger}

pub known_by : (points : FlowPoints) (report : Report) (result : Result RunVerdict RunRefusal) (v : RunVerdict)
    → ((address : ℕ) → (result ≡ Err (NotAPoint address)) ↔ IsStranger points report.tracked.names report.points (Some address))
    → result ≡ Ok v → HasNoStranger points report
known_by points report result v refused is address there =
    let e : result ≡ Err (NotAPoint address) = (refused address).1 there in absurd cc
