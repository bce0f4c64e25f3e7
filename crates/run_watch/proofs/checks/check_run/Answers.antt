use Rattle.std.proofs.Common.{Ok, Err, refl}
use Rattle.run_watch.specs.declared.verdicts.RunRefusal.TheVariants.{Memory}
use Rattle.run_watch.proofs.Refused.{refused_by, not_refused}
use Rattle.run_watch.proofs.checks.check_run.Goals as goal

pub returns-in-Some-clause-refused : goal.returns-in-Some-clause-refused
returns-in-Some-clause-refused g c = refused_by _ _ _ c.stranger.result c.in-Some.address c.stranger.ensures c.in-Some.is

pub returns-in-Ok-clause-refused : goal.returns-in-Ok-clause-refused
returns-in-Ok-clause-refused g c = not_refused _ _ _ c.stranger.result (Ok c.in-Ok.verdict) c.stranger.ensures c.in_default.is refl

pub returns-clause-refused : goal.returns-clause-refused
returns-clause-refused g c = not_refused _ _ _ c.stranger.result (Err Memory) c.stranger.ensures c.in_default.is refl
