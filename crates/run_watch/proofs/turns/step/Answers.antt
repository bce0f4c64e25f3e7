use Rattle.std.proofs.Common.{[], ◌∷◌, refl, sym, ◌∙◌}
use Rattle.run_watch.specs.Moments.{moment_of}
use Rattle.run_watch.specs.Runs.{sight_of}
use Rattle.run_watch.specs.Turns.{made, stops, strays}
use Rattle.run_watch.proofs.Turning.{not_err}
use Rattle.run_watch.proofs.Seeing.{zip_same, seen_none}
use Rattle.run_watch.proofs.turns.step.Goals as goal

pub returns-in-Ok : goal.returns-in-Ok
returns-in-Ok g c = (
  sight_of (moment_of c.args.ctx.now) c.in-Ok.rec ∷ [],
  made c.in-Ok.rec (λ why h. not_err _ _ _ c.in-Ok.is (c.step.ensures.stops why h)) c.in-Ok.ensures.stepped c.in-Ok.ensures.told
      c.in-Ok.ensures.counted refl refl,
  c.show.ensures,
)

pub returns-in-Some : goal.returns-in-Some
returns-in-Some g c = (
  sight_of (moment_of c.args.ctx.now) c.args.here.now ∷ [],
  stops c.in-Err.why c.in-Some.stop (c.in-Err.ensures.stopped c.in_ok-stop-in-Err.ensures.0)
      (sym c.in_ok-stop-in-Err.ensures.1 ∙ c.in-Some.is) c.in-Err.ensures.count_stays refl refl,
  c.show-in-Some.ensures,
)

pub returns-in-None : goal.returns-in-None
returns-in-None g c = (
  [],
  strays c.in-Err.why (c.in-Err.ensures.stopped c.in_ok-stop-in-Err.ensures.0)
      (sym c.in_ok-stop-in-Err.ensures.1 ∙ c.in-None.is) c.in-Err.ensures.count_stays refl refl,
  zip_same _ _ (λ w. seen_none _ _),
)
