use Rattle.run_paths.proofs.Acting.{apply-opening, apply-step, apply-call}
use Rattle.run_paths.proofs.laws.maps_act.Goals as goal

pub returns : goal.returns
returns c = record { opening = apply-opening; step = apply-step; call = apply-call }
