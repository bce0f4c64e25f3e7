use Rattle.std.proofs.Common.{◌≡◌, ℕ, take}
use Rattle.rv_step.specs.Loads.{loaded_from}
use Rattle.rv_step.specs.Pages.{byte_of}
use Rattle.rv_step.proofs.load.loaded.Given as goal

abbrev pub invariant-loop-segment : goal.invariant-loop-segment
invariant-loop-segment l = (a : ℕ) → byte_of l.memory a ≡ loaded_from (take l.segment-index l.image.segments) l.image.file a
