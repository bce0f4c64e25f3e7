use Rattle.std.proofs.Common.{ap, length, arith}
use Rattle.rv_step.specs.Pages.{byte_of}
use Rattle.rv_step.proofs.ImageLoaded.{loaded_step}
use Rattle.rv_step.proofs.load.loaded.Goals as goal

pub loop-segment-preserved : goal.loop-segment-preserved
loop-segment-preserved c = loaded_step c.args.image.now.segments c.as_slice-segment-items.result.now
    c.args.image.now.file c.as_slice.result.now c.loop-segment.segment-index _
    (byte_of c.loop-segment.memory) (byte_of c.load.new.memory)
    c.as_slice-segment-items.ensures c.as_slice.ensures c.known.ensures.loadable c.known.ensures.apart
    (omega (arith, ap length c.as_slice-segment-items.ensures)) c.loop-segment.invariant c.in_ok-load.ensures
