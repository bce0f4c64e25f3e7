use Rattle.std.proofs.Common.{arith, length-take, length-drop, ◌∙◌}
use Rattle.outside.proofs.Gained.{gains_front}
use Rattle.outside.proofs.write.write_all.Goals as goal

pub loop-done-preserved : goal.loop-done-preserved
loop-done-preserved g c = record {
  bound = omega (arith, c.in-Ok.ensures.bound, simp (length-take, length-drop) at c.in-Ok.ensures.bound);
  gained = gains_front _ _ _ _ _ _ c.loop-done.invariant.gained c.in-Ok.ensures.gain;
  counted = c.in-Ok.ensures.ok_stays ∙ c.loop-done.invariant.counted;
}
