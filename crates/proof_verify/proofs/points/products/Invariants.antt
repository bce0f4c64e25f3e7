use Rattle.std.proofs.Common.{take}
use Rattle.proof_verify.specs.Points.{AreProducts}
use Rattle.proof_verify.proofs.points.products.Given as goal

abbrev pub invariant-loop-m : goal.invariant-loop-m
invariant-loop-m l = AreProducts (take l.m-index l.maps) l.states l.rows
