use Rattle.std.proofs.Common.{◌/◌}
use Rattle.map_modules.proofs.Rowwise.{AddedUp}
use Rattle.map_modules.proofs.matrices.moved.Given as goal

abbrev pub invariant-loop-i : goal.invariant-loop-i
invariant-loop-i g l = AddedUp (g.row.N / 17) g.row.N l.m l.v l.i 0 l.words

abbrev pub invariant-loop-l : goal.invariant-loop-l
invariant-loop-l g l = AddedUp (g.row.N / 17) g.row.N l.m l.v l.i l.l l.words
