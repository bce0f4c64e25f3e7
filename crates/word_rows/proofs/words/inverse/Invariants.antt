use Rattle.std.proofs.Common.{◌≡◌, ◌*◌, ◌%◌, ◌^◌}
use Rattle.word_rows.proofs.words.inverse.Given as goal

-- u * x is 1 at the low bits, 2^counter of them
abbrev pub invariant-loop : goal.invariant-loop
invariant-loop l = (l.u * l.x) % 2 ^ (2 ^ l.counter) ≡ 1
