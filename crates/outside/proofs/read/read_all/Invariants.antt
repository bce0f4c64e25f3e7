-- What was read so far is the front of the contents, and nothing was counted.
use Rattle.std.proofs.Common.{◌≡◌, ℕ, ◌≤◌, ◌-◌, List, length, take, IfSome, vec_len}
use Rattle.outside.proofs.read.read_all.Given as goal

abbrev pub invariant-pieces : goal.invariant-pieces
invariant-pieces g l = record {
  bound : vec_len l.bytes ≤ l.limit;
  room : length l.piece ≡ 4096;
  front : IfSome (g.F.Files.contents l.fn.files l.name)
      (λ c. l.bytes.items ≡ take (vec_len l.bytes) c);
  contents : (other : List ℕ) → g.F.Files.contents l.files other ≡ g.F.Files.contents l.fn.files other;
  counts : (other : List ℕ) → g.F.Files.faults l.files other ≡ g.F.Files.faults l.fn.files other;
}

abbrev pub decreases-pieces : goal.decreases-pieces
decreases-pieces g l = l.limit - vec_len l.bytes
