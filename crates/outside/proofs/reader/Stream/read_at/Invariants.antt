-- On the way, the reader stands where it says, and not behind the place.
use Rattle.std.proofs.Common.{ℕ, ◌≤◌, ◌-◌, List, Option}
use Rattle.outside.specs.Streams.{IsAt}
use Rattle.outside.proofs.reader.Stream.read_at.Given as goal

abbrev pub invariant-loop-self : goal.invariant-loop-self
invariant-loop-self g l = record {
  before : l.self.at ≤ l.at;
  stands : (whole : Option (List ℕ)) → IsAt whole (g.F.Read.remaining l.fn.self.file) l.fn.self.at → IsAt whole (g.F.Read.remaining l.self.file) l.self.at;
}

abbrev pub decreases-loop-self : goal.decreases-loop-self
decreases-loop-self g l = l.at - l.self.at
