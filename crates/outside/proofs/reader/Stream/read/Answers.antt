-- What was read is what the reader lost.
use Rattle.std.proofs.Common.{rules, ◌≡◌, ◌+◌, subst, sym}
use Rattle.outside.specs.Streams.{IsReadAt}
use Rattle.outside.proofs.Consumed.{of_read}
use Rattle.outside.proofs.reader.Stream.read.Goals as goal

pub returns-clause-read : goal.returns-clause-read
returns-clause-read g c whole stood =
    let place : c.in-Some.behind ≡ c.args.self.now.at + c.in_ok-n.n = search rules in
    subst (λ p. IsReadAt whole c.args.self.now.at c.in_ok-n.n c.read_once.new.into (g.F.Read.remaining c.read_once.new.file) p) (sym place)
    (of_read whole _ _ _ _ _ c.in_ok-n.ensures.bound stood c.in_ok-n.ensures.bytes.0 c.in_ok-n.ensures.bytes.1)
