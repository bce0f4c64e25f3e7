use Rattle.std.proofs.Common.{length}
use Rattle.verdict_text.proofs.writer.+push_found.Given as goal

abbrev pub decreases-push_found : goal.decreases-push_found
decreases-push_found l = length l.found.now
