use Rattle.lifted_calls.proofs.Seen.{seen_visible}
use Rattle.lifted_calls.proofs.laws.seen_rows_are_visible.Goals as goal

pub returns : goal.returns
returns c = seen_visible
