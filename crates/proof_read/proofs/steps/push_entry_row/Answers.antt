use Rattle.proof_read.proofs.Pushing.{entries_pushed}
use Rattle.proof_read.proofs.steps.push_entry_row.Goals as goal

pub returns : goal.returns
returns c = rw (c.in_ok-push-2.ensures.ok, c.in_ok-push.ensures.ok) (entries_pushed c.args.entries c.args.entry c.args.row)
