use Rattle.proof_read.proofs.Pushing.{heads_pushed}
use Rattle.proof_read.proofs.steps.push_head_row.Goals as goal

pub returns : goal.returns
returns c = rw (c.in_ok-push-2.ensures.ok, c.in_ok-push.ensures.ok) (heads_pushed c.args.heads c.args.head c.args.row)
