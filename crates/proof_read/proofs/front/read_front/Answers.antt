use Rattle.proof_read.proofs.Again.{read_again}
use Rattle.proof_read.proofs.Told.{found}
use Rattle.proof_read.proofs.front.read_front.Goals as goal

pub returns-clause-found : goal.returns-clause-found
returns-clause-found c = found c.args.text.now c.read_lines.result c.read_lines.ensures

pub returns-clause-only : goal.returns-clause-only
returns-clause-only c front rest rows words is = read_again front rest c.args.text.now c.read_lines.result rows words is c.read_lines.ensures
