use Rattle.top_call.proofs.NoFault.{no_read_fault, no_write_fault}
use Rattle.top_call.proofs.laws.faults_have_causes.Goals as goal

pub returns-clause-reads : goal.returns-clause-reads
returns-clause-reads c = no_read_fault

pub returns-clause-writes : goal.returns-clause-writes
returns-clause-writes c = no_write_fault
