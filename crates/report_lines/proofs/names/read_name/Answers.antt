use Rattle.std.proofs.Common.{rules}
use Rattle.report_lines.proofs.NamesTold.{no_name}
use Rattle.report_lines.proofs.names.read_name.Goals as goal

pub returns-else-is_allowed_below : goal.returns-else-is_allowed_below
returns-else-is_allowed_below c =
    let slot = c.in-Some-read_slot.ensures in
    no_name c.args.text.now c.in-Some-read_slot.proc_entry c.in-Some-read_slot.below slot.0 slot.1 slot.2 (λ h. let k = c.is_allowed_below.ensures.1 h in search rules)
