use Rattle.std.proofs.Common.{rules, ap, ◌∙◌}
use Rattle.map_modules.specs.Matrices.{with_slots}
use Rattle.map_modules.proofs.Entries.{matrix_from_entries}
use Rattle.map_modules.proofs.calls.extend_call.Goals as goal

pub returns-clause-linear : goal.returns-clause-linear
returns-clause-linear c = matrix_from_entries _ _ c.matrix_from.ensures.width (λ i j row column. let h = c.matrix_from.ensures.words i j row column in search rules)

pub returns-clause-map : goal.returns-clause-map
returns-clause-map c = λ e. returns-clause-linear c ∙ ap (λ one. with_slots one c.args.registers c.args.slots c.args.m.now) e
