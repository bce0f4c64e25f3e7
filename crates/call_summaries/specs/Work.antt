-- How much work the summaries of a program can take. A step is one change of a basis, as the counter has it.
--
--   work_bound program     64 for each node and each position of a map that a name or the constant has
use Rattle.std.specs.Prelude.{ℕ, ◌+◌, ◌*◌}
use Rattle.affine_prog.specs.declared.Program.{Program}

abbrev pub work_bound : Program → ℕ
work_bound program = 64 * program.nodes * ((program.width + 1) * (program.width + 1))
