use Rattle.std.proofs.Common.{rules}
use Rattle.map_modules.proofs.Entries.{matrix_from_entries}
use Rattle.map_modules.proofs.matrices.identity.Goals as goal

pub returns : goal.returns
returns c = matrix_from_entries _ _ c.matrix_from.ensures.width (λ i j row column. let h = c.matrix_from.ensures.words i j row column in search rules)
