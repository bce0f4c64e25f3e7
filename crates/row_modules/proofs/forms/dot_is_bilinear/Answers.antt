use Rattle.word_rows.proofs.Laws.{dot_comm}
use Rattle.row_modules.proofs.Zeros.{dot_at_sum, dot_at_multiple}
use Rattle.row_modules.proofs.forms.dot_is_bilinear.Goals as goal

pub returns : goal.returns
returns c = record { symmetric = dot_comm; sum = dot_at_sum; multiple = dot_at_multiple }
