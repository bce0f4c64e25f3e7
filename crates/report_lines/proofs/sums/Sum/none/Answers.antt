use Rattle.std.proofs.Common.{◌≡◌, ℕ, get_or}
use Rattle.report_lines.proofs.Rows.{zeros, zero_terms}
use Rattle.report_lines.proofs.SumsGrow.{none_so_far}
use Rattle.report_lines.proofs.sums.Sum.none.Goals as goal

pub returns : goal.returns
returns c names p =
    let none : (k : ℕ) → get_or c.zero-row.result k 0 ≡ 0 = rw c.zero-row.ensures (zeros 17) in
    none_so_far names p c.zero-row.result none c.known.ensures.row (zero_terms names c.zero-row.result none)
