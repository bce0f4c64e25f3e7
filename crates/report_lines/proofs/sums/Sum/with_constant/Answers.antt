use Rattle.report_lines.proofs.SumsGrow.{with_constant}
use Rattle.report_lines.proofs.sums.Sum.with_constant.Goals as goal

pub returns-in-Rising : goal.returns-in-Rising
returns-in-Rising c names p terms few sum =
    let s = rw c.in-Rising.is at sum in
    (s.known, s.rising, rw c.with-row.ensures (with_constant names p terms c.in-Rising.row c.in-Rising.next c.args.word few s (rw c.with-row.ensures at c.known.ensures.row)))
