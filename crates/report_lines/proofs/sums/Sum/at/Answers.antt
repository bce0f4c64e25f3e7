use Rattle.std.proofs.Common.{arith}
use Rattle.report_lines.proofs.SumsGrow.{known_before, known_more, rising_before, falls, grown}
use Rattle.report_lines.proofs.sums.Sum.at.Goals as goal

pub returns-then-place-next : goal.returns-then-place-next
returns-then-place-next c names p terms text few place sum =
    let s = rw c.in-Rising.is at sum in (
      known_more names p terms c.args.word text c.args.place place.0 place.1 place.2 s.known,
      falls names p terms c.args.word text c.args.place place.0 place.1 place.2 c.in-Rising.row c.in-Rising.next s c.if-place-next.true,
    )

pub returns-in-Disordered : goal.returns-in-Disordered
returns-in-Disordered c names p terms text few place sum =
    let s = rw c.in-Disordered.is at sum in (
      known_more names p terms c.args.word text c.args.place place.0 place.1 place.2 s.0,
      λ h. s.1 (rising_before names p terms c.args.word text h),
    )

pub returns-in-Unknown : goal.returns-in-Unknown
returns-in-Unknown c names p terms text few place sum h =
    let s = rw c.in-Unknown.is at sum in s (known_before names p terms c.args.word text h)

pub returns-else-place-next : goal.returns-else-place-next
returns-else-place-next c names p terms text few place sum =
    let s = rw c.in-Rising.is at sum in
    rw c.with-row.ensures (grown names p terms c.args.word text c.args.place place.0 place.1 place.2 c.in-Rising.row c.in-Rising.next s
    (omega (arith, c.if-place-next.false)) c.requires.factor few (rw c.with-row.ensures at c.known.ensures.row))
