use Rattle.std.proofs.Common.{rules, arith}
use Rattle.report_lines.proofs.Listed.{from_first, from_next, from_last}
use Rattle.report_lines.proofs.track.are_listed.Goals as goal

pub loop-text-init : goal.loop-text-init
loop-text-init c = record { few = omega arith; same = from_first c.args.list.now }

pub returns-then-count-eq16 : goal.returns-then-count-eq16
returns-then-count-eq16 c =
    let next = from_next c.loop-text.rest.now c.in-Some.text.now c.in-Some.behind.now c.loop-text.count c.in-Some.ensures in
    (λ h. absurd (search rules), λ h. let k = (next.0 (c.loop-text.invariant.same.0 h)).0 in absurd (omega (arith, c.if-count-eq16.true)))

pub returns-then-not-is_name_text : goal.returns-then-not-is_name_text
returns-then-not-is_name_text c =
    let next = from_next c.loop-text.rest.now c.in-Some.text.now c.in-Some.behind.now c.loop-text.count c.in-Some.ensures in
    (λ h. absurd (search rules), λ h. let k = c.is_name_text.ensures.1 (next.0 (c.loop-text.invariant.same.0 h)).1 in search rules)

pub loop-text-preserved : goal.loop-text-preserved
loop-text-preserved c =
    let i = c.loop-text.invariant in
    let next = from_next c.loop-text.rest.now c.in-Some.text.now c.in-Some.behind.now c.loop-text.count c.in-Some.ensures in
    record {
      few = omega (arith, i.few, c.if-count-eq16.false);
      same = (
        λ h. (next.0 (i.same.0 h)).2,
        λ h. i.same.1 (next.1 (omega (arith, i.few, c.if-count-eq16.false), c.is_name_text.ensures.0 (search rules), h)),
      );
    }

pub returns : goal.returns
returns c =
    let i = c.loop-text.invariant in
    let last = from_last c.loop-text.rest.now c.loop-text.count i.few c.in_default.ensures in
    (λ h. i.same.1 (last.1 (c.is_name_text-2.ensures.0 h)), λ h. c.is_name_text-2.ensures.1 (last.0 (i.same.0 h)))
