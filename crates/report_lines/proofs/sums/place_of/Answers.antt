use Rattle.std.proofs.Common.{arith, rules, subst, sym, ◌<◌, ℕ, length, get_or}
use Rattle.report_text.specs.declared.names.Name.TheVariants.{Register}
use Rattle.report_text.specs.Names.{IsSeenIn}
use Rattle.report_lines.specs.Relations.{place_in}
use Rattle.report_lines.proofs.Placed.{not_known, place_first, seen_so, seen_there}
use Rattle.report_lines.proofs.sums.place_of.Goals as goal

pub returns-in-None : goal.returns-in-None
returns-in-None c = not_known c.args.names.now c.requires.allowed c.requires.addressed c.args.text.now c.args.procedure (Register 0) c.in-None.ensures

pub returns-then-place-names : goal.returns-then-place-names
returns-then-place-names c h =
    let found = c.in-Some.ensures in
    let k = place_first c.args.names.now c.requires.allowed c.requires.addressed c.in-Some.name c.first_place-place.result c.args.text.now c.first_place-place.ensures found.0 found.1 found.2 in
    let there = seen_there c.args.names.now c.args.procedure (place_in c.args.names.now c.args.text.now) (Register 0) h in
    omega arith

pub returns-then-is_seen : goal.returns-then-is_seen
returns-then-is_seen c =
    let found = c.in-Some.ensures in
    let lt : c.first_place-place.result < length c.args.names.now = omega (arith, c.first_place-place.ensures.within) in (
      place_first c.args.names.now c.requires.allowed c.requires.addressed c.in-Some.name c.first_place-place.result c.args.text.now c.first_place-place.ensures found.0 found.1 found.2,
      lt,
      seen_so c.args.names.now c.args.procedure c.first_place-place.result (Register 0) lt
          (rw c.first_place-place.ensures.here (c.is_seen.ensures.0 (search rules))),
    )

pub returns-else-is_seen : goal.returns-else-is_seen
returns-else-is_seen c h =
    let found = c.in-Some.ensures in
    let k = place_first c.args.names.now c.requires.allowed c.requires.addressed c.in-Some.name c.first_place-place.result c.args.text.now c.first_place-place.ensures found.0 found.1 found.2 in
    let lt : c.first_place-place.result < length c.args.names.now = omega (arith, c.first_place-place.ensures.within) in
    let there = seen_there c.args.names.now c.args.procedure (place_in c.args.names.now c.args.text.now) (Register 0) h in
    let seen : IsSeenIn c.args.procedure c.in-Some.name =
    subst (IsSeenIn c.args.procedure) (c.first_place-place.ensures.here (Register 0) lt)
    (subst (λ (i : ℕ). IsSeenIn c.args.procedure (get_or c.args.names.now i (Register 0))) (sym k) there.1) in
    let t = c.is_seen.ensures.1 seen in absurd (search rules)
