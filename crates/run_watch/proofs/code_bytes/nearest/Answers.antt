use Rattle.std.proofs.Common.{◌≡◌, ◌+◌, ◌-◌, arith, subst}
use Rattle.run_watch.proofs.NearestCode.{nearest_below, nearest_last, Parts}
use Rattle.run_watch.proofs.code_bytes.nearest.Goals as goal

pub returns-then-below-gt0 : goal.returns-then-below-gt0
returns-then-below-gt0 c =
    let code = c.args.code.now in
    let b = c.args.byte in
    let some = c.if-below-gt0.true in
    let bound = c.count_to-below.ensures.within in
    let e : c.count_to-below.result ≡ c.count_to-below.result - 1 + 1 = omega (arith, some) in
    nearest_below code b (c.count_to-below.result - 1) (record { address = 0; length = 0 }) c.ranges.byte.fits c.requires (omega (arith, some, bound))
    (subst (λ n. Parts code b n) e c.count_to-below.ensures.parts)

pub returns : goal.returns
returns c =
    let code = c.args.code.now in
    let none = c.if-below-gt0.false in
    let last = c.in_ok-last.ensures in
    let e : c.count_to-below.result ≡ 0 = omega (arith, none) in
    nearest_last code c.args.byte c.in_ok-last.last (record { address = 0; length = 0 }) c.ranges.byte.fits c.requires (omega (arith, last.0, last.1))
    (subst (λ n. Parts code c.args.byte n) e c.count_to-below.ensures.parts)
