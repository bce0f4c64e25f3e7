use Rattle.std.proofs.Common.{◌≡◌, ◌+◌, None, subst, arith}
use Rattle.refute_path.specs.Gains.{Gains, IsOpeningBy, IsOpeningAt, IsOpeningOf}
use Rattle.refute_path.proofs.Gaining.{gains_less, gains_then, opened_first, opened_later}
use Rattle.refute_path.proofs.openings.open_proc.Goals as goal

pub loop-k-init : goal.loop-k-init
loop-k-init g c =
    gains_less c.args.program.now c.args.items.now c.args.bases.now.items c.open_by.new.items c.open_by.new.bases.items (IsOpeningBy c.args.program.now c.args.proc None) (IsOpeningOf c.args.program.now c.args.proc 0)
    (opened_first c.args.program.now c.args.proc) c.in_ok-open_by.ensures

pub open_slot-requires-clause-arena : goal.open_slot-requires-clause-arena
open_slot-requires-clause-arena g c = c.loop-k.invariant.extends.arena

pub loop-k-preserved : goal.loop-k-preserved
loop-k-preserved g c =
    gains_then c.args.program.now c.args.items.now c.args.bases.now.items c.loop-k.items c.loop-k.bases.items c.open_slot.new.items c.open_slot.new.bases.items
    (IsOpeningOf c.args.program.now c.args.proc c.loop-k.k) (IsOpeningAt c.args.program.now c.args.proc c.loop-k.k) (IsOpeningOf c.args.program.now c.args.proc (c.loop-k.k + 1))
    (opened_later c.args.program.now c.args.proc c.loop-k.k) c.loop-k.invariant c.in_ok-open_slot.ensures

pub returns : goal.returns
returns g c =
    let e : c.loop-k.k ≡ 16 = let t = c.loop-k-test.false in let a = c.loop-k.auto.k-end in omega arith in
    subst (λ n. Gains c.args.program.now c.args.items.now c.loop-k.items c.args.bases.now.items c.loop-k.bases.items (IsOpeningOf c.args.program.now c.args.proc n)) e c.loop-k.invariant
