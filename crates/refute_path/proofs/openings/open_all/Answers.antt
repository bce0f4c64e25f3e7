use Rattle.std.proofs.Common.{◌≡◌, ◌+◌, length, subst, arith}
use Rattle.refute_path.specs.Gains.{Gains, IsOpeningOf, IsOpeningBelow}
use Rattle.refute_path.proofs.Gaining.{gains_none, gains_then, proc_later}
use Rattle.refute_path.proofs.openings.open_all.Goals as goal

pub loop-p-init : goal.loop-p-init
loop-p-init g c =
    gains_none c.args.program.now c.args.items.now c.args.bases.now.items (IsOpeningBelow c.args.program.now 0) c.requires.arena (λ u m (p, below, o). omega arith)

pub open_proc-requires-clause-arena : goal.open_proc-requires-clause-arena
open_proc-requires-clause-arena g c = c.loop-p.invariant.extends.arena

pub open_proc-requires-clause-proc : goal.open_proc-requires-clause-proc
open_proc-requires-clause-proc g c = let e = c.in-Ok.ensures.1 in let l = c.len-p-end.ensures in let t = c.loop-p-test.true in omega arith

pub loop-p-preserved : goal.loop-p-preserved
loop-p-preserved g c =
    let p = c.args.program.now in let n = c.loop-p.p in
    gains_then p c.args.items.now c.args.bases.now.items c.loop-p.items c.loop-p.bases.items c.open_proc.new.items c.open_proc.new.bases.items
    (IsOpeningBelow p n) (IsOpeningOf p n 16) (IsOpeningBelow p (n + 1)) (proc_later p n) c.loop-p.invariant
    (subst (λ q. Gains p c.loop-p.items c.open_proc.new.items c.loop-p.bases.items c.open_proc.new.bases.items (IsOpeningOf p q 16)) c.in-Ok.ensures.1 c.in_ok-open_proc.ensures)

pub returns : goal.returns
returns g c =
    let e : c.loop-p.p ≡ length c.args.program.now.procs = let n = c.len-p-end.ensures in let t = c.loop-p-test.false in let a = c.loop-p.auto.p-end in omega arith in
    subst (λ n. Gains c.args.program.now c.args.items.now c.loop-p.items c.args.bases.now.items c.loop-p.bases.items (IsOpeningBelow c.args.program.now n)) e c.loop-p.invariant
