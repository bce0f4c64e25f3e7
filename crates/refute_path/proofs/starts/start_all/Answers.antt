use Rattle.std.proofs.Common.{◌≡◌, ◌+◌, None, Some, subst, arith}
use Rattle.refute_path.specs.EntryArenas.{Admits, IsStartAt, IsStartBelow}
use Rattle.refute_path.proofs.Admitting.{admits_less, admits_then}
use Rattle.refute_path.proofs.Entered.{start_first, start_later}
use Rattle.refute_path.proofs.starts.start_all.Goals as goal

pub loop-k-init : goal.loop-k-init
loop-k-init g c =
    let p = c.args.program.now in let items = c.args.items.now in admits_less p items c.args.entries.now c.args.bases.now.items c.start_with.new.entries c.start_with.new.bases.items (IsStartAt p None) (IsStartBelow p 0) (start_first p) c.in_ok-start_with.ensures

pub start_register-requires-clause-arena : goal.start_register-requires-clause-arena
start_register-requires-clause-arena g c = c.loop-k.invariant.follows.arena

pub loop-k-preserved : goal.loop-k-preserved
loop-k-preserved g c =
    let p = c.args.program.now in let items = c.args.items.now in let n = c.loop-k.k in
    admits_then p items c.args.entries.now c.args.bases.now.items c.loop-k.entries c.loop-k.bases.items c.start_register.new.entries c.start_register.new.bases.items
    (IsStartBelow p n) (IsStartAt p (Some n)) (IsStartBelow p (n + 1)) (start_later p n) c.loop-k.invariant c.in_ok-start_register.ensures

pub returns : goal.returns
returns g c =
    let e : c.loop-k.k ≡ 16 = let t = c.loop-k-test.false in let a = c.loop-k.auto.k-end in omega arith in
    subst (λ n. Admits c.args.program.now c.args.items.now c.args.entries.now c.loop-k.entries c.args.bases.now.items c.loop-k.bases.items (IsStartBelow c.args.program.now n)) e c.loop-k.invariant
