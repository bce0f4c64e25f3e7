use Rattle.std.proofs.Common.{◌≡◌, length, subst, arith}
use Rattle.refute_path.specs.EntryArenas.{Admits, IsEnteringAt}
use Rattle.refute_path.proofs.Admitting.{admits_none, entry_within}
use Rattle.refute_path.proofs.Entered.{at_more}
use Rattle.refute_path.proofs.enters.enter_level.Goals as goal

pub loop-e-init : goal.loop-e-init
loop-e-init g c =
    let p = c.args.program.now in let items = c.args.items.now in admits_none p items c.args.entries.now c.args.bases.now.items (IsEnteringAt p items c.args.entries.now c.args.outer c.args.level 0) c.requires.arena (λ q s (e, below, i). omega arith)

pub enter_along-requires-clause-arena : goal.enter_along-requires-clause-arena
enter_along-requires-clause-arena g c = c.loop-e.invariant.follows.arena

pub enter_along-requires-clause-outer : goal.enter_along-requires-clause-outer
enter_along-requires-clause-outer g c =
    entry_within c.args.program.now c.args.items.now c.args.entries.now c.args.bases.now.items c.loop-e.entries c.loop-e.bases.items c.loop-e.invariant.follows c.args.outer c.requires.outer

pub loop-e-preserved : goal.loop-e-preserved
loop-e-preserved g c =
    at_more c.args.program.now c.args.items.now c.args.entries.now c.loop-e.entries c.enter_along.new.entries c.args.bases.now.items c.loop-e.bases.items c.enter_along.new.bases.items c.args.outer c.args.level c.loop-e.e
    c.loop-e.invariant c.in_ok-enter_along.ensures

pub returns : goal.returns
returns g c =
    let e : c.loop-e.e ≡ length c.args.program.now.edges = let n = c.len-e-end.ensures in let t = c.loop-e-test.false in let a = c.loop-e.auto.e-end in omega arith in
    subst (λ n. Admits c.args.program.now c.args.items.now c.args.entries.now c.loop-e.entries c.args.bases.now.items c.loop-e.bases.items
    (IsEnteringAt c.args.program.now c.args.items.now c.args.entries.now c.args.outer c.args.level n)) e c.loop-e.invariant
