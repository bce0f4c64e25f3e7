use Rattle.std.proofs.Common.{◌≡◌, length, subst, arith}
use Rattle.refute_path.specs.EntryArenas.{Admits, IsEnteringFrom}
use Rattle.refute_path.proofs.Admitting.{admits_none, entry_within}
use Rattle.refute_path.proofs.Entered.{from_more}
use Rattle.refute_path.proofs.enters.enter_entry.Goals as goal

pub loop-level-init : goal.loop-level-init
loop-level-init g c =
    let p = c.args.program.now in let items = c.args.items.now in admits_none p items c.args.entries.now c.args.bases.now.items (IsEnteringFrom p items c.args.entries.now c.args.outer 0) c.requires.arena (λ q s (level, below, i). omega arith)

pub enter_level-requires-clause-arena : goal.enter_level-requires-clause-arena
enter_level-requires-clause-arena g c = c.loop-level.invariant.follows.arena

pub enter_level-requires-clause-outer : goal.enter_level-requires-clause-outer
enter_level-requires-clause-outer g c =
    entry_within c.args.program.now c.args.items.now c.args.entries.now c.args.bases.now.items c.loop-level.entries c.loop-level.bases.items c.loop-level.invariant.follows c.args.outer c.requires.outer

pub loop-level-preserved : goal.loop-level-preserved
loop-level-preserved g c =
    from_more c.args.program.now c.args.items.now c.args.entries.now c.loop-level.entries c.enter_level.new.entries c.args.bases.now.items c.loop-level.bases.items c.enter_level.new.bases.items c.args.outer c.loop-level.level
    c.loop-level.invariant c.in_ok-enter_level.ensures

pub returns : goal.returns
returns g c =
    let e : c.loop-level.level ≡ length c.args.items.now = let t = c.loop-level-test.false in let a = c.loop-level.auto.level-end in omega arith in
    subst (λ n. Admits c.args.program.now c.args.items.now c.args.entries.now c.loop-level.entries c.args.bases.now.items c.loop-level.bases.items
    (IsEnteringFrom c.args.program.now c.args.items.now c.args.entries.now c.args.outer n)) e c.loop-level.invariant
