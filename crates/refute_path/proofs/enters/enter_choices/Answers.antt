use Rattle.std.proofs.Common.{◌≡◌, ◌+◌, None, Some, subst, arith}
use Rattle.map_modules.specs.Matrices.{apply}
use Rattle.affine_prog.specs.Assignments.{unknown_count, matrix_of}
use Rattle.refute_path.specs.Tags.{words_by}
use Rattle.refute_path.specs.EntryArenas.{Admits, IsJust, IsChosen}
use Rattle.refute_path.proofs.Admitting.{admits_less, admits_then}
use Rattle.refute_path.proofs.Entered.{along_kept, chosen_first, chosen_later}
use Rattle.refute_path.proofs.enters.enter_choices.Goals as goal

pub loop-k-init : goal.loop-k-init
loop-k-init g c =
    let b = c.args.before.now in
    admits_less c.args.program.now c.args.items.now c.args.entries.now c.args.bases.now.items c.enter_by.new.entries c.enter_by.new.bases.items
    (IsJust c.args.proc (apply (matrix_of b (words_by (unknown_count b) None)) c.args.inner.now)) (IsChosen c.args.proc b c.args.inner.now 0) (chosen_first c.args.proc b c.args.inner.now) c.in_ok-enter_by.ensures

pub enter_by-requires-in-loop-k-clause-arena : goal.enter_by-requires-in-loop-k-clause-arena
enter_by-requires-in-loop-k-clause-arena g c = c.loop-k.invariant.follows.arena

pub enter_by-requires-in-loop-k-clause-along : goal.enter_by-requires-in-loop-k-clause-along
enter_by-requires-in-loop-k-clause-along g c =
    along_kept c.args.program.now c.args.items.now c.args.entries.now c.loop-k.entries c.args.bases.now.items c.loop-k.bases.items c.loop-k.invariant.follows
    c.args.outer c.args.level c.args.edge c.args.proc c.args.inner.now c.args.before.now c.requires.along

pub loop-k-preserved : goal.loop-k-preserved
loop-k-preserved g c =
    let b = c.args.before.now in let n = c.loop-k.k in
    admits_then c.args.program.now c.args.items.now c.args.entries.now c.args.bases.now.items c.loop-k.entries c.loop-k.bases.items c.enter_by-in-loop-k.new.entries c.enter_by-in-loop-k.new.bases.items
    (IsChosen c.args.proc b c.args.inner.now n) (IsJust c.args.proc (apply (matrix_of b (words_by (unknown_count b) (Some n))) c.args.inner.now)) (IsChosen c.args.proc b c.args.inner.now (n + 1))
    (chosen_later c.args.proc b c.args.inner.now n) c.loop-k.invariant c.in_ok-enter_by-2.ensures

pub returns : goal.returns
returns g c =
    let e : c.loop-k.k ≡ unknown_count c.args.before.now = let n = c.unknown_count-k-end.ensures in let t = c.loop-k-test.false in let a = c.loop-k.auto.k-end in omega arith in
    subst (λ n. Admits c.args.program.now c.args.items.now c.args.entries.now c.loop-k.entries c.args.bases.now.items c.loop-k.bases.items (IsChosen c.args.proc c.args.before.now c.args.inner.now n)) e c.loop-k.invariant
