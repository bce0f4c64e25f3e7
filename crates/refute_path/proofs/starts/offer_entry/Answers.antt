use Rattle.std.proofs.Common.{arith}
use Rattle.refute_path.proofs.Admitting.{admits_same, admits_grew}
use Rattle.refute_path.proofs.starts.offer_entry.Goals as goal

pub returns-then-not-branch : goal.returns-then-not-branch
returns-then-not-branch g c =
    let a = c.in_ok-insert.ensures.adds in let n = c.requires.arena.procs in let w = c.requires.proc in
    admits_same c.args.program.now c.requires.formed c.args.items.now c.requires.made c.args.entries.now c.args.bases.now.items c.requires.arena c.args.proc c.args.state.now c.args.came
    c.index_mut-basis.result.now c.insert.new.self (omega arith) c.index_mut-basis.ensures.value c.known.ensures.row c.known-2.ensures.basis c.insert.ensures.adds.between.basis
    c.in_ok-insert.ensures.same_module c.args.steps.now c.insert.new.steps c.insert.ensures.adds.bounded (a.not_grown.0 c.if-not-branch.true) (a.counts_no_more c.if-not-branch.true)

pub returns-in-Ok : goal.returns-in-Ok
returns-in-Ok g c =
    let a = c.in_ok-insert.ensures.adds in let n = c.requires.arena.procs in let w = c.requires.proc in
    rw c.in-Ok.ensures.ok
    (admits_grew c.args.program.now c.requires.formed c.args.items.now c.requires.made c.args.entries.now c.args.bases.now.items c.requires.arena c.args.proc c.args.state.now c.args.came
    c.index_mut-basis.result.now c.insert.new.self (omega arith) c.index_mut-basis.ensures.value c.known.ensures.row c.known-2.ensures.basis c.insert.ensures.adds.between.basis
    c.in_ok-insert.ensures.same_module c.args.steps.now c.insert.new.steps c.insert.ensures.adds.bounded (a.counts_growth c.if-not-branch.false) c.requires.came)
