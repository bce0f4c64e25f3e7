use Rattle.row_engine.proofs.Members.{on_err}
use Rattle.row_engine.proofs.Taking.{grows_one, taken_one, stays_same, stays_in, enters}
use Rattle.row_engine.proofs.take.take.Goals as goal
use Rattle.row_engine.proofs.take.take.Goals.{then-not-grew-via-then-not-grew, then-not-grew-via-else-not-grew+then-not-clear}

pub returns-in_err-grew : goal.returns-in_err-grew
returns-in_err-grew g c = record {
  grows = grows_one g.row.N c.args.bases.now.items c.args.marks.now.items c.args.queue.now c.args.to c.args.row.now c.index_mut-basis.result.now c.insert_marked.new.self c.index_mut-own.result.now c.insert_marked.new.marks
      c.requires.to c.requires.marks c.index_mut-basis.ensures.value c.index_mut-own.ensures.value c.known.ensures.row c.insert_marked.result c.args.steps.now c.insert_marked.new.steps
      c.insert_marked.ensures.adds c.insert_marked.ensures.writes c.args.queue.now;
  queues = on_err _ c.from_residual.result c.from_residual.ensures.0;
  taken = on_err _ c.from_residual.result c.from_residual.ensures.0;
}

pub returns-then-not-grew : goal.returns-then-not-grew
returns-then-not-grew g c = record {
  grows = grows_one g.row.N c.args.bases.now.items c.args.marks.now.items c.args.queue.now c.args.to c.args.row.now c.index_mut-basis.result.now c.insert_marked.new.self c.index_mut-own.result.now c.insert_marked.new.marks
      c.requires.to c.requires.marks c.index_mut-basis.ensures.value c.index_mut-own.ensures.value c.known.ensures.row c.insert_marked.result c.args.steps.now c.insert_marked.new.steps
      c.insert_marked.ensures.adds c.insert_marked.ensures.writes c.args.queue.now;
  queues = elim c.then-not-grew.branch [
    | then-not-grew-via-then-not-grew w ↦
        stays_same g.row.N c.args.bases.now.items c.args.marks.now.items c.args.queue.now c.args.to c.args.row.now c.index_mut-basis.result.now c.insert_marked.new.self c.index_mut-own.result.now c.insert_marked.new.marks
        c.requires.to c.requires.marks c.index_mut-basis.ensures.value c.index_mut-own.ensures.value c.known.ensures.row c.in_ok-grew.grew c.args.steps.now c.insert_marked.new.steps
        c.in_ok-grew.ensures.adds c.in_ok-grew.ensures.writes w.if-not-grew.true
    | then-not-grew-via-else-not-grew+then-not-clear w ↦
        stays_in g.row.N c.args.bases.now.items c.args.marks.now.items c.args.queue.now c.args.to c.args.row.now c.index_mut-basis.result.now c.insert_marked.new.self c.index_mut-own.result.now c.insert_marked.new.marks
        c.requires.to c.requires.marks c.index_mut-basis.ensures.value c.index_mut-own.ensures.value c.known.ensures.row c.in_ok-grew.grew c.args.steps.now c.insert_marked.new.steps
        c.in_ok-grew.ensures.adds c.in_ok-grew.ensures.writes (λ zeros. let t = c.is_clear-clear.ensures.marked zeros in let f = w.if-not-clear.true in absurd (cc))
  ];
  taken = taken_one g.row.N c.args.bases.now.items c.args.marks.now.items c.args.queue.now c.args.to c.args.row.now c.index_mut-basis.result.now c.insert_marked.new.self c.index_mut-own.result.now c.insert_marked.new.marks
      c.requires.to c.requires.marks c.index_mut-basis.ensures.value c.index_mut-own.ensures.value c.known.ensures.row c.in_ok-grew.grew c.args.steps.now c.insert_marked.new.steps
      c.in_ok-grew.ensures.adds c.in_ok-grew.ensures.writes c.args.queue.now;
}

pub returns-in-Ok : goal.returns-in-Ok
returns-in-Ok g c = record {
  grows = grows_one g.row.N c.args.bases.now.items c.args.marks.now.items c.args.queue.now c.args.to c.args.row.now c.index_mut-basis.result.now c.insert_marked.new.self c.index_mut-own.result.now c.insert_marked.new.marks
      c.requires.to c.requires.marks c.index_mut-basis.ensures.value c.index_mut-own.ensures.value c.known.ensures.row c.insert_marked.result c.args.steps.now c.insert_marked.new.steps
      c.insert_marked.ensures.adds c.insert_marked.ensures.writes c.push.new.self;
  queues =
      rw c.in-Ok.ensures.ok
      (enters g.row.N c.args.bases.now.items c.args.marks.now.items c.args.queue.now c.args.to c.args.row.now c.index_mut-basis.result.now c.insert_marked.new.self c.index_mut-own.result.now c.insert_marked.new.marks
      c.requires.to c.requires.marks c.index_mut-basis.ensures.value c.index_mut-own.ensures.value c.known.ensures.row c.in_ok-grew.grew c.args.steps.now c.insert_marked.new.steps
      c.in_ok-grew.ensures.adds c.in_ok-grew.ensures.writes c.if-not-grew.false);
  taken = taken_one g.row.N c.args.bases.now.items c.args.marks.now.items c.args.queue.now c.args.to c.args.row.now c.index_mut-basis.result.now c.insert_marked.new.self c.index_mut-own.result.now c.insert_marked.new.marks
      c.requires.to c.requires.marks c.index_mut-basis.ensures.value c.index_mut-own.ensures.value c.known.ensures.row c.in_ok-grew.grew c.args.steps.now c.insert_marked.new.steps
      c.in_ok-grew.ensures.adds c.in_ok-grew.ensures.writes c.push.new.self;
}

pub returns-in-Err : goal.returns-in-Err
returns-in-Err g c = record {
  grows = grows_one g.row.N c.args.bases.now.items c.args.marks.now.items c.args.queue.now c.args.to c.args.row.now c.index_mut-basis.result.now c.insert_marked.new.self c.index_mut-own.result.now c.insert_marked.new.marks
      c.requires.to c.requires.marks c.index_mut-basis.ensures.value c.index_mut-own.ensures.value c.known.ensures.row c.insert_marked.result c.args.steps.now c.insert_marked.new.steps
      c.insert_marked.ensures.adds c.insert_marked.ensures.writes c.push.new.self;
  queues = tt;
  taken = tt;
}
