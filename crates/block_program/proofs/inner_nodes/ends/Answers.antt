use Rattle.std.proofs.Common.{arith}
use Rattle.affine_prog.specs.declared.Proc.{Proc}
use Rattle.block_program.proofs.Ending.{ends_push}
use Rattle.block_program.proofs.Procs.{place_read, end_read}
use Rattle.block_program.proofs.inner_nodes.ends.Goals as goal

pub index_mut-requires : goal.index_mut-requires
index_mut-requires c =
    let o = c.requires.procs c.loop-proc.proc-index (place_read _ _ _ c.as_slice-proc-items.ensures c.loop-proc-test.true) in
    omega (arith, o.entry, end_read _ _ _ c.as_slice-proc-items.ensures c.loop-proc-test.true (λ p. p.entry) (record { entry = 0; exit = 0; slots = 0 }), c.loop-proc.invariant.long, c.loop-proc.table.ok.0)

pub loop-proc-preserved : goal.loop-proc-preserved
loop-proc-preserved c =
    let d : Proc = record { entry = 0; exit = 0; slots = 0 } in
    let o = c.requires.procs c.loop-proc.proc-index (place_read _ _ _ c.as_slice-proc-items.ensures c.loop-proc-test.true) in
    let one = end_read _ _ _ c.as_slice-proc-items.ensures c.loop-proc-test.true (λ p. p.entry) d in
    let two = end_read _ _ _ c.as_slice-proc-items.ensures c.loop-proc-test.true (λ p. p.exit) d in
    ends_push c.args.program.now c.loop-proc.proc-index c.loop-proc.table.items _ _ one two (omega (arith, o.entry, one)) (omega (arith, o.exit, two)) c.loop-proc.invariant

pub index_mut-requires-in-loop-proc : goal.index_mut-requires-in-loop-proc
index_mut-requires-in-loop-proc c =
    let o = c.requires.procs c.loop-proc.proc-index (place_read _ _ _ c.as_slice-proc-items.ensures c.loop-proc-test.true) in
    omega (arith, o.exit, end_read _ _ _ c.as_slice-proc-items.ensures c.loop-proc-test.true (λ p. p.exit) (record { entry = 0; exit = 0; slots = 0 }), c.loop-proc.invariant.long, c.loop-proc.table.ok.0)
