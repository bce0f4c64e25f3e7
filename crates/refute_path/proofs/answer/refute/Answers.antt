use Rattle.refute_path.proofs.Answering.{none_answered, pair_answered}
use Rattle.refute_path.proofs.answer.refute.Goals as goal

pub returns-in-None : goal.returns-in-None
returns-in-None g c =
    none_answered c.args.program.now c.requires.formed c.in_ok-items.items c.as_slice.result.now c.as_slice-2.result.now c.in_ok-entries.entries c.as_slice-3.result.now c.args.node c.proc_of-proc.result c.args.row.now
    c.as_slice.ensures c.as_slice-2.ensures c.as_slice-3.ensures c.proc_of-proc.ensures c.in_ok-items.ensures.made c.in_ok-items.ensures.closed c.in_ok-entries.ensures.came c.in_ok-entries.ensures.closed
    c.known.ensures.row c.requires.row c.in-None.ensures

pub returns : goal.returns
returns g c =
    pair_answered c.args.program.now c.in_ok-items.items c.as_slice-2.result.now c.as_slice-in-Some.result.now c.in_ok-entries.entries c.as_slice-3.result.now c.as_slice-in-Some-2.result.now
    c.args.node c.proc_of-proc.result c.args.row.now c.in-Some.pair c.in_ok-found-in-Some.found c.as_slice-2.ensures c.as_slice-in-Some.ensures c.as_slice-3.ensures c.as_slice-in-Some-2.ensures c.proc_of-proc.ensures
    c.in-Some.ensures c.in_ok-found-in-Some.ensures
