use Rattle.std.proofs.Common.{◌≡◌, ◌<◌, length, get_or, ap, sym, subst, ◌∙◌, arith}
use Rattle.affine_prog.specs.declared.Edge.{Edge}
use Rattle.row_engine.specs.Tables.{LeaveFirst, edge_at}
use Rattle.row_engine.proofs.ByNode.{edge_found, edge_of}
use Rattle.row_engine.proofs.ByNode.{leave_none, leave_more}
use Rattle.row_engine.proofs.lookups.edges_out.Goals as goal

pub loop-k-init : goal.loop-k-init
loop-k-init c = leave_none c.args.program.now c.in_ok-out.out.items c.in_ok-out.ensures

pub loop-k-preserved : goal.loop-k-preserved
loop-k-preserved c =
    let b : c.loop-k.k < length c.args.program.now.edges = let e = c.len-k-end.ensures in let t = c.loop-k-test.true in omega arith in
    let e = c.index-as_slice-k.result in
    let f = edge_found c.args.program.now c.loop-k.k e c.as_slice.result.now b c.as_slice.ensures c.index-as_slice-k.is in
    let v = (get_or c.as_slice.result.now c.loop-k.k e).from in
    let from : v ≡ (edge_at c.args.program.now c.loop-k.k).from = ap (λ (x : Edge). x.from) (sym c.index-as_slice-k.is ∙ f) in
    let n = (edge_of c.args.program.now c.loop-k.k c.requires b).from in
    leave_more c.args.program.now c.loop-k.k v c.loop-k.out.items c.index_mut.result.now c.push.new.self c.loop-k.invariant (omega arith) from c.index_mut.ensures.value c.in-Ok.ensures.ok

pub returns : goal.returns
returns c =
    let e : c.loop-k.k ≡ length c.args.program.now.edges = let n = c.len-k-end.ensures in let t = c.loop-k-test.false in let a = c.loop-k.auto.k-end in omega arith in
    subst (λ n. LeaveFirst c.args.program.now n c.loop-k.out.items) e c.loop-k.invariant
