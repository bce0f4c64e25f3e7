use Rattle.std.proofs.Common.{◌≡◌, List, ◌<◌, ◌≤◌, length, get_or, ap, sym, ◌∙◌, arith}
use Rattle.affine_prog.specs.declared.Edge.{Edge}
use Rattle.affine_prog.specs.declared.Proc.{Proc}
use Rattle.affine_prog.specs.Programs.{exit_of, owner_of}
use Rattle.row_engine.specs.Tables.{edge_at}
use Rattle.row_engine.proofs.ByNode.{edge_found, edge_of}
use Rattle.call_summaries.proofs.ByNumber.{owner_is, exit_at}
use Rattle.call_summaries.proofs.Marking.{marked_none, marked_set, marked_kept, marked_all}
use Rattle.call_summaries.proofs.returning.returning_procs.Goals.{then-as_slice-owner, else-as_slice-owner}
use Rattle.call_summaries.proofs.returning.returning_procs.Goals as goal

abbrev none : Proc
none = record { entry = 0; exit = 0; slots = 0 }

pub loop-edge-init : goal.loop-edge-init
loop-edge-init c = marked_none c.args.program.now c.in_ok-wanted.wanted.items c.in_ok-wanted.ensures

pub loop-edge-preserved : goal.loop-edge-preserved
loop-edge-preserved c =
    let b : c.loop-edge.edge-index < length c.args.program.now.edges = let n = ap (λ (l : List Edge). length l) c.as_slice-edge-items.ensures in let t = c.loop-edge-test.true in omega arith in
    let f = edge_found c.args.program.now c.loop-edge.edge-index c.edge-item.result c.as_slice-edge-items.result.now b c.as_slice-edge-items.ensures c.edge-item.is in
    let own : c.proc_of-owner.result ≡ owner_of c.args.program.now (edge_at c.args.program.now c.loop-edge.edge-index).to = c.proc_of-owner.ensures ∙ ap (λ (e : Edge). owner_of c.args.program.now e.to) f in
    let to = (edge_of c.args.program.now c.loop-edge.edge-index c.requires b).to in
    let o : c.proc_of-owner.result < length c.args.program.now.procs = let i = owner_is c.args.program.now (edge_at c.args.program.now c.loop-edge.edge-index).to c.requires to in omega arith in
    elim c.if-as_slice-owner.branch [
      | then-as_slice-owner w ↦ rw w.wanted-is (marked_set c.args.program.now c.loop-edge.edge-index c.loop-edge.wanted.items c.loop-edge.invariant c.proc_of-owner.result own o)
      | else-as_slice-owner w ↦
          rw w.wanted-is (marked_kept c.args.program.now c.loop-edge.edge-index c.loop-edge.wanted.items c.loop-edge.invariant
          (λ e. w.if-as_slice-owner.false (ap (λ (l : List Proc). (get_or l c.proc_of-owner.result none).exit) c.as_slice.ensures ∙ sym (exit_at c.args.program.now c.proc_of-owner.result none o)
          ∙ ap (exit_of c.args.program.now) own ∙ sym e ∙ ap (λ (x : Edge). x.to) (sym f))))
    ]

pub returns : goal.returns
returns c =
    let e : length c.args.program.now.edges ≤ c.loop-edge.edge-index = let n = ap (λ (l : List Edge). length l) c.as_slice-edge-items.ensures in let t = c.loop-edge-test.false in omega arith in
    marked_all c.args.program.now c.requires c.loop-edge.wanted.items c.loop-edge.edge-index e c.loop-edge.invariant
