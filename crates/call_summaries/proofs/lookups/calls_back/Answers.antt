use Rattle.std.proofs.Common.{◌≡◌, ℕ, List, ◌<◌, length, get_or, ap, sym, subst, ◌∙◌, arith}
use Rattle.affine_prog.specs.declared.Edge.{Edge}
use Rattle.affine_prog.specs.declared.Proc.{Proc}
use Rattle.call_summaries.specs.Tables.{ReturnFirst}
use Rattle.row_engine.proofs.ByNode.{edge_found}
use Rattle.call_summaries.proofs.ByNumber.{callee_of, exit_below, exit_at}
use Rattle.call_summaries.proofs.Tabled.{return_none, return_more, return_skipped}
use Rattle.call_summaries.proofs.lookups.calls_back.Goals.{in-Call+in-Ok, in-Do}
use Rattle.call_summaries.proofs.lookups.calls_back.Goals as goal

abbrev none : Proc
none = record { entry = 0; exit = 0; slots = 0 }

pub index_mut-requires : goal.index_mut-requires
index_mut-requires c =
    let b : c.loop-k.k < length c.args.program.now.edges = let e = c.len-k-end.ensures in let t = c.loop-k-test.true in omega arith in
    let e = c.index-as_slice-k.result in
    let f = edge_found c.args.program.now c.loop-k.k e c.as_slice.result.now b c.as_slice.ensures c.index-as_slice-k.is in
    let q = callee_of c.args.program.now c.loop-k.k c.requires b c.in-Call.callee c.in-Call.before (sym (ap (λ (x : Edge). x.kind) (sym c.index-as_slice-k.is ∙ f)) ∙ c.in-Call.is) in
    let x = exit_below c.args.program.now c.in-Call.callee c.as_slice-in-Call.result.now none c.requires q c.as_slice-in-Call.ensures in
    let e : c.loop-k.back.len ≡ c.args.program.now.nodes = c.loop-k.back.ok.0 ∙ c.loop-k.invariant.each in
    subst (λ (n : ℕ). (get_or c.as_slice-in-Call.result.now c.in-Call.callee none).exit < n) (sym e) x

pub loop-k-init : goal.loop-k-init
loop-k-init c = return_none c.args.program.now c.in_ok-back.back.items c.in_ok-back.ensures

pub loop-k-preserved : goal.loop-k-preserved
loop-k-preserved c =
    let b : c.loop-k.k < length c.args.program.now.edges = let e = c.len-k-end.ensures in let t = c.loop-k-test.true in omega arith in
    let e = c.index-as_slice-k.result in
    let f = edge_found c.args.program.now c.loop-k.k e c.as_slice.result.now b c.as_slice.ensures c.index-as_slice-k.is in
    elim c.match-as_slice-k.branch [
      | in-Call+in-Ok w ↦
          let kind = sym (ap (λ (x : Edge). x.kind) (sym c.index-as_slice-k.is ∙ f)) ∙ w.in-Call.is in
          let q = callee_of c.args.program.now c.loop-k.k c.requires b w.in-Call.callee w.in-Call.before kind in
          let x = exit_below c.args.program.now w.in-Call.callee w.as_slice-in-Call.result.now _ c.requires q w.as_slice-in-Call.ensures in
          rw w.back-is
          (return_more c.args.program.now c.loop-k.k _ w.in-Call.callee w.in-Call.before c.loop-k.back.items w.index_mut.result.now w.push.new.self kind c.loop-k.invariant x
          (ap (λ (procs : List Proc). (get_or procs w.in-Call.callee none).exit) w.as_slice-in-Call.ensures ∙ sym (exit_at c.args.program.now w.in-Call.callee none q)) w.index_mut.ensures.value w.in-Ok.ensures.ok)
      | in-Do w ↦ rw w.back-is (return_skipped c.args.program.now c.loop-k.k c.loop-k.back.items w.in-Do.field-0 (sym (ap (λ (x : Edge). x.kind) (sym c.index-as_slice-k.is ∙ f)) ∙ w.in-Do.is) c.loop-k.invariant)
    ]

pub returns : goal.returns
returns c =
    let e : c.loop-k.k ≡ length c.args.program.now.edges = let n = c.len-k-end.ensures in let t = c.loop-k-test.false in let a = c.loop-k.auto.k-end in omega arith in
    subst (λ n. ReturnFirst c.args.program.now n c.loop-k.back.items) e c.loop-k.invariant
