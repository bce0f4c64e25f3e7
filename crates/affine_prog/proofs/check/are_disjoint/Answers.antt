use Rattle.std.proofs.Common.{arith, ap, refl, length}
use Rattle.std.proofs.lemmas.Bool.{false≢true}
use Rattle.std.proofs.lemmas.List.{length-map}
use Rattle.affine_prog.proofs.Lists.{union_more, union_apart_next, union_of_one, union_of_all}
use Rattle.affine_prog.proofs.check.are_disjoint.Goals as goal

pub loop-proc-init : goal.loop-proc-init
loop-proc-init c = union_of_one _

pub returns-then-taken-proc-ne0 : goal.returns-then-taken-proc-ne0
returns-then-taken-proc-ne0 c = (
  λ t. absurd (false≢true t),
  λ pairs. absurd (c.if-taken-proc-ne0.true (union_apart_next _ c.loop-proc.taken c.loop-proc.proc-index _ _ _ c.as_slice-proc-items.ensures c.loop-proc-test.true c.loop-proc.invariant pairs)),
)

pub loop-proc-preserved : goal.loop-proc-preserved
loop-proc-preserved c =
    union_more _ c.loop-proc.taken _ _ _ _ c.as_slice-proc-items.ensures c.loop-proc-test.true c.loop-proc.invariant c.if-taken-proc-ne0.false

pub returns : goal.returns
returns c =
    let e = ap length c.as_slice-proc-items.ensures in
    (λ t. union_of_all _ c.loop-proc.taken c.loop-proc.proc-index _ (simp length-map (omega arith)) c.loop-proc.invariant, λ pairs. refl)
