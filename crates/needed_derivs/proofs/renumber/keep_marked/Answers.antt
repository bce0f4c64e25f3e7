use Rattle.std.proofs.Common.{false, slice_index_or, subst, arith}
use Rattle.refute_path.proofs.Traced.{found_at, found_item}
use Rattle.needed_derivs.specs.Renumbered.{renumbered, Puts}
use Rattle.needed_derivs.proofs.Keeping.{one_put}
use Rattle.needed_derivs.proofs.renumber.keep_marked.Goals as goal

pub loop-k-preserved : goal.loop-k-preserved
loop-k-preserved c =
    let derivs = c.args.derivs.now in
    let marks = c.args.marks.now in
    let k = c.loop-k.k in
    let d = c.index-derivs-k.result in
    let below = c.loop-k-test.true in
    let size = c.requires.size in
    let mark = slice_index_or marks k false in
    let put = subst (λ l. Puts mark c.loop-k.own c.keep.new.own (renumbered l d) c.in_ok-number.number) c.as_slice.ensures c.in_ok-number.ensures in
    rw c.in-Ok.ensures.ok
    (one_put derivs marks c.requires.earlier c.loop-k.own c.loop-k.numbers k c.loop-k.invariant d (found_item derivs k d below c.index-derivs-k.is) mark
    c.keep.new.own c.in_ok-number.number (found_at marks k false (omega (arith, below, size))) put)
