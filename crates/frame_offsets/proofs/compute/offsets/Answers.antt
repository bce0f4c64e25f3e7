use Rattle.std.proofs.Common.{◌≡◌, ℕ, List, ◌++◌, map, length, take, ap, subst, sym, ◌∙◌, arith}
use Rattle.std.proofs.Math.Seq.{take-append_seam}
use Rattle.frame_offsets.specs.Frames.{AreOffsets}
use Rattle.frame_offsets.specs.Tables.{offset_known}
use Rattle.frame_offsets.specs.declared.known.Known.{Known}
use Rattle.frame_offsets.proofs.Settled.{settled}
use Rattle.frame_offsets.proofs.compute.offsets.Goals as goal

-- a list before another
take-front : (n : ℕ) (xs ys : List Known) → n ≡ length xs → take n (xs ++ ys) ≡ xs
take-front n xs ys e = ap (λ (k : ℕ). take k (xs ++ ys)) e ∙ take-append_seam xs ys

pub returns : goal.returns
returns c =
    let size : length c.settle.new.table ≡ c.in-Ok.table.len = omega (arith, c.settle.auto.table, ap length c.deref_mut.ensures.value, c.in-Ok.table.ok.0) in
    let same : c.from_vec.result ≡ c.settle.new.table = c.from_vec.ensures ∙ take-front _ _ _ (sym size) in
    subst (AreOffsets c.args.points.now.points) (sym (c.of_table.ensures ∙ ap (map offset_known) same))
    (settled c.args.points.now c.settle.new.table c.known.ensures c.in_ok-settle.ensures)
