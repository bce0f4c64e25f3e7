use Rattle.std.proofs.Common.{◌≡◌, ◌+◌, sym, ◌∙◌, ap, ℕ, arith}
use Rattle.row_modules.specs.Positions.{has}
use Rattle.lead_basis.specs.Mirrors.{masked}
use Rattle.lead_basis.proofs.Filling.{turned_all, turned_more, turned_zero}
use Rattle.lead_basis.proofs.Turned.{length-masked, masked_in, masked_out}
use Rattle.lead_basis.proofs.mirror.mirrored_row.Goals as goal
use Rattle.lead_basis.proofs.mirror.mirrored_row.Goals.{then-is_visible, else-is_visible}

pub loop-i-preserved : goal.loop-i-preserved
loop-i-preserved c =
    let below = c.loop-i-test.true in let end = c.loop-i.auto.i-end in
    let here = ap (λ (k : ℕ). has c.args.visible k) (let e : 0 + c.loop-i.i ≡ c.loop-i.i = omega arith in e) in
    elim c.if-is_visible.branch [
      | then-is_visible w ↦ rw w.words-is (turned_more (masked c.args.visible 0 c.args.row.now) c.loop-i.words c.loop-i.i w.get.result (omega arith)
          (w.get.ensures ∙ sym (masked_in c.args.visible 0 c.loop-i.i c.args.row.now (here ∙ sym c.is_visible.ensures ∙ w.if-is_visible.true))) c.loop-i.invariant)
      | else-is_visible w ↦ rw w.words-is (turned_zero (masked c.args.visible 0 c.args.row.now) c.loop-i.words c.loop-i.i (omega arith)
          (masked_out c.args.visible 0 c.loop-i.i c.args.row.now (here ∙ sym c.is_visible.ensures ∙ w.if-is_visible.false)) c.loop-i.invariant)
    ]

pub returns : goal.returns
returns c =
    let past = c.loop-i-test.false in let end = c.loop-i.auto.i-end in
    c.from_words.ensures ∙ turned_all (masked c.args.visible 0 c.args.row.now) c.loop-i.words (length-masked c.args.visible 0 c.args.row.now ∙ c.known.ensures.row.width) (let e : c.loop-i.i ≡ 17 = omega arith in rw e at c.loop-i.invariant)
