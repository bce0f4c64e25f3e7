use Rattle.std.proofs.Common.{◌∙◌, map, sym, arith}
use Rattle.std.proofs.lemmas.Grind.{same_number_lists}
use Rattle.std.proofs.lemmas.List.{get_or-map, length-map}
use Rattle.narrow_words.specs.Text.{widened}
use Rattle.narrow_words.proofs.text.widened_row.Goals as goal

pub returns : goal.returns
returns c =
    let row = c.args.row.now in
    let wide = c.known.ensures.row.width in
    let all = c.loop-i.invariant.width in
    same_number_lists c.loop-i.own (map widened row) (all ∙ sym (length-map row widened ∙ wide)) (λ k below.
    c.loop-i.invariant.done k (omega (arith, below, all)) ∙ sym (get_or-map widened row k 0 0 (omega (arith, below, all, wide))))
