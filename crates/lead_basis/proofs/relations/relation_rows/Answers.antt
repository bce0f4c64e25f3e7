use Rattle.std.proofs.Common.{◌≡◌, ℕ, suc, ◌-◌, List, refl, ap, sym, subst, ◌∙◌, arith}
use Rattle.lead_basis.specs.Relations.{pivot_at, closing_word, place_after, IsRelation}
use Rattle.lead_basis.proofs.Pivots.{Passed, passed_none, passed_on}
use Rattle.lead_basis.proofs.Duals.{dual_none, dual_hidden, dual_one, dual_row, dual_solves}
use Rattle.lead_basis.proofs.relations.relation_rows.Goals as goal
use Rattle.lead_basis.proofs.relations.relation_rows.Goals.{then-is_visible+then-pivot-ne1+in-Ok, else-is_visible, else-is_visible-via-then-is_visible+else-pivot-ne1, else-is_visible-via-else-is_visible}

pub loop-position-init : goal.loop-position-init
loop-position-init c = record {
  within = omega arith;
  passed = passed_none c.args.mirrored.now;
  done = λ source m. rw c.new-rows.ensures.items (dual_none c.args.visible source c.args.mirrored.now m);
}

pub relation-requires-clause-word : goal.relation-requires-clause-word
relation-requires-clause-word c =
    let some = c.loop-position-test.true in
    let in_range = c.loop-position.invariant.within in
    let e : 16 - (c.loop-position.position - 1) ≡ 17 - c.loop-position.position = omega arith in
    let p : Passed c.args.mirrored.now (16 - (c.loop-position.position - 1)) c.loop-position.at = rw e c.loop-position.invariant.passed in
    let q = passed_on 17 c.args.mirrored.now c.rows-basis.result.now (16 - (c.loop-position.position - 1)) c.loop-position.at c.pivot_from-pivot.result (place_after c.loop-position.at c.pivot_from-pivot.result)
    c.known.ensures.basis c.rows-basis.ensures c.pivot_from-pivot.ensures refl p in
    c.closing_word_of.ensures ∙ ap closing_word (q.0 ∙ ap (λ (x : List (List ℕ)). pivot_at x (16 - (c.loop-position.position - 1))) (sym c.rows-basis.ensures))

pub loop-position-preserved : goal.loop-position-preserved
loop-position-preserved c =
    let some = c.loop-position-test.true in
    let in_range = c.loop-position.invariant.within in
    let up : suc (c.loop-position.position - 1) ≡ c.loop-position.position = omega arith in
    let e : 16 - (c.loop-position.position - 1) ≡ 17 - c.loop-position.position = omega arith in
    let next : 17 - (c.loop-position.position - 1) ≡ suc (16 - (c.loop-position.position - 1)) = omega arith in
    let p : Passed c.args.mirrored.now (16 - (c.loop-position.position - 1)) c.loop-position.at = rw e c.loop-position.invariant.passed in
    let q = passed_on 17 c.args.mirrored.now c.rows-basis.result.now (16 - (c.loop-position.position - 1)) c.loop-position.at c.pivot_from-pivot.result c.place_after-at.result
    c.known.ensures.basis c.rows-basis.ensures c.pivot_from-pivot.ensures c.place_after-at.ensures p in
    record {
      within = omega arith;
      passed = rw next q.1;
      done = elim c.if-is_visible.branch [
        | then-is_visible+then-pivot-ne1+in-Ok w ↦ λ source m.
            rw w.rows-is (dual_row c.args.visible source c.args.mirrored.now m (c.loop-position.position - 1) w.closing_word_of.result c.pivot_from-pivot.result c.loop-position.rows.items w.insert.new.self.items w.turned-row.result w.relation.result
            (omega arith) (sym c.is_visible.ensures ∙ w.if-is_visible.true) q.0 w.if-pivot-ne1.true w.closing_word_of.ensures w.turned-row.ensures w.in-Ok.ensures.items (rw up (c.loop-position.invariant.done source m))
            (subst (λ (x : List (List ℕ)). IsRelation 17 x (16 - (c.loop-position.position - 1)) w.closing_word_of.result w.relation.result) c.rows-basis.ensures w.relation.ensures))
        | else-is_visible w ↦ λ source m. rw w.rows-is (elim w.else-is_visible.branch [
          | else-is_visible-via-then-is_visible+else-pivot-ne1 v ↦
              dual_one c.args.visible source c.args.mirrored.now m (c.loop-position.position - 1) c.loop-position.rows.items (omega arith) (sym q.0 ∙ v.if-pivot-ne1.false) (rw up (c.loop-position.invariant.done source m))
          | else-is_visible-via-else-is_visible v ↦
              dual_hidden c.args.visible source c.args.mirrored.now m (c.loop-position.position - 1) c.loop-position.rows.items (omega arith) (sym c.is_visible.ensures ∙ v.if-is_visible.false) (rw up (c.loop-position.invariant.done source m))
        ])
      ];
    }

pub returns : goal.returns
returns c = λ source m.
    let past = c.loop-position-test.false in
    let e : c.loop-position.position ≡ 0 = omega arith in
    dual_solves c.args.visible source c.args.mirrored.now m c.loop-position.rows.items (rw e at (c.loop-position.invariant.done source m))
