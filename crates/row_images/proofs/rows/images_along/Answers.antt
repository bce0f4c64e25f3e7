use Rattle.std.proofs.Common.{◌≡◌, ◌/◌, ◌⊎◌, inl, inr, ℕ, List, IfOk, length, slice_index, ap, subst, sym, ◌∙◌, arith}
use Rattle.std.proofs.lemmas.Bool.{eq-eqb, false≢true}
use Rattle.word_rows.specs.Rows.{IsRow}
use Rattle.row_images.proofs.Prepared.{prepared_first, prepared_all}
use Rattle.row_images.proofs.rows.images_along.Goals as goal

the_second : {A B : Type 0} → (A → ⊥) → A ⊎ B → B
the_second not_first h = elim h [ inl a ↦ absurd (not_first a) | inr b ↦ b ]

pub returns-then-get-eq0 : goal.returns-then-get-eq0
returns-then-get-eq0 g c =
    let k = g.row.N / 17 in
    let whole = c.requires.whole in let some = c.known.ensures.some in
    let is = the_second (λ e. false≢true (c.if-is_empty.ensures ∙ eq-eqb (length c.args.prepared.now) 0 (ap (λ (x : List (List ℕ)). length x) e))) c.requires.prepared in
    subst (λ (x : List (List ℕ)). IfOk c.moved_by.result (λ images. images ≡ x))
    (prepared_first k (omega arith) c.args.assigns.now c.args.prepared.now c.args.row.now is
    (ap (slice_index c.args.row.now) (omega arith) ∙ sym c.get.ensures ∙ c.if-get-eq0.true)) c.moved_by.ensures

pub returns-else-get-eq0 : goal.returns-else-get-eq0
returns-else-get-eq0 g c =
    let k = g.row.N / 17 in
    let whole = c.requires.whole in let some = c.known.ensures.some in
    let is = the_second (λ e. false≢true (c.if-is_empty.ensures ∙ eq-eqb (length c.args.prepared.now) 0 (ap (λ (x : List (List ℕ)). length x) e))) c.requires.prepared in
    subst (λ (x : List (List ℕ)). IfOk c.moved_by-else-get-eq0.result (λ images. images ≡ x))
    (prepared_all k (omega arith) c.args.assigns.now c.args.prepared.now c.args.row.now is c.requires.placed (subst (λ n. IsRow n c.args.row.now) whole c.known.ensures.row) c.requires.constant
    (λ e. c.if-get-eq0.false (c.get.ensures ∙ ap (slice_index c.args.row.now) (omega arith) ∙ e))) c.moved_by-else-get-eq0.ensures
