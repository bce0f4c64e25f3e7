use Rattle.std.proofs.Common.{◌≡◌, ◌++◌, List, [], ◌∷◌, ap, subst, ◌∙◌}
use Rattle.std.specs.Prelude.{ℕ, OnOk}
use Rattle.std.proofs.lemmas.List.{append_assoc}
use Rattle.abi_text.specs.Findings.{where_text, value_words, way_text, fault_text}
use Rattle.abi_text.proofs.findings.push_fault.Goals as goal

pub returns : goal.returns
unfolding fault_text
returns c =
    let p : ℕ = c.args.f.now.procedure in
    let place : List ℕ = where_text c.args.image.now c.args.rows.now p (c.args.f.now.register ∷ []) c.args.fault.changed in
    let words : List ℕ = value_words c.args.image.now c.args.rows.now p c.args.fault.changed c.args.fault.value in
    let way = λ (walk : List ℕ). way_text c.args.why c.args.rows.now p walk in
    subst (λ (all : List ℕ). OnOk c.push_way.result (c.push_way.new.text.items ≡ all))
    (ap (λ (all : List ℕ). all ++ way c.as_slice.result.now)
    (c.in_ok-push_value_words.ensures ∙ ap (λ (all : List ℕ). all ++ words) c.in_ok-push_where.ensures ∙ append_assoc c.args.text.now.items place words)
    ∙ append_assoc c.args.text.now.items (place ++ words) (way c.as_slice.result.now)
    ∙ ap (λ (walk : List ℕ). c.args.text.now.items ++ (place ++ words ++ way walk)) c.as_slice.ensures) c.push_way.ensures
