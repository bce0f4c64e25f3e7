use Rattle.std.proofs.Common.{◌≡◌, ◌++◌, List, ap, subst, ◌∙◌}
use Rattle.std.specs.Prelude.{ℕ, false, codes, OnOk}
use Rattle.std.proofs.lemmas.List.{append_assoc}
use Rattle.number_text.specs.Numerals.{hex}
use Rattle.abi_text.specs.Findings.{also_names, return_text}
use Rattle.abi_text.proofs.findings.push_return.Goals as goal

pub returns : goal.returns
unfolding return_text
returns c =
    let at : List ℕ = hex c.args.fault.address in
    let lead : List ℕ = codes "\n       returns at " in
    let also : List ℕ = also_names c.args.symbols.now c.args.f.now.procedure c.args.f.now.register c.args.fault false c.args.routines.now in
    subst (λ (all : List ℕ). OnOk c.push_also.result (c.push_also.new.text.items ≡ all))
    (ap (λ (all : List ℕ). all ++ also)
    (c.in_ok-push_hex.ensures.ok ∙ ap (λ (all : List ℕ). all ++ at) c.in_ok-extend_from_slice.ensures.items ∙ append_assoc c.args.text.now.items lead at)
    ∙ append_assoc c.args.text.now.items (lead ++ at) also)
    c.push_also.ensures
