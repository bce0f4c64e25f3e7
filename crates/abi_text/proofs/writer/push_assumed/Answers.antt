use Rattle.std.proofs.Common.{◌≡◌, ◌++◌, List, ap, subst, ◌∙◌}
use Rattle.std.specs.Prelude.{ℕ, codes, OnOk}
use Rattle.std.proofs.lemmas.List.{append_assoc}
use Rattle.abi_text.specs.Premises.{premise_lines}
use Rattle.abi_text.proofs.writer.push_assumed.Goals as goal

pub returns : goal.returns
returns c =
    subst (λ (all : List ℕ). OnOk c.push_premises.result (c.push_premises.new.text.items ≡ all))
    (ap (λ (all : List ℕ). all ++ premise_lines c.args.why c.args.assumed.now) c.in_ok-extend_from_slice.ensures.items
    ∙ append_assoc c.args.text.now.items (codes "\nassumed of runs\n  code isn't written over\n  the stack doesn't wrap\n") (premise_lines c.args.why c.args.assumed.now))
    c.push_premises.ensures
