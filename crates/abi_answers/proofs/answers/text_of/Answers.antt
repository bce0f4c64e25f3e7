use Rattle.std.proofs.Common.{◌≡◌, List, IfOk, subst, ◌∙◌}
use Rattle.abi_premises.specs.declared.premises.Assumption.{Assumption}
use Rattle.abi_answers.specs.Answers.{form_text}
use Rattle.abi_answers.proofs.answers.text_of.Goals as goal

pub returns-in-Ok : goal.returns-in-Ok
returns-in-Ok c =
    subst (λ (all : List Assumption).
    IfOk c.form_of.result (λ text. text.items ≡ form_text c.args.form c.args.file.now c.args.image.now c.args.rows.now c.args.routines.now all))
    (c.as_slice.ensures ∙ c.in-Ok.ensures) c.form_of.ensures
