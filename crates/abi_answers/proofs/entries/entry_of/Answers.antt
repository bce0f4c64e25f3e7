use Rattle.std.proofs.Common.{List, sym, subst, ◌∙◌}
use Rattle.elf_image.specs.declared.symbol.Symbol.{Symbol}
use Rattle.affine_lift.specs.Tracking.{IsPlace}
use Rattle.abi_answers.specs.Answers as answers
use Rattle.abi_answers.proofs.entries.entry_of.Goals as goal

pub returns-in-None : goal.returns-in-None
returns-in-None c =
    answers.HasNoEntry.no_symbol (λ a place. c.in-None.ensures a (subst (λ (symbols : List Symbol). IsPlace symbols c.args.word.now a) (sym c.as_slice.ensures) place))

pub returns-else-has_code : goal.returns-else-has_code
returns-else-has_code c =
    answers.HasNoEntry.no_code c.in-Some.a (subst (λ (symbols : List Symbol). IsPlace symbols c.args.word.now c.in-Some.a) c.as_slice.ensures c.in-Some.ensures)
    (sym c.has_code.ensures ∙ c.if-has_code.false)
