use Rattle.std.proofs.Common.{◌≡◌, ℕ, Option, None, Some, rules, sym, subst}
use Rattle.elf_image.specs.Images.{code_word}
use Rattle.flow_points.specs.Flows.{HasUpper, fetches_of, prior}
use Rattle.flow_points.proofs.OneOutcome.{no_upper}
use Rattle.flow_points.proofs.sites.upper_before.Goals as goal

pub returns-in_err-instr : goal.returns-in_err-instr
returns-in_err-instr c =
    let fetched : code_word c.args.image.now (prior c.args.address) ≡ Some c.in_ok-word.word = search rules in
    let none : HasUpper (fetches_of c.args.image.now) c.args.address c.args.register None =
    no_upper (fetches_of c.args.image.now) _ _ c.in_ok-word.word fetched (λ i m. let e = c.decode.ensures.only i m in let f = c.in_err-instr.was in cc) in
    subst (λ (o : Option ℕ). HasUpper (fetches_of c.args.image.now) c.args.address c.args.register o) (sym c.from_residual-in_err-instr.ensures) none
