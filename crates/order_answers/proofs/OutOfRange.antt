-- The answer to a number that is out of range.
use Rattle.std.proofs.Common.{◌≡◌, ℕ, List, refl, ap, subst, ◌∙◌}
use Rattle.gen_elf.specs.Generated.{IsGenRefusal}
use Rattle.refusals.specs.declared.generated.GenRefusal.{GenRefusal}
use Rattle.refusals.specs.declared.generated.GenRefusal.TheVariants.{Range}
use Rattle.refusal_lines.specs.Lines.{range_line}
use Rattle.order_answers.specs.Answers.{IsGenAnswer, out_of_range}

pub range_answer : (n : ℕ) (list : List ℕ) (number value : ℕ) (text : List ℕ) (refusal : GenRefusal) → refusal ≡ Range number →
    IsGenRefusal n refusal → value ≡ number → text ≡ range_line value → IsGenAnswer n list 1 text
range_answer n list number value text refusal same why told line =
    let is = subst (IsGenRefusal n) same why in out_of_range 1 text is.1 refl (line ∙ ap range_line (told ∙ is.0))
