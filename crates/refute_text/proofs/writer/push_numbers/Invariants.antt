-- What is written and what stands for the numbers to come is the whole text.
use Rattle.std.proofs.Common.{◌≡◌, ◌++◌, drop}
use Rattle.refute_text.specs.Text.{words_text}
use Rattle.refute_text.proofs.writer.push_numbers.Given as goal

abbrev pub invariant-loop-number : goal.invariant-loop-number
invariant-loop-number l = l.text.items ++ words_text (drop l.number-index l.numbers) ≡ l.initial.text.items ++ words_text l.numbers
