-- What is written and what stands for the words to come is the whole text.
use Rattle.std.proofs.Common.{◌≡◌, ◌++◌, drop}
use Rattle.refute_text.specs.Text.{words_text}
use Rattle.refute_text.proofs.writer.push_words.Given as goal

abbrev pub invariant-loop-word : goal.invariant-loop-word
invariant-loop-word l = l.text.items ++ words_text (drop l.word-index l.words) ≡ l.initial.text.items ++ words_text l.words
