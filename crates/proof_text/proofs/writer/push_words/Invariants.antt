-- What is written and what stands for the words to come is the whole text.
use Rattle.std.proofs.Common.{◌≡◌, ◌++◌, drop}
use Rattle.std.specs.List.{flat_map}
use Rattle.proof_text.specs.Text.{word_text}
use Rattle.proof_text.proofs.writer.push_words.Given as goal

abbrev pub invariant-loop-word : goal.invariant-loop-word
invariant-loop-word l =
    l.text.items ++ flat_map word_text (drop l.word-index l.words) ≡ l.initial.text.items ++ flat_map word_text l.words
