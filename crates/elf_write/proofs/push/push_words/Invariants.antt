-- What is written and what stands for the words to come is the whole.
use Rattle.std.proofs.Common.{◌≡◌, ◌++◌, drop}
use Rattle.elf_write.specs.Headers.{words_text}
use Rattle.elf_write.proofs.push.push_words.Given as goal

abbrev pub invariant-loop-word : goal.invariant-loop-word
invariant-loop-word l =
    l.file.items ++ words_text (drop l.word-index l.words) ≡ l.initial.file.items ++ words_text l.words
