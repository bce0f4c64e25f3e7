-- How many bytes words have.
use Rattle.std.proofs.Common.{◌≡◌, ℕ, ◌*◌, List, [], ◌∷◌, length, arith}
use Rattle.elf_write.specs.Headers.{words_text}

pub words_length : (words : List ℕ) → length (words_text words) ≡ 4 * length words
words_length [] = omega arith
words_length (word ∷ words) = let rest = words_length words in omega arith
