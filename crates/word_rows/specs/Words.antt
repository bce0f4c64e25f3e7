-- Words of 64 bits. A sum or a product of words is first the whole number, and wraps once.
--
--   IsWord n    n is a word, a number below 2^64
--   word n      n wrapped, its remainder by 2^64
use Rattle.std.specs.Prelude.{ℕ, ◌<◌, ◌%◌, ◌^◌}

abbrev pub IsWord : ℕ → Type 0
IsWord n = n < 2 ^ 64

abbrev pub word : ℕ → ℕ
word n = n % 2 ^ 64
