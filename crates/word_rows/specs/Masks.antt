-- Which chunks of a list have a word that isn't 0. Chunk j is the eight words from position 8 * j on, or those that are left.
--
--   other xs          1 where some word of xs isn't 0, and 0 where all are 0
--   others n xs       the number whose bit j is that of chunk j, for the first n chunks
--   mask_of xs        that number for 64 chunks, which are those of 512 words
--   Covers m xs       the words of each chunk whose bit in m is 0 are 0
use Rattle.std.specs.Prelude.{◌≡◌, ℕ, zero, suc, ◌+◌, ◌*◌, ◌/◌, ◌<◌, List, length, take, drop, slice_index, if◌then◌else◌, ◌==◌}
use Rattle.std.specs.Int.{bit_at}
use Rattle.word_rows.specs.Rows.{lead}

abbrev pub other : List ℕ → ℕ
other xs = if lead xs == length xs then 0 else 1

unfoldable pub others : ℕ → List ℕ → ℕ
others zero xs = 0
others (suc n) xs = other (take 8 xs) + 2 * others n (drop 8 xs)

abbrev pub mask_of : List ℕ → ℕ
mask_of xs = others 64 xs

abbrev pub Covers : ℕ → List ℕ → Type 0
Covers m xs = (k : ℕ) → k < length xs → bit_at m (k / 8) ≡ 0 → slice_index xs k ≡ 0
