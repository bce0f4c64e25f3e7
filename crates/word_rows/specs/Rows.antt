-- Rows of words, seen as lists.
--
--   words_of xs     xs with each item wrapped
--   IsRow n v       v is a row of n words
--   dot_sum a v     the whole sum of the products at equal positions
--   dot a v         a . v, that sum wrapped
--   plus c xs ys    xs + c * ys at each position, whole
--   times c xs      c * xs at each position, whole
--   lead v          the first position at which v isn't 0, and its length where all are 0
--   pivot v         the word at the lead
--   unit n i        the row of n zeros with 1 at position i
--   IsState v       v is a state: a row of 17 words with 1 at position 16
use Rattle.std.specs.Prelude.{◌≡◌, ℕ, ◌+◌, ◌*◌, List, [], ◌∷◌, length, map, replicate, slice_index, slice_set, if◌then◌else◌, ◌==◌}
use Rattle.std.specs.Simd.Lanes.{zip2}
use Rattle.word_rows.specs.Words.{word}

abbrev pub words_of : List ℕ → List ℕ
words_of xs = map word xs

pub record IsRow (n : ℕ) (v : List ℕ) : Type 0 where
  pub width : length v ≡ n
  pub words : words_of v ≡ v

abbrev pub dot_sum : List ℕ → List ℕ → ℕ
dot_sum [] ys = 0
dot_sum (x ∷ xs) [] = 0
dot_sum (x ∷ xs) (y ∷ ys) = x * y + dot_sum xs ys

abbrev pub dot : List ℕ → List ℕ → ℕ
dot a v = word (dot_sum a v)

abbrev pub plus : ℕ → List ℕ → List ℕ → List ℕ
plus c xs ys = zip2 (λ x y. x + c * y) xs ys

abbrev pub times : ℕ → List ℕ → List ℕ
times c xs = map (λ x. c * x) xs

abbrev pub lead : List ℕ → ℕ
lead [] = 0
lead (x ∷ xs) = if x == 0 then lead xs + 1 else 0

abbrev pub pivot : List ℕ → ℕ
pivot v = slice_index v (lead v)

abbrev pub unit : ℕ → ℕ → List ℕ
unit n i = slice_set (replicate n 0) i 1

pub record IsState (v : List ℕ) : Type 0 where
  pub row : IsRow 17 v
  pub constant : slice_index v 16 ≡ 1
