-- Sets given by unknown words.
--
--   IsChoice start steps v    v is start plus some multiple of each of the steps, one unknown word for each
use Rattle.std.specs.Prelude.{◌≡◌, ℕ, List, [], ◌∷◌}
use Rattle.word_rows.specs.Rows.{words_of, plus}

abbrev pub IsChoice : List ℕ → List (List ℕ) → List ℕ → Type 0
IsChoice start [] v = v ≡ start
IsChoice start (step ∷ steps) v = (c : ℕ) × (u : List ℕ) × IsChoice start steps u × (v ≡ words_of (plus c u step))
