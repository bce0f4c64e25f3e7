-- Linear forms: a row a is the form v ↦ a . v.
--
--   Vanishes a P       the form a is 0 at each member of P
--   Solutions n A v    v is a row of n words at which each form of A is 0
--   Annihilates s P a  a is a row of 17 words that is 0 outside the set s of positions, and a . v = 0 for each member v of P
use Rattle.std.specs.Prelude.{◌≡◌, ℕ, List}
use Rattle.word_rows.specs.Rows.{dot, IsRow}
use Rattle.row_modules.specs.Positions.{IsRowOn}

abbrev pub Vanishes : List ℕ → (List ℕ → Type 0) → Type 0
Vanishes a P = (v : List ℕ) → P v → dot a v ≡ 0

pub record Solutions (n : ℕ) (A : List ℕ → Type 0) (v : List ℕ) : Type 0 where
  pub row : IsRow n v
  pub zero_at : (a : List ℕ) → A a → dot a v ≡ 0

pub record Annihilates (s : ℕ) (P : List ℕ → Type 0) (a : List ℕ) : Type 0 where
  pub on_visible : IsRowOn 17 s a
  pub vanishes : Vanishes a P
