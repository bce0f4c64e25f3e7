-- What a sink was given. The bytes written are known where its type tells them.
--
--   Gains old new text         the bytes written are the old ones and then text, where they are told,
--                              and they are told after as before
--   GainsPrefix old new text   the same for some prefix of text
use Rattle.std.specs.Prelude.{◌≡◌, ℕ, ◌≤◌, List, ◌++◌, Option, length, take, option_map}

abbrev pub Gains : Option (List ℕ) → Option (List ℕ) → List ℕ → Type 0
Gains old new text = new ≡ option_map (λ w. w ++ text) old

pub record GainsPrefix (old new : Option (List ℕ)) (text : List ℕ) : Type 0 where
  pub taken : ℕ
  pub bound : taken ≤ length text
  pub gain : Gains old new (take taken text)
