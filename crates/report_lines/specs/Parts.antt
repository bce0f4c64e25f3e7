-- Bytes cut at those of a kind.
--
--   HasNo byte text       no byte of the text is of this kind
--   IsCut byte text cut   the cut is what stands before the first such byte and what behind it, or None where there is none
--   IsBehind prefix text rest   the rest is what follows the prefix, or None where the text doesn't begin with it
--   parts_of byte text    what stands between the bytes of this kind
use Rattle.std.specs.Prelude.{◌≡◌, ◌≢◌, ℕ, List, ◌∷◌, ◌++◌, All, Option, Some, None, false, ◌==◌}
use Rattle.std.specs.Borrow.{Bor}
use Rattle.std.specs.List.{slice_split}

abbrev pub HasNo : ℕ → List ℕ → Type 0
HasNo byte text = All (λ b. (b == byte) ≡ false) text

abbrev pub IsCut : ℕ → List ℕ → Option (Bor (List ℕ) × Bor (List ℕ)) → Type 0
IsCut byte text None = HasNo byte text
IsCut byte text (Some (front, behind)) = (text ≡ front.now ++ byte ∷ behind.now) × HasNo byte front.now

abbrev pub IsBehind : List ℕ → List ℕ → Option (Bor (List ℕ)) → Type 0
IsBehind prefix text None = (rest : List ℕ) → text ≢ prefix ++ rest
IsBehind prefix text (Some rest) = text ≡ prefix ++ rest.now

abbrev pub parts_of : ℕ → List ℕ → List (List ℕ)
parts_of byte text = slice_split (λ b. b == byte) text
