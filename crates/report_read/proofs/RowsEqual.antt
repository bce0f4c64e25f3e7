-- Rows are equal where their words are.
use Rattle.std.proofs.Common.{◌≡◌, ℕ, Bool, true, false, eqb, List, refl, ap}
use Rattle.std.specs.Prelude.{◌&&◌}
use Rattle.std.specs.Bool.{Decides}
use Rattle.std.specs.Str.{bytes_eq}
use Rattle.std.proofs.lemmas.Bool.{eq-eqb}
use Rattle.std.proofs.lemmas.Slice.Eq.{bytes_eq-Decides}

-- a further test of equal things changes nothing
pub tested_too : (f : List ℕ → ℕ) (x y : List ℕ) → Decides (bytes_eq x y && eqb (f x) (f y)) (x ≡ y)
tested_too f x y = by (bytes_eq x y) (bytes_eq-Decides x y)
  where
    by : (b : Bool) → Decides b (x ≡ y) → Decides (b && eqb (f x) (f y)) (x ≡ y)
    by true d = (λ e. d.0 refl, λ e. eq-eqb (f x) (f y) (ap f e))
    by false d = (λ e. d.0 e, λ e. d.1 e)
