-- Linear maps of rows, and the sets that they make.
--
--   IsLinear n m f        f takes rows of n words to rows of m words, and commutes with adding a multiple
--   IsBilinear n m k f    f is linear in each of its arguments, rows of n and of m words, and gives rows of k
--   Image f P w           w is f v for a member v of P
--   Products f P Q u      u is f v w for members v of P and w of Q
use Rattle.std.specs.Prelude.{◌≡◌, ℕ, List}
use Rattle.word_rows.specs.Rows.{words_of, plus, IsRow}

pub record IsLinear (n m : ℕ) (f : List ℕ → List ℕ) : Type 0 where
  pub rows : (v : List ℕ) → IsRow n v → IsRow m (f v)
  pub sum : (c : ℕ) (v w : List ℕ) → IsRow n v → IsRow n w → f (words_of (plus c v w)) ≡ words_of (plus c (f v) (f w))

pub record IsBilinear (n m k : ℕ) (f : List ℕ → List ℕ → List ℕ) : Type 0 where
  pub first : (w : List ℕ) → IsRow m w → IsLinear n k (λ v. f v w)
  pub second : (v : List ℕ) → IsRow n v → IsLinear m k (f v)

pub record Image (f : List ℕ → List ℕ) (P : List ℕ → Type 0) (w : List ℕ) : Type 0 where
  pub of : List ℕ
  pub member : P of
  pub is : w ≡ f of

pub record Products (f : List ℕ → List ℕ → List ℕ) (P Q : List ℕ → Type 0) (u : List ℕ) : Type 0 where
  pub left : List ℕ
  pub right : List ℕ
  pub member_left : P left
  pub member_right : Q right
  pub is : u ≡ f left right
