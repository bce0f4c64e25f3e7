-- Modules of rows over words, given by generators: the rows of a list, or any set of rows.
-- A set P of rows is a fact about a list of numbers, and n is the width of its rows.
--
--   AreRows n P             each member of P is a row of n words
--   IsCombination n P v     v is a sum of words times rows of P, so v is in the module of P
--   IsModule n S            S is a module: rows, with the zero row, closed under adding a multiple
--   Generates n rows P      each of the rows is in P, and each member of P is a combination of the rows
--   Either P Q              the union of the sets P and Q
--   IsWithin n P Q          the module of P is contained in the module of Q
--   SameModule n P Q        P and Q generate one module
use Rattle.std.specs.Prelude.{◌≡◌, ℕ, ◌⊎◌, List, Contains, replicate}
use Rattle.word_rows.specs.Rows.{words_of, plus, IsRow}

abbrev pub AreRows : ℕ → (List ℕ → Type 0) → Type 0
AreRows n P = (v : List ℕ) → P v → IsRow n v

pub data IsCombination (n : ℕ) (P : List ℕ → Type 0) : List ℕ → Type 0 where
  none : (v : List ℕ) → v ≡ replicate n 0 → IsCombination n P v
  more : (c : ℕ) (v row w : List ℕ) → IsCombination n P v → P row → w ≡ words_of (plus c v row) → IsCombination n P w

pub record IsModule (n : ℕ) (S : List ℕ → Type 0) : Type 0 where
  pub rows : AreRows n S
  pub zero_row : S (replicate n 0)
  pub sum : (c : ℕ) (v w : List ℕ) → S v → S w → S (words_of (plus c v w))

pub record Generates (n : ℕ) (rows : List (List ℕ)) (P : List ℕ → Type 0) : Type 0 where
  pub inside : (v : List ℕ) → Contains rows v → P v
  pub all : (v : List ℕ) → P v → IsCombination n (Contains rows) v

abbrev pub Either : (List ℕ → Type 0) → (List ℕ → Type 0) → List ℕ → Type 0
Either P Q v = P v ⊎ Q v

abbrev pub IsWithin : ℕ → (List ℕ → Type 0) → (List ℕ → Type 0) → Type 0
IsWithin n P Q = (v : List ℕ) → IsCombination n P v → IsCombination n Q v

pub record SameModule (n : ℕ) (P Q : List ℕ → Type 0) : Type 0 where
  pub there : IsWithin n P Q
  pub back : IsWithin n Q P
