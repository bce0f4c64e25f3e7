-- The laws of modules. Each holds for all widths, rows, words, lists and maps; P, Q, R and S are sets of rows.
--
--   CombinationsAreModule P      the combinations of P are a module
--   ContainsMultiples S          a module has each multiple of its members
--   ContainsGenerators P         the combinations of P contain P
--   IsLeastModule P S            a module that contains P contains the combinations of P
--   GeneratorsDecide P Q         where P lies in the module of Q, so does the module of P
--   IsTransitive P Q R           what lies in a module that lies in a third lies in the third
--   MoreSpanMore P Q             a larger set has the larger module
--   CombinationAddsNothing       a list and the same list with a combination of it have one module
--   SplitsAtFirst                a combination of a list is one of its later rows, and a multiple of the first
--   ImageIsSpanned P             the images of P span the image of the module of P
--   ProductsAreSpanned P Q       the products of P and Q span the products of their modules
--   ImageIsWithin P Q            where the module of P lies in that of Q, so do their images
--   ProductsAreWithin P Q R S    where the modules of P and Q lie in those of R and S, so do their products
--   VanishesOnModule P           a form that is 0 on P is 0 on the module of P
--   SolutionsAreModule P         the rows at which each form of P is 0 are a module
--   DotIsSymmetric, DotOfSum, DotOfMultiple      dot is a bilinear form, under one wrap
--   ChoicesAreSpanned            the choices of unknown words span what the choice of zeros and the steps span
--   RowsOnAreSpanned             the rows that are 0 outside a set of positions are a module, which the unit rows of the set span
--   FewPositionsUsed             rows of 17 words that are 0 outside the constant's position and positions below k use at most
--                                k + 1 positions
use Rattle.std.specs.Prelude.{◌≡◌, ℕ, ◌+◌, ◌*◌, ◌^◌, ◌<◌, ◌≤◌, ◌↔◌, List, ◌∷◌, length, Contains}
use Rattle.word_rows.specs.Words.{word}
use Rattle.word_rows.specs.Rows.{words_of, plus, times, dot}
use Rattle.row_modules.specs.Modules.{AreRows, IsCombination, IsModule, IsWithin, SameModule}
use Rattle.row_modules.specs.Maps.{IsLinear, IsBilinear, Image, Products}
use Rattle.row_modules.specs.Forms.{Vanishes, Solutions}
use Rattle.row_modules.specs.Choices.{IsChoice}
use Rattle.row_modules.specs.Positions.{with_constant, IsZeroOutside, IsRowOn, IsUnitOn}
use Rattle.row_modules.specs.Bases.{used_positions}

abbrev pub CombinationsAreModule : (List ℕ → Type 0) → Type 0
CombinationsAreModule P = (n : ℕ) → AreRows n P → IsModule n (IsCombination n P)

abbrev pub ContainsMultiples : (List ℕ → Type 0) → Type 0
ContainsMultiples S = (n c : ℕ) (v : List ℕ) → IsModule n S → S v → S (words_of (times c v))

abbrev pub ContainsGenerators : (List ℕ → Type 0) → Type 0
ContainsGenerators P = (n : ℕ) (v : List ℕ) → AreRows n P → P v → IsCombination n P v

abbrev pub IsLeastModule : (List ℕ → Type 0) → (List ℕ → Type 0) → Type 0
IsLeastModule P S = (n : ℕ) → IsModule n S → ((v : List ℕ) → P v → S v) → (v : List ℕ) → IsCombination n P v → S v

abbrev pub GeneratorsDecide : (List ℕ → Type 0) → (List ℕ → Type 0) → Type 0
GeneratorsDecide P Q = (n : ℕ) → AreRows n Q → ((v : List ℕ) → P v → IsCombination n Q v) → IsWithin n P Q

abbrev pub IsTransitive : (List ℕ → Type 0) → (List ℕ → Type 0) → (List ℕ → Type 0) → Type 0
IsTransitive P Q R = (n : ℕ) → IsWithin n P Q → IsWithin n Q R → IsWithin n P R

abbrev pub MoreSpanMore : (List ℕ → Type 0) → (List ℕ → Type 0) → Type 0
MoreSpanMore P Q = (n : ℕ) → ((v : List ℕ) → P v → Q v) → IsWithin n P Q

abbrev pub CombinationAddsNothing : Type 0
CombinationAddsNothing =
    (n : ℕ) (row : List ℕ) (rows : List (List ℕ)) → AreRows n (Contains rows) → IsCombination n (Contains rows) row
    → SameModule n (Contains (row ∷ rows)) (Contains rows)

abbrev pub SplitsAtFirst : Type 0
SplitsAtFirst =
    (n : ℕ) (row : List ℕ) (rows : List (List ℕ)) (v : List ℕ) → AreRows n (Contains (row ∷ rows))
    → (IsCombination n (Contains (row ∷ rows)) v ↔ ((c : ℕ) × (u : List ℕ) × IsCombination n (Contains rows) u × (v ≡ words_of (plus c u row))))

abbrev pub ImageIsSpanned : (List ℕ → Type 0) → Type 0
ImageIsSpanned P =
    (n m : ℕ) (f : List ℕ → List ℕ) → IsLinear n m f → AreRows n P
    → (w : List ℕ) → IsCombination m (Image f P) w ↔ Image f (IsCombination n P) w

abbrev pub ProductsAreSpanned : (List ℕ → Type 0) → (List ℕ → Type 0) → Type 0
ProductsAreSpanned P Q =
    (n m k : ℕ) (f : List ℕ → List ℕ → List ℕ) → IsBilinear n m k f → AreRows n P → AreRows m Q
    → SameModule k (Products f P Q) (Products f (IsCombination n P) (IsCombination m Q))

abbrev pub ImageIsWithin : (List ℕ → Type 0) → (List ℕ → Type 0) → Type 0
ImageIsWithin P Q =
    (n m : ℕ) (f : List ℕ → List ℕ) → IsLinear n m f → AreRows n P → AreRows n Q → IsWithin n P Q → IsWithin m (Image f P) (Image f Q)

abbrev pub ProductsAreWithin : (List ℕ → Type 0) → (List ℕ → Type 0) → (List ℕ → Type 0) → (List ℕ → Type 0) → Type 0
ProductsAreWithin P Q R S =
    (n m k : ℕ) (f : List ℕ → List ℕ → List ℕ) → IsBilinear n m k f → AreRows n P → AreRows m Q → AreRows n R → AreRows m S
    → IsWithin n P R → IsWithin m Q S → IsWithin k (Products f P Q) (Products f R S)

abbrev pub VanishesOnModule : (List ℕ → Type 0) → Type 0
VanishesOnModule P = (n : ℕ) (a : List ℕ) → AreRows n P → Vanishes a P → Vanishes a (IsCombination n P)

abbrev pub SolutionsAreModule : (List ℕ → Type 0) → Type 0
SolutionsAreModule P = (n : ℕ) → IsModule n (Solutions n P)

abbrev pub DotIsSymmetric : Type 0
DotIsSymmetric = (v w : List ℕ) → dot v w ≡ dot w v

abbrev pub DotOfSum : Type 0
DotOfSum = (a : List ℕ) (c : ℕ) (v w : List ℕ) → length v ≡ length w → dot a (words_of (plus c v w)) ≡ word (dot a v + c * dot a w)

abbrev pub DotOfMultiple : Type 0
DotOfMultiple = (a : List ℕ) (c : ℕ) (v : List ℕ) → dot a (words_of (times c v)) ≡ word (c * dot a v)

abbrev pub ChoicesAreSpanned : Type 0
ChoicesAreSpanned =
    (n : ℕ) (start : List ℕ) (steps : List (List ℕ)) → AreRows n (Contains (start ∷ steps))
    → SameModule n (IsChoice start steps) (Contains (start ∷ steps))

pub record RowsOnAreSpanned : Type 0 where
  pub closed : (n s : ℕ) → IsModule n (IsRowOn n s)
  pub spanned : (n s : ℕ) → SameModule n (IsRowOn n s) (IsUnitOn n s)

abbrev pub FewPositionsUsed : Type 0
FewPositionsUsed =
    (rows : List (List ℕ)) (k s : ℕ) → k ≤ 16 → s < 2 ^ k → ((v : List ℕ) → Contains rows v → IsZeroOutside (with_constant s) v)
    → used_positions 17 rows ≤ k + 1
