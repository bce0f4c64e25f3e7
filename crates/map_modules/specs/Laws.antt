-- The laws of matrices. Each holds for all matrices, rows, words and sets of positions.
--
--   ProductsAssociate      a product of three is one, however it is bracketed
--   IdentityIsNeutral      the identity of width 16 changes no matrix, before it or after it, and no row
--   ApplyOfProduct         to apply a product is to apply twice
--   AffineIsProduct        an affine assignment is a product from the left
--   ProductIsLinear        a product is linear in each factor
--   ApplyIsLinear          what a matrix makes of a row is linear in the matrix, and in the row
--   AfterAffineIsLinear    after_affine is linear in the matrix
--   ExtensionIsLinear      linear_extension is linear in the matrix
--   AffineMapsCompose      identities, and products, affine assignments and extensions of affine maps, are affine
--   AffineMapsKeepStates   an affine map takes states to states
--   KeepingIsLinear r      the zero matrix keeps r, and so does what adds a multiple of a matrix that keeps r to another
--   KeepingLeavesWords     an affine map keeps a position exactly where it leaves the word there as it was, in every state
--   MatricesOnAreModule    the matrices that are 0 outside some rows and columns are a module
--   ProductsStayOn         a product is 0 outside the rows of its first factor and the columns of its second
--   FewEntriesUsed         matrices that are 0 outside the constant's row and column and those at positions below k use at most
--                          (k + 1) * (k + 1) positions
use Rattle.std.specs.Prelude.{◌≡◌, ℕ, ◌+◌, ◌*◌, ◌^◌, ◌<◌, ◌≤◌, ◌↔◌, List, Contains, replicate, slice_index}
use Rattle.word_rows.specs.Rows.{words_of, plus, IsRow, IsState}
use Rattle.row_modules.specs.Modules.{IsModule}
use Rattle.row_modules.specs.Maps.{IsLinear, IsBilinear}
use Rattle.row_modules.specs.Positions.{with_constant}
use Rattle.row_modules.specs.Bases.{used_positions}
use Rattle.map_modules.specs.Matrices.{identity, product, apply, after_affine, extension, linear_extension, IsAffine, IsMatrixOn, Keeps}

abbrev pub ProductsAssociate : Type 0
ProductsAssociate = (a b c : List ℕ) → product a (product b c) ≡ product (product a b) c

abbrev pub IdentityIsNeutral : Type 0
IdentityIsNeutral =
    ((m : List ℕ) → IsRow 289 m → (product (identity 16) m ≡ m) × (product m (identity 16) ≡ m))
    × ((v : List ℕ) → IsRow 17 v → apply (identity 16) v ≡ v)

abbrev pub ApplyOfProduct : Type 0
ApplyOfProduct = (after before v : List ℕ) → apply (product after before) v ≡ apply after (apply before v)

abbrev pub AffineIsProduct : Type 0
AffineIsProduct =
    (m row : List ℕ) (i : ℕ) → after_affine m i row ≡ product (after_affine (identity 16) i row) m

abbrev pub ProductIsLinear : Type 0
ProductIsLinear = IsBilinear 289 289 289 product

abbrev pub ApplyIsLinear : Type 0
ApplyIsLinear = IsBilinear 289 17 17 apply

abbrev pub AfterAffineIsLinear : Type 0
AfterAffineIsLinear = (i : ℕ) (row : List ℕ) → IsLinear 289 289 (λ m. after_affine m i row)

abbrev pub ExtensionIsLinear : Type 0
ExtensionIsLinear = (registers slots : ℕ) → IsLinear 289 289 (linear_extension registers slots)

pub record AffineMapsCompose : Type 0 where
  pub identities : (width : ℕ) → IsAffine (identity width)
  pub products : (after before : List ℕ) → IsAffine after → IsAffine before → IsAffine (product after before)
  pub affine : (m row : List ℕ) (i : ℕ) → i < 16 → IsAffine m → IsAffine (after_affine m i row)
  pub extensions : (registers slots : ℕ) (m : List ℕ) → IsAffine m → IsAffine (extension registers slots m)

abbrev pub AffineMapsKeepStates : Type 0
AffineMapsKeepStates = (m v : List ℕ) → IsAffine m → IsState v → IsState (apply m v)

pub record KeepingIsLinear (r : ℕ) : Type 0 where
  pub zero_row : Keeps (replicate 289 0) r
  pub sum : (c : ℕ) (v w : List ℕ) → IsRow 289 v → IsRow 289 w → Keeps v r → Keeps w r → Keeps (words_of (plus c v w)) r

abbrev pub KeepingLeavesWords : Type 0
KeepingLeavesWords =
    (m : List ℕ) (r : ℕ) → r < 16 → IsRow 289 m → IsAffine m
    → (Keeps m r ↔ ((v : List ℕ) → IsState v → slice_index (apply m v) r ≡ slice_index v r))

abbrev pub MatricesOnAreModule : Type 0
MatricesOnAreModule = (rows columns : ℕ) → IsModule 289 (IsMatrixOn rows columns)

abbrev pub ProductsStayOn : Type 0
ProductsStayOn =
    (rows middle other columns : ℕ) (after before : List ℕ) → IsMatrixOn rows middle after → IsMatrixOn other columns before
    → IsMatrixOn rows columns (product after before)

abbrev pub FewEntriesUsed : Type 0
FewEntriesUsed =
    (matrices : List (List ℕ)) (k rows columns : ℕ) → k ≤ 16 → rows < 2 ^ k → columns < 2 ^ k
    → ((m : List ℕ) → Contains matrices m → IsMatrixOn (with_constant rows) (with_constant columns) m)
    → used_positions 289 matrices ≤ (k + 1) * (k + 1)
