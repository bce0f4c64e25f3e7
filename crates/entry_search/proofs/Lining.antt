-- Points that have their lines, and one more.
use Rattle.std.proofs.Common.{◌≡◌, zero, suc, List, [], ◌∷◌, ◌++◌, Some, subst}
use Rattle.elf_image.specs.declared.image.Image.{Image}
use Rattle.entry_tables.specs.declared.rows.Point.{Point}
use Rattle.entry_tables.specs.Settling.{IsLined, AreLined}

some_same : {X : Type 0} {x y : X} → Some x ≡ Some y → x ≡ y
some_same e = cc

pub lined_more : (image : Image) (points : List Point) (point : Point) → AreLined image points → IsLined image point → AreLined image (points ++ point ∷ [])
lined_more image [] point all one zero q e = subst (IsLined image) (some_same e) one
lined_more image [] point all one (suc i) q e = cc
lined_more image (x ∷ rest) point all one zero q e = all zero q e
lined_more image (x ∷ rest) point all one (suc i) q e = lined_more image rest point (λ j r. all (suc j) r) one i q e
