-- The first point of an address of a procedure has the line that the image has there.
use Rattle.std.proofs.Common.{◌≡◌, ℕ, List, Option, Some}
use Rattle.elf_image.specs.declared.image.Image.{Image}
use Rattle.entry_tables.specs.declared.rows.Point.{Point}
use Rattle.entry_tables.specs.Settling.{AreLined, IsLined, point_at}
use Rattle.entry_tables.proofs.Ordering.{point_found}

pub lined_at : (image : Image) (points : List Point) (p a : ℕ) (point : Point) → AreLined image points → point_at points p a ≡ Some point
    → IsLined image point
lined_at image points p a point lined e = let found = point_found points p a point e in lined found.i point found.is
