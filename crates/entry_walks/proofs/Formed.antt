-- The instruction at a point of a table whose points are lined.
use Rattle.std.proofs.Common.{◌≡◌, ℕ, List, Option, None, Some, refl}
use Rattle.std.specs.Prelude.{IfSome}
use Rattle.elf_image.specs.declared.image.Image.{Image}
use Rattle.rv_decode.specs.Instructions.{IsWellFormed}
use Rattle.entry_tables.specs.declared.rows.Point.{Point}
use Rattle.entry_tables.specs.Settling.{AreLined, point_at, line_of}
use Rattle.entry_tables.proofs.Ordering.{point_found}

pub line_formed : (image : Image) (points : List Point) (p a : ℕ) → AreLined image points → IfSome (line_of (point_at points p a)) (λ line. IsWellFormed line.instr)
line_formed image points p a lined = by (point_at points p a) refl
  where
    by : (o : Option Point) → point_at points p a ≡ o → IfSome (line_of o) (λ line. IsWellFormed line.instr)
    by None e = tt
    by (Some point) e = let found = point_found points p a point e in (lined found.i point found.is).formed
