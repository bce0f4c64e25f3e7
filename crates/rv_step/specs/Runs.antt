-- How a run of the machine starts.
--
--   Starts image m   m is at the image's entry, with its executable ranges, its unit and its bytes;
--                    registers and the rest of memory are free
use Rattle.std.specs.Prelude.{◌≡◌, ℕ, Some}
use Rattle.elf_image.specs.Images.{loaded_byte}
use Rattle.elf_image.specs.Ranges.{executable_ranges}
use Rattle.elf_image.specs.declared.image.Image.{Image}
use Rattle.rv_step.specs.Harts.{Hart, IsHart}

pub record Starts (image : Image) (m : Hart) : Type 0 where
  pub hart : IsHart m
  pub entry : m.pc ≡ image.entry
  pub code : m.code ≡ executable_ranges image.segments
  pub unit : m.unit ≡ image.unit
  pub bytes : (a b : ℕ) → loaded_byte image a ≡ Some b → m.memory a ≡ b
