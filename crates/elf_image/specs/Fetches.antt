-- What is fetched at an address: RISC-V Unprivileged ISA, "Expanded Instruction-Length Encoding". The
-- words hold for any memory, a function from addresses to bytes, and any executable ranges.
--
--   fetch_length unit low   the bytes of the instruction whose first byte is low. It is 2 where the unit is
--                           2 and the two lowest bits of the byte aren't both 1, else 4
--   next_byte a             the address after a, modulo 2^64
--   read k memory a         the number in the k bytes from the address a on, the least byte first
--   fetch unit code memory a
--                           the word and the length at a, where a is a multiple of the unit and as many
--                           bytes as the length lie in one executable range
--   loaded_in file segments a
--                           the byte at a of the segments of a file, and 0 where none has a
--   fetched_in unit file segments a
--                           what is fetched at a from these segments
use Rattle.std.specs.Prelude.{ℕ, zero, suc, ◌+◌, ◌*◌, ◌%◌, ◌^◌, ◌==◌, not, ◌&&◌, List, Option, None, Some, if◌then◌else◌}
use Rattle.std.specs.Option.{unwrap_or}
use Rattle.std.specs.List.{list_any}
use Rattle.elf_image.specs.Ranges.{is_in, executable_ranges}
use Rattle.elf_image.specs.Segments.{byte_of}
use Rattle.elf_image.specs.declared.range.Range.{Range}
use Rattle.elf_image.specs.declared.segment.Segment.{Segment}
use Rattle.elf_image.specs.declared.fetched.Fetched.{Fetched}

abbrev pub fetch_length : ℕ → ℕ → ℕ
fetch_length unit low = if unit == 2 && not (low % 4 == 3) then 2 else 4

abbrev pub next_byte : ℕ → ℕ
next_byte a = (a + 1) % 2 ^ 64

unfoldable pub read : ℕ → (ℕ → ℕ) → ℕ → ℕ
read zero memory a = 0
read (suc k) memory a = memory a + 2 ^ 8 * read k memory (next_byte a)

unfoldable pub fetch : ℕ → List Range → (ℕ → ℕ) → ℕ → Option Fetched
fetch unit code memory a =
    let length : ℕ = fetch_length unit (memory a) in
    if a % unit == 0 && list_any (is_in a length) code then Some (record {
      word = read length memory a;
      length = length;
    }) else None

abbrev pub loaded_in : List ℕ → List Segment → ℕ → ℕ
loaded_in file segments a = unwrap_or (byte_of file segments a) 0

abbrev pub fetched_in : ℕ → List ℕ → List Segment → ℕ → Option Fetched
fetched_in unit file segments a = fetch unit (executable_ranges segments) (loaded_in file segments) a
