-- Ranges of addresses. Sums are whole numbers.
--
--   is_in a n range             the n bytes from the address a on lie in the range
--   range_of s                  the addresses of a segment
--   executable_ranges segments  those of the executable segments, in order
use Rattle.std.specs.Prelude.{ℕ, ◌+◌, nat_le, Bool, ◌&&◌, List, map, filter}
use Rattle.elf_image.specs.declared.segment.Segment.{Segment}
use Rattle.elf_image.specs.declared.range.Range.{Range}

abbrev pub is_in : ℕ → ℕ → Range → Bool
is_in a n range = nat_le range.address a && nat_le (a + n) (range.address + range.size)

abbrev pub range_of : Segment → Range
range_of s = record { address = s.address; size = s.size }

abbrev pub executable_ranges : List Segment → List Range
executable_ranges segments = map range_of (filter (λ s. s.executable) segments)
