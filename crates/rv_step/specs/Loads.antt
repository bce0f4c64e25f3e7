-- Loading an image, segment by segment.
--
--   copied n file s memory a     the byte at a after the first n stored bytes of the segment s were loaded
--   loaded_from segments file a  the byte at a that the segments give: that of the first one that holds a, else 0
use Rattle.std.specs.Prelude.{ℕ, ◌+◌, ◌-◌, nat_le, nat_lt, ◌&&◌, List, option_map, slice_index, if◌then◌else◌}
use Rattle.std.specs.Option.{unwrap_or}
use Rattle.elf_image.specs.Segments.{byte_in, segment_with}
use Rattle.elf_image.specs.declared.segment.Segment.{Segment}

abbrev pub copied : ℕ → List ℕ → Segment → (ℕ → ℕ) → ℕ → ℕ
copied n file s memory a =
    if nat_le s.address a && nat_lt a (s.address + n) then slice_index file (s.offset + (a - s.address)) else memory a

abbrev pub loaded_from : List Segment → List ℕ → ℕ → ℕ
loaded_from segments file a = unwrap_or (option_map (λ s. byte_in file s a) (segment_with segments a)) 0
