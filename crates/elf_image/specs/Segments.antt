-- Segments: ranges of addresses, of which the first bytes are stored in the file.
--
--   holds s a               the address a is one of the segment
--   shares_address s t      some address is one of both: the first address of one is one of the other
--   holds_code s a          the segment is executable, and a to a + 3 are addresses of it
--   byte_in file s a        the byte at the address a of a segment: that of the file where it is stored,
--                           else 0
--   word_in file s a        the little-endian word of the bytes at a to a + 3 of a segment
--   IsLoadable size s       the stored bytes lie in a file of this size, they are no more than the segment's,
--                           and its addresses, of which there is one at least, end below 2^64
--   segment_with segments a the first segment that holds the address a, where there is one
--   byte_of file segments a the byte at a of the segments of a file, none where none holds it
--   code_segment segments a the segment that holds code at a, where there is one
--   segment_of h            the segment of a kept header. Bit 0x1 of p_flags is PF_X, executable
--   kept_headers bytes      the kept headers of a file, in order
--   segments_of bytes       their segments
use Rattle.std.specs.Prelude.{ℕ, ◌+◌, ◌-◌, ◌^◌, ◌<◌, ◌≤◌, nat_lt, nat_le, Bool, ◌&&◌, ◌||◌, List, [], ◌∷◌, Option, option_map, find, filter, map, slice_index, if◌then◌else◌}
use Rattle.std.specs.Int.{from_le_bytes, w32}
use Rattle.elf_image.specs.Fields.{has_bit}
use Rattle.elf_image.specs.Headers.{headers_of, is_kept}
use Rattle.elf_image.specs.declared.program_header.ProgramHeader.{ProgramHeader}
use Rattle.elf_image.specs.declared.segment.Segment.{Segment}

abbrev pub holds : Segment → ℕ → Bool
holds s a = nat_le s.address a && nat_lt a (s.address + s.size)

abbrev pub shares_address : Segment → Segment → Bool
shares_address s t = holds s t.address || holds t s.address

abbrev pub holds_code : Segment → ℕ → Bool
holds_code s a = s.executable && nat_le s.address a && nat_le (a + 4) (s.address + s.size)

abbrev pub byte_in : List ℕ → Segment → ℕ → ℕ
byte_in file s a =
    if nat_lt (a - s.address) s.stored then slice_index file (s.offset + (a - s.address)) else 0

abbrev pub word_in : List ℕ → Segment → ℕ → ℕ
word_in file s a =
    from_le_bytes w32 (byte_in file s a ∷ byte_in file s (a + 1) ∷ byte_in file s (a + 2) ∷ byte_in file s (a + 3) ∷ [])

pub record IsLoadable (size : ℕ) (s : Segment) : Type 0 where
  pub within : s.offset + s.stored ≤ size
  pub stored : s.stored ≤ s.size
  pub ends : s.address + s.size ≤ 2 ^ 64
  pub some : 0 < s.size

abbrev pub segment_with : List Segment → ℕ → Option Segment
segment_with segments a = find (λ s. holds s a) segments

abbrev pub byte_of : List ℕ → List Segment → ℕ → Option ℕ
byte_of file segments a = option_map (λ s. byte_in file s a) (segment_with segments a)

abbrev pub code_segment : List Segment → ℕ → Option Segment
code_segment segments a = find (λ s. holds_code s a) segments

abbrev pub segment_of : ProgramHeader → Segment
segment_of h = record {
  address = h.p_vaddr;
  size = h.p_memsz;
  offset = h.p_offset;
  stored = h.p_filesz;
  executable = has_bit 0x1 h.p_flags;
}

abbrev pub kept_headers : List ℕ → List ProgramHeader
kept_headers bytes = filter is_kept (headers_of bytes)

abbrev pub segments_of : List ℕ → List Segment
segments_of bytes = map segment_of (kept_headers bytes)
