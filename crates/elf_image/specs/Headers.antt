-- Program headers: System V ABI, "Program Header". A header has 56 bytes.
--
--   header_at bytes offset   the header whose first byte stands at this offset in the file
--   first_headers bytes n    the first n headers of the table, in order
--   headers_of bytes         all of them
--   is_load h                it is of type PT_LOAD
--   is_dynamic h             it is of type PT_DYNAMIC or PT_INTERP
--   is_bad size h            a PT_LOAD header of a file of this size whose stored bytes don't lie in the
--                            file, or are more than its memory, or whose addresses end above 2^64
--   is_kept h                a PT_LOAD header with memory
use Rattle.std.specs.Prelude.{ℕ, zero, suc, ◌+◌, ◌*◌, ◌^◌, nat_lt, ◌==◌, Bool, ◌&&◌, ◌||◌, List, [], ◌∷◌, ◌++◌}
use Rattle.elf_image.specs.Fields.{little_at, e_phoff, e_phnum}
use Rattle.elf_image.specs.declared.program_header.ProgramHeader.{ProgramHeader}

unfoldable pub header_at : List ℕ → ℕ → ProgramHeader
header_at bytes offset = record {
  offset = offset;
  p_type = little_at 4 bytes offset;
  p_flags = little_at 4 bytes (offset + 4);
  p_offset = little_at 8 bytes (offset + 8);
  p_vaddr = little_at 8 bytes (offset + 16);
  p_filesz = little_at 8 bytes (offset + 32);
  p_memsz = little_at 8 bytes (offset + 40);
}

-- the first n of them
abbrev pub first_headers : List ℕ → ℕ → List ProgramHeader
first_headers bytes zero = []
first_headers bytes (suc n) = first_headers bytes n ++ header_at bytes (e_phoff bytes + 56 * n) ∷ []

abbrev pub headers_of : List ℕ → List ProgramHeader
headers_of bytes = first_headers bytes (e_phnum bytes)

abbrev pub is_load : ProgramHeader → Bool
is_load h = h.p_type == 1

abbrev pub is_dynamic : ProgramHeader → Bool
is_dynamic h = h.p_type == 2 || h.p_type == 3

abbrev pub is_bad : ℕ → ProgramHeader → Bool
is_bad size h =
    is_load h
    && (nat_lt size (h.p_offset + h.p_filesz) || nat_lt h.p_memsz h.p_filesz || nat_lt (2 ^ 64) (h.p_vaddr + h.p_memsz))

abbrev pub is_kept : ProgramHeader → Bool
is_kept h = is_load h && nat_lt 0 h.p_memsz
