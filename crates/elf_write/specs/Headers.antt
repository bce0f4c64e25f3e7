-- Little-endian RV64 executables as bytes.
--
--   fields_text fields       numbers in a file, each a width in bytes and a value
--   section_size n           the bytes of a section header, 0 where there are none
--   file_header header       the file header, 64 bytes, with the program headers behind it: System V ABI, "ELF Header"
--   program_header segment   the header of a loaded segment, 56 bytes: System V ABI, "Program Header"
--   words_text words         words, each in four bytes, the least byte first
--   load_address             where the first byte of a small file is loaded
--   headers_size             the bytes of the two headers of a small file
--   small_headers flags n    the headers of a small file of n bytes: it has one segment, which is the whole file and
--                            executable, and is entered behind the headers
--   small_file flags code    a small file with this code behind its headers
use Rattle.std.specs.Prelude.{ℕ, ◌+◌, ◌==◌, List, [], ◌∷◌, ◌++◌, length, if◌then◌else◌}
use Rattle.std.specs.List.{flat_map}
use Rattle.byteorder.specs.Endian.{little_bytes}
use Rattle.elf_write.specs.declared.headers.FileHeader.{FileHeader}
use Rattle.elf_write.specs.declared.headers.SegmentHeader.{SegmentHeader}

abbrev pub fields_text : List (ℕ × ℕ) → List ℕ
fields_text fields = flat_map (λ field. little_bytes field.0 field.1) fields

abbrev pub section_size : ℕ → ℕ
section_size sections = if sections == 0 then 0 else 64

-- e_ident; e_type, e_machine, e_version, e_entry, e_phoff, e_shoff, e_flags; e_ehsize, e_phentsize, e_phnum,
-- e_shentsize, e_shnum, e_shstrndx
abbrev pub file_header : FileHeader → List ℕ
file_header header =
    0x7f ∷ 0x45 ∷ 0x4c ∷ 0x46 ∷ 2 ∷ 1 ∷ 1 ∷ 0 ∷ 0 ∷ 0 ∷ 0 ∷ 0 ∷ 0 ∷ 0 ∷ 0 ∷ 0
    ∷ fields_text ((2, 2) ∷ (2, 243) ∷ (4, 1) ∷ (8, header.entry) ∷ (8, 64) ∷ (8, header.sections_at) ∷ (4, header.flags)
    ∷ (2, 64) ∷ (2, 56) ∷ (2, header.segments) ∷ (2, section_size header.sections) ∷ (2, header.sections)
    ∷ (2, header.names_section) ∷ [])

-- p_type, p_flags, p_offset, p_vaddr, p_paddr, p_filesz, p_memsz, p_align
abbrev pub program_header : SegmentHeader → List ℕ
program_header segment = fields_text ((4, 1) ∷ (4, segment.flags) ∷ (8, segment.offset) ∷ (8, segment.address)
    ∷ (8, segment.address) ∷ (8, segment.stored) ∷ (8, segment.size) ∷ (8, 0x1000) ∷ [])

abbrev pub words_text : List ℕ → List ℕ
words_text words = flat_map (little_bytes 4) words

abbrev pub load_address : ℕ
load_address = 0x10000

abbrev pub headers_size : ℕ
headers_size = 120

abbrev pub small_headers : ℕ → ℕ → List ℕ
small_headers flags n =
    file_header (record { entry = load_address + headers_size; flags = flags; segments = 1; sections_at = 0; sections = 0; names_section = 0 })
    ++ program_header (record { offset = 0; address = load_address; stored = n; size = n; flags = 5 })

abbrev pub small_file : ℕ → List ℕ → List ℕ
small_file flags code = small_headers flags (headers_size + length code) ++ code
