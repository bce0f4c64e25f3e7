-- Numbers in a file, and the fields of the file header: System V ABI, "ELF Header". Where bytes are
-- missing they count as 0.
--
--   little_at n bytes at   the number in the n bytes from the offset `at`, the least byte first
--   e_type bytes           the kind of file
--   e_machine bytes        the machine
--   e_entry bytes          the address where a run starts
--   e_phoff bytes          the offset of the table of program headers
--   e_flags bytes          the flags of the machine
--   e_phentsize bytes      the size of one program header
--   e_phnum bytes          the number of program headers
--   has_bit bit flags      the bit of this value is set
--   unit_of bytes          what addresses of instructions are multiples of: RISC-V ELF psABI, "File Header".
--                          It is 2 where bit 0x1 of e_flags says that the file has compressed instructions,
--                          else 4
use Rattle.std.specs.Prelude.{ℕ, Bool, ◌==◌, not, bit_and, List, drop, if◌then◌else◌}
use Rattle.byteorder.specs.Endian.{little_number}

unfoldable pub little_at : ℕ → List ℕ → ℕ → ℕ
little_at n bytes at = little_number n (drop at bytes)

abbrev pub e_type : List ℕ → ℕ
e_type bytes = little_at 2 bytes 16

abbrev pub e_machine : List ℕ → ℕ
e_machine bytes = little_at 2 bytes 18

abbrev pub e_entry : List ℕ → ℕ
e_entry bytes = little_at 8 bytes 24

abbrev pub e_phoff : List ℕ → ℕ
e_phoff bytes = little_at 8 bytes 32

abbrev pub e_flags : List ℕ → ℕ
e_flags bytes = little_at 4 bytes 48

abbrev pub e_phentsize : List ℕ → ℕ
e_phentsize bytes = little_at 2 bytes 54

abbrev pub e_phnum : List ℕ → ℕ
e_phnum bytes = little_at 2 bytes 56

abbrev pub has_bit : ℕ → ℕ → Bool
has_bit bit flags = not (bit_and flags bit == 0)

abbrev pub unit_of : List ℕ → ℕ
unit_of bytes = if has_bit 0x1 (e_flags bytes) then 2 else 4
