-- Symbols: System V ABI, "Sections", "String Table" and "Symbol Table". A section header has 64 bytes, an entry of a
-- symbol table 24. Only functions give symbols.
--
--   e_shoff bytes             the offset of the table of section headers
--   e_shentsize bytes         the size of one section header
--   e_shnum bytes             the number of section headers
--   section_at bytes offset   the section header at this offset in the file
--   first_sections bytes n    the first n headers of the table, in order
--   sections_of bytes         all of them
--   lies_in size section      the section's bytes lie in a file of this size
--   is_symbol_table section   it is of type SHT_SYMTAB
--   contents bytes section    the section's bytes
--   is_zero b                 b is 0
--   text_at strings at        the text that begins at a place of a string table and ends before the next zero byte; none
--                             where no zero byte follows
--   is_letter b               an ASCII letter
--   is_first b, is_further b  what a name may begin with: a letter, `_`, `.` or `$`; and go on with: these, or a digit
--   is_name text              a name, of 1 to 255 bytes
--   is_function bytes at      the entry at this offset is of type STT_FUNC, and its symbol is defined in some section
--   if_name text              the text, where it is a name
--   name_at strings at        the text that stands at a place of a string table, where it is a name
--   name_of bytes strings at  the name that a function's entry at this offset has in this string table, where it is one
--   symbol_at bytes strings at  the symbol that the entry at this offset gives, by this string table
--   first_symbols bytes strings from n  those of the first n entries from this offset on, in order
--   can_be_read bytes table strings  the table's entries have their size, and it and the string table lie in the file
--   symbols_in bytes table strings  the symbols of a symbol table with this string table, where both can be read
--   symbols_by bytes sections table  those of this symbol table, if there is one, with the string table that it links to
--   has_sections bytes        section headers have their size, and their table lies in the file
--   symbols_of bytes          the symbols of a file; none where its table can't be read
use Rattle.std.specs.Prelude.{ℕ, zero, suc, ◌+◌, ◌*◌, ◌/◌, ◌%◌, nat_lt, nat_le, ◌==◌, Bool, not, ◌&&◌, ◌||◌, List, [], ◌∷◌, ◌++◌, length, take, drop, Option, Some, None, find, option_map, option_to_list, position, slice_get, slice_index, if◌then◌else◌}
use Rattle.std.specs.List.{list_all}
use Rattle.std.specs.Prelude.{option_and_then}
use Rattle.elf_image.specs.Fields.{little_at}
use Rattle.elf_image.specs.declared.section.SectionHeader.{SectionHeader}
use Rattle.elf_image.specs.declared.symbol.Symbol.{Symbol}

abbrev pub e_shoff : List ℕ → ℕ
e_shoff bytes = little_at 8 bytes 40

abbrev pub e_shentsize : List ℕ → ℕ
e_shentsize bytes = little_at 2 bytes 58

abbrev pub e_shnum : List ℕ → ℕ
e_shnum bytes = little_at 2 bytes 60

unfoldable pub section_at : List ℕ → ℕ → SectionHeader
section_at bytes offset = record {
  sh_type = little_at 4 bytes (offset + 4);
  sh_offset = little_at 8 bytes (offset + 24);
  sh_size = little_at 8 bytes (offset + 32);
  sh_link = little_at 4 bytes (offset + 40);
  sh_entsize = little_at 8 bytes (offset + 56);
}

abbrev pub first_sections : List ℕ → ℕ → List SectionHeader
first_sections bytes zero = []
first_sections bytes (suc n) = first_sections bytes n ++ section_at bytes (e_shoff bytes + 64 * n) ∷ []

abbrev pub sections_of : List ℕ → List SectionHeader
sections_of bytes = first_sections bytes (e_shnum bytes)

abbrev pub lies_in : ℕ → SectionHeader → Bool
lies_in size section = nat_le (section.sh_offset + section.sh_size) size

abbrev pub is_symbol_table : SectionHeader → Bool
is_symbol_table section = section.sh_type == 2

abbrev pub contents : List ℕ → SectionHeader → List ℕ
contents bytes section = take section.sh_size (drop section.sh_offset bytes)

abbrev pub is_zero : ℕ → Bool
is_zero b = b == 0

abbrev pub text_at : List ℕ → ℕ → Option (List ℕ)
text_at strings at = option_map (λ end. take end (drop at strings)) (position is_zero (drop at strings))

abbrev pub is_letter : ℕ → Bool
is_letter b = (nat_le 65 b && nat_le b 90) || (nat_le 97 b && nat_le b 122)

abbrev pub is_first : ℕ → Bool
is_first b = is_letter b || b == 95 || b == 46 || b == 36

abbrev pub is_further : ℕ → Bool
is_further b = is_first b || (nat_le 48 b && nat_le b 57)

abbrev pub is_name : List ℕ → Bool
is_name text = nat_lt 0 (length text) && nat_le (length text) 255 && is_first (slice_index text 0) && list_all is_further text

abbrev pub is_function : List ℕ → ℕ → Bool
is_function bytes at = little_at 1 bytes (at + 4) % 16 == 2 && not (little_at 2 bytes (at + 6) == 0)

abbrev pub if_name : List ℕ → Option (List ℕ)
if_name text = if is_name text then Some text else None

abbrev pub name_at : List ℕ → ℕ → Option (List ℕ)
name_at strings at = option_and_then if_name (text_at strings at)

abbrev pub name_of : List ℕ → List ℕ → ℕ → Option (List ℕ)
name_of bytes strings at = if is_function bytes at then name_at strings (little_at 4 bytes at) else None

unfoldable pub symbol_at : List ℕ → List ℕ → ℕ → Option Symbol
symbol_at bytes strings at =
    option_map (λ name. record { name = name; value = little_at 8 bytes (at + 8) }) (name_of bytes strings at)

abbrev pub first_symbols : List ℕ → List ℕ → ℕ → ℕ → List Symbol
first_symbols bytes strings from zero = []
first_symbols bytes strings from (suc n) =
    first_symbols bytes strings from n ++ option_to_list (symbol_at bytes strings (from + 24 * n))

abbrev pub can_be_read : List ℕ → SectionHeader → SectionHeader → Bool
can_be_read bytes table strings = table.sh_entsize == 24 && lies_in (length bytes) table && lies_in (length bytes) strings

unfoldable pub symbols_in : List ℕ → SectionHeader → Option SectionHeader → List Symbol
symbols_in bytes table None = []
symbols_in bytes table (Some strings) =
    if can_be_read bytes table strings
    then first_symbols bytes (contents bytes strings) table.sh_offset (table.sh_size / 24)
    else []

abbrev pub symbols_by : List ℕ → List SectionHeader → Option SectionHeader → List Symbol
symbols_by bytes sections None = []
symbols_by bytes sections (Some table) = symbols_in bytes table (slice_get sections table.sh_link)

abbrev pub has_sections : List ℕ → Bool
has_sections bytes = e_shentsize bytes == 64 && nat_le (e_shoff bytes + 64 * e_shnum bytes) (length bytes)

unfoldable pub symbols_of : List ℕ → List Symbol
symbols_of bytes =
    if has_sections bytes then symbols_by bytes (sections_of bytes) (find is_symbol_table (sections_of bytes)) else []
