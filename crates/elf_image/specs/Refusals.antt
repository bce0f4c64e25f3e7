-- When bytes are refused. Each condition is one on all the bytes; sums are whole numbers.
--
--   when condition refusal        the refusal, where the condition holds
--   at_header refusal found       the refusal at the offset of the header that was found, if one was
--   first_of refusals             the first refusal of a list
--   magic                         the four bytes that open every ELF file
--   identity_refusal bytes        the refusal for what the file's first bytes say of it
--   machine_refusal bytes         the refusal for the kind of file and its machine
--   table_refusal bytes           the refusal for the table of program headers
--   header_refusal size headers   the refusal for a header alone, in a file of this size
--   shares_earlier headers h      h shares an address with one of the headers that stands earlier
--   kept_refusal headers          the refusal for the kept headers together
--   entry_refusal bytes segments  the refusal for the entry, where nothing is fetched from the segments
--   refusals_of bytes             all of these, in order
--   refusal_of bytes              the refusal of bytes: the first of them, if there is one
--   IsVerdict result refusal      a check's result: an error exactly where there is this refusal
use Rattle.std.specs.Prelude.{◌≡◌, Result, MatchResult, ℕ, ◌+◌, ◌*◌, nat_lt, ◌==◌, Bool, not, ◌&&◌, List, [], ◌∷◌, Option, None, Some, is_none, option_map, length, find, slice_get, slice_index, if◌then◌else◌}
use Rattle.std.specs.List.{starts_with, list_any}
use Rattle.std.specs.Prelude.{nat_eq}
use Rattle.elf_image.specs.Fields.{e_type, e_machine, e_entry, e_phoff, e_flags, e_phentsize, e_phnum, has_bit, unit_of}
use Rattle.elf_image.specs.Headers.{headers_of, is_dynamic, is_bad}
use Rattle.elf_image.specs.Segments.{shares_address, segment_of, kept_headers, segments_of}
use Rattle.elf_image.specs.Fetches.{fetched_in}
use Rattle.elf_image.specs.declared.program_header.ProgramHeader.{ProgramHeader}
use Rattle.elf_image.specs.declared.segment.Segment.{Segment}
use Rattle.refusals.specs.declared.elf.ElfRefusal.{ElfRefusal}
use Rattle.refusals.specs.declared.elf.ElfRefusal.TheVariants.{Short, NotElf, NotClass64, NotLittle, NotExec, NotRiscv, Rve, BadHeaderTable, Dynamic, BadSegment, TooManySegments, Overlap, NoCode}

abbrev pub when : Bool → ElfRefusal → Option ElfRefusal
when condition refusal = if condition then Some refusal else None

abbrev pub at_header : (ℕ → ElfRefusal) → Option ProgramHeader → Option ElfRefusal
at_header refusal found = option_map (λ h. refusal h.offset) found

abbrev pub first_of : List (Option ElfRefusal) → Option ElfRefusal
first_of [] = None
first_of (None ∷ later) = first_of later
first_of (Some refusal ∷ later) = Some refusal

abbrev pub magic : List ℕ
magic = 0x7f ∷ 0x45 ∷ 0x4c ∷ 0x46 ∷ []

unfoldable pub identity_refusal : List ℕ → Option ElfRefusal
identity_refusal bytes = first_of (
    when (nat_lt (length bytes) 64) (Short (length bytes) (length bytes))
    ∷ when (not (starts_with nat_eq bytes magic)) (NotElf 0)
    ∷ when (not (slice_index bytes 4 == 2)) (NotClass64 (slice_index bytes 4) 4)
    ∷ when (not (slice_index bytes 5 == 1)) (NotLittle (slice_index bytes 5) 5)
    ∷ [])

unfoldable pub machine_refusal : List ℕ → Option ElfRefusal
machine_refusal bytes = first_of (
    when (not (e_type bytes == 2)) (NotExec (e_type bytes) 16)
    ∷ when (not (e_machine bytes == 243)) (NotRiscv (e_machine bytes) 18)
    ∷ when (has_bit 0x8 (e_flags bytes)) (Rve 48)
    ∷ [])

unfoldable pub table_refusal : List ℕ → Option ElfRefusal
table_refusal bytes = first_of (
    when (not (e_phentsize bytes == 56)) (BadHeaderTable 54)
    ∷ when (nat_lt (length bytes) (e_phoff bytes + 56 * e_phnum bytes)) (BadHeaderTable 32)
    ∷ [])

unfoldable pub header_refusal : ℕ → List ProgramHeader → Option ElfRefusal
header_refusal size headers = first_of (
    at_header (λ offset. Dynamic offset) (find is_dynamic headers)
    ∷ at_header (λ offset. BadSegment offset) (find (is_bad size) headers)
    ∷ [])

abbrev pub shares_earlier : List ProgramHeader → ProgramHeader → Bool
shares_earlier headers h =
    list_any (λ e. nat_lt e.offset h.offset && shares_address (segment_of e) (segment_of h)) headers

unfoldable pub kept_refusal : List ProgramHeader → Option ElfRefusal
kept_refusal kept = first_of (
    at_header (λ offset. TooManySegments 64 offset) (slice_get kept 64)
    ∷ at_header (λ offset. Overlap offset) (find (shares_earlier kept) kept)
    ∷ [])

unfoldable pub entry_refusal : List ℕ → List Segment → Option ElfRefusal
entry_refusal bytes segments =
    when (is_none (fetched_in (unit_of bytes) bytes segments (e_entry bytes))) (NoCode (e_entry bytes) 24)

abbrev pub refusals_of : List ℕ → List (Option ElfRefusal)
refusals_of bytes =
    identity_refusal bytes
    ∷ machine_refusal bytes
    ∷ table_refusal bytes
    ∷ header_refusal (length bytes) (headers_of bytes)
    ∷ kept_refusal (kept_headers bytes)
    ∷ entry_refusal bytes (segments_of bytes)
    ∷ []

unfoldable pub refusal_of : List ℕ → Option ElfRefusal
refusal_of bytes = first_of (refusals_of bytes)

abbrev pub IsVerdict : {T : Type 0} → Result T ElfRefusal → Option ElfRefusal → Type 0
IsVerdict result refusal = MatchResult result (λ _. refusal ≡ None) (λ e. refusal ≡ Some e)
