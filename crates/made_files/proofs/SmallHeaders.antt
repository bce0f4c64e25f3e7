-- What the headers of a small file say: its fields, its one segment, and that nothing in them is refused.
use Rattle.std.proofs.Common.{◌≡◌, ℕ, ◌+◌, ◌*◌, ◌^◌, ◌<◌, ◌≤◌, Bool, true, false, cond, ◌||◌, List, [], ◌∷◌, ◌++◌, length, map, filter, find, drop, Option, None, Some, is_none, refl, ap, sym, ◌∙◌, arith, le-ltb, lt-ltb, length-append, if◌then◌else◌}
use Rattle.std.proofs.lemmas.Nat.{from_le_bytes-to_le_bytes_8}
use Rattle.byteorder.specs.Endian.{little_number}
use Rattle.elf_write.specs.Headers.{load_address, small_headers}
use Rattle.elf_image.specs.Fields.{e_entry, e_flags, e_phnum, e_phoff, has_bit, little_at, unit_of}
use Rattle.elf_image.specs.Headers.{first_headers, header_at, headers_of, is_bad, is_kept}
use Rattle.elf_image.specs.Segments.{kept_headers, segment_of, segments_of}
use Rattle.elf_image.specs.Fetches.{fetched_in}
use Rattle.elf_image.specs.Refusals.{at_header, entry_refusal, first_of, header_refusal, identity_refusal, kept_refusal, machine_refusal, refusal_of, table_refusal, when}
use Rattle.elf_image.specs.declared.fetched.Fetched.{Fetched}
use Rattle.elf_image.specs.declared.program_header.ProgramHeader.{ProgramHeader}
use Rattle.elf_image.specs.declared.segment.Segment.{Segment}
use Rattle.refusals.specs.declared.elf.ElfRefusal.{ElfRefusal}
use Rattle.refusals.specs.declared.elf.ElfRefusal.TheVariants.{BadHeaderTable, BadSegment}

-- a small file of this size, with these bytes behind its headers
abbrev pub file : ℕ → List ℕ → List ℕ
file size code = small_headers 0 size ++ code

-- its one program header, and its segment
abbrev header : ℕ → ProgramHeader
header size = record {
  offset = 64;
  p_type = 1;
  p_flags = 5;
  p_offset = 0;
  p_vaddr = load_address;
  p_filesz = size;
  p_memsz = size;
}

abbrev pub segment : ℕ → Segment
segment size = record { address = load_address; size = size; offset = 0; stored = size; executable = true }

pub entry_is : (size : ℕ) (code : List ℕ) → e_entry (file size code) ≡ 0x10078
unfolding little_at
entry_is size code = refl

table_at : (size : ℕ) (code : List ℕ) → e_phoff (file size code) ≡ 64
unfolding little_at
table_at size code = refl

no_flags : (size : ℕ) (code : List ℕ) → e_flags (file size code) ≡ 0
unfolding little_at
no_flags size code = refl

one_header : (size : ℕ) (code : List ℕ) → e_phnum (file size code) ≡ 1
unfolding little_at
one_header size code = refl

pub unit_is : (size : ℕ) (code : List ℕ) → unit_of (file size code) ≡ 4
unit_is size code = ap (λ (flags : ℕ). if has_bit 0x1 flags then 2 else 4) (no_flags size code)

pub file_length : (size : ℕ) (code : List ℕ) → length (file size code) ≡ 120 + length code
file_length size code = length-append (small_headers 0 size) code

header_is : (size : ℕ) (code : List ℕ) → size < 2 ^ 64 → header_at (file size code) 64 ≡ header size
unfolding header_at little_at
header_is size code fits =
    let stored : little_number 8 (drop 96 (file size code)) ≡ size = omega (arith, from_le_bytes-to_le_bytes_8 size fits) in
    let sized : little_number 8 (drop 104 (file size code)) ≡ size = omega (arith, from_le_bytes-to_le_bytes_8 size fits) in
    λ i. record { offset = 64; p_type = 1; p_flags = 5; p_offset = 0; p_vaddr = load_address; p_filesz = stored i; p_memsz = sized i }

headers_are : (size : ℕ) (code : List ℕ) → size < 2 ^ 64 → headers_of (file size code) ≡ header size ∷ []
headers_are size code fits =
    let place : e_phoff (file size code) + 56 * 0 ≡ 64 = omega (arith, table_at size code) in
    ap (first_headers (file size code)) (one_header size code)
    ∙ ap (λ (at : ℕ). header_at (file size code) at ∷ []) place
    ∙ ap (λ (h : ProgramHeader). h ∷ []) (header_is size code fits)

kept_are : (size : ℕ) (code : List ℕ) → 0 < size → size < 2 ^ 64 → kept_headers (file size code) ≡ header size ∷ []
kept_are size code some fits =
    ap (filter is_kept) (headers_are size code fits)
    ∙ ap (λ (kept : Bool). cond kept (header size ∷ []) []) (lt-ltb 0 size some)

pub segments_are : (size : ℕ) (code : List ℕ) → 0 < size → size < 2 ^ 64 → segments_of (file size code) ≡ segment size ∷ []
segments_are size code some fits = ap (map segment_of) (kept_are size code some fits)

-- conditions that don't hold
first_none : (r : Option ElfRefusal) (rest : List (Option ElfRefusal)) → r ≡ None → first_of rest ≡ None → first_of (r ∷ rest) ≡ None
first_none None rest e f = f
first_none (Some r) rest e f = absurd (cc)

unmet : (condition : Bool) (refusal : ElfRefusal) → condition ≡ false → when condition refusal ≡ None
unmet condition refusal e = ap (λ (b : Bool). when b refusal) e

module _ (size : ℕ) (code : List ℕ) (sized : size ≡ 120 + length code) (small : size < 2 ^ 32) where
  fits : size < 2 ^ 64
  fits = omega (arith, small)

  some : 0 < size
  some = omega (arith, sized)

  identified : identity_refusal (file size code) ≡ None
  unfolding identity_refusal
  identified =
      let long = file_length size code in
      first_none _ _ (unmet _ _ (le-ltb (length (file size code)) 64 (omega (arith, long)))) refl

  for_machine : machine_refusal (file size code) ≡ None
  unfolding machine_refusal little_at
  for_machine = refl

  with_table : table_refusal (file size code) ≡ None
  unfolding table_refusal little_at
  with_table =
      let long = file_length size code in
      ap (λ (b : Bool). first_of (when b (BadHeaderTable 32) ∷ [])) (le-ltb (length (file size code)) 120 (omega (arith, long)))

  not_bad : is_bad (length (file size code)) (header size) ≡ false
  not_bad =
      let long = file_length size code in
      let stored = le-ltb (length (file size code)) (0 + size) (omega (arith, long, sized)) in
      let loaded = le-ltb size size (omega arith) in
      let ends = le-ltb (2 ^ 64) (load_address + size) (omega (arith, small)) in
      λ i. stored i || loaded i || ends i

  no_bad : header_refusal (length (file size code)) (header size ∷ []) ≡ None
  unfolding header_refusal
  no_bad = ap (λ (b : Bool). first_of (at_header (λ offset. BadSegment offset) (cond b (Some (header size)) None) ∷ [])) not_bad

  none_shared : kept_refusal (header size ∷ []) ≡ None
  unfolding kept_refusal
  none_shared = refl

  enters : (at : Fetched) → fetched_in 4 (file size code) (segment size ∷ []) 0x10078 ≡ Some at
      → entry_refusal (file size code) (segment size ∷ []) ≡ None
  unfolding entry_refusal
  enters at found =
      let same : fetched_in (unit_of (file size code)) (file size code) (segment size ∷ []) (e_entry (file size code)) ≡ Some at =
      (λ i. fetched_in (unit_is size code i) (file size code) (segment size ∷ []) (entry_is size code i)) ∙ found in
      unmet _ _ (ap is_none same)

  pub not_refused : (at : Fetched) → fetched_in 4 (file size code) (segment size ∷ []) 0x10078 ≡ Some at → refusal_of (file size code) ≡ None
  unfolding refusal_of
  not_refused at found =
      let headers = ap (header_refusal (length (file size code))) (headers_are size code fits) ∙ no_bad in
      let kept = ap kept_refusal (kept_are size code some fits) ∙ none_shared in
      let entered = ap (entry_refusal (file size code)) (segments_are size code some fits) ∙ enters at found in
      first_none _ _ identified (first_none _ _ for_machine (first_none _ _ with_table (first_none _ _ headers
      (first_none _ _ kept (first_none _ _ entered refl)))))
