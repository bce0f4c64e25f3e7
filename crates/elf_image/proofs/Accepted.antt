-- What holds of a file that nothing refuses.
use Rattle.std.proofs.Common.{◌≡◌, ℕ, ◌%◌, ◌≤◌, Bool, true, false, List, [], ◌∷◌, Option, None, Some, is_some, is_none, ◌&&◌, ◌==◌, if◌then◌else◌, length, map, filter, get_or, slice_get, All, AllPairs, find, eqb-true, refl, arith, lit<, inl, inr}
use Rattle.std.proofs.lemmas.List.{length-map}
use Rattle.std.proofs.lemmas.Option.{slice_get_cases}
use Rattle.std.proofs.lemmas.Grind.{common_steps}
use Rattle.std.proofs.lemmas.List.Elements.{All-nil, All-cons, All-map, All-filter, filter_passes}
use Rattle.elf_image.specs.Headers.{headers_of, is_dynamic, is_bad, is_kept}
use Rattle.std.specs.List.{list_any}
use Rattle.elf_image.specs.Fields.{e_entry, unit_of}
use Rattle.elf_image.specs.Fetches.{fetch, fetch_length, fetched_in, read}
use Rattle.elf_image.specs.Ranges.{is_in}
use Rattle.elf_image.specs.Segments.{IsLoadable, shares_address, kept_headers, segment_of, segments_of}
use Rattle.elf_image.specs.Refusals.{when, at_header, first_of, header_refusal, kept_refusal, entry_refusal, shares_earlier, refusals_of, refusal_of}
use Rattle.refusals.specs.declared.elf.ElfRefusal.{ElfRefusal}
use Rattle.refusals.specs.declared.elf.ElfRefusal.TheVariants.{Dynamic, BadSegment, TooManySegments, Overlap, NoCode}
use Rattle.elf_image.specs.declared.program_header.ProgramHeader.{ProgramHeader}
use Rattle.elf_image.specs.declared.segment.Segment.{Segment}
use Rattle.elf_image.specs.declared.range.Range.{Range}
use Rattle.elf_image.specs.declared.fetched.Fetched.{Fetched}
use Rattle.elf_image.proofs.Apart.{segments_apart}
use Rattle.elf_image.proofs.Found.{find-none}

-- where the first of some refusals is none, each is none
first_of-none : (refusals : List (Option ElfRefusal)) → first_of refusals ≡ None → All (λ r. r ≡ None) refusals
first_of-none [] none = All-nil _
first_of-none (None ∷ later) none = All-cons (λ r. r ≡ None) None later refl (first_of-none later none)
first_of-none (Some r ∷ later) none = absurd (cc)

pub none_refused : (bytes : List ℕ) → refusal_of bytes ≡ None → All (λ r. r ≡ None) (refusals_of bytes)
unfolding refusal_of
none_refused bytes none = first_of-none (refusals_of bytes) none

at_header-none : (refusal : ℕ → ElfRefusal) (found : Option ProgramHeader) → at_header refusal found ≡ None → found ≡ None
at_header-none refusal None none = refl
at_header-none refusal (Some h) none = absurd (cc)

no_bad : (size : ℕ) (headers : List ProgramHeader) → header_refusal size headers ≡ None → find (is_bad size) headers ≡ None
unfolding header_refusal
no_bad size headers none =
    let dynamic = at_header (λ offset. Dynamic offset) (find is_dynamic headers) in
    let bad = at_header (λ offset. BadSegment offset) (find (is_bad size) headers) in
    at_header-none (λ offset. BadSegment offset) _ (first_of-none (dynamic ∷ bad ∷ []) none 1 None (lit< tt))

loadable : (size : ℕ) (h : ProgramHeader) → is_bad size h ≡ false → is_kept h ≡ true → IsLoadable size (segment_of h)
loadable size h fits kept = grind (arith, common_steps)

-- where no header alone is refused, the kept ones are loadable
pub kept_loadable : (size : ℕ) (headers : List ProgramHeader) → header_refusal size headers ≡ None → All (IsLoadable size) (map segment_of (filter is_kept headers))
kept_loadable size headers none =
    let fits = All-filter is_kept (λ h. is_bad size h ≡ false) headers (find-none (is_bad size) headers (no_bad size headers none)) in
    let kept = filter_passes is_kept headers in
    let all = filter is_kept headers in
    All-map (IsLoadable size) segment_of all (λ k d within. loadable size (get_or all k d) (fits k d within) (kept k d within))

pub segments_loadable : (bytes : List ℕ) → refusal_of bytes ≡ None → All (IsLoadable (length bytes)) (segments_of bytes)
segments_loadable bytes none = kept_loadable (length bytes) (headers_of bytes) (none_refused bytes none 3 None (lit< tt))

kept_rows : (kept : List ProgramHeader) → kept_refusal kept ≡ None → (slice_get kept 64 ≡ None) × (find (shares_earlier kept) kept ≡ None)
unfolding kept_refusal
kept_rows kept none =
    let many = at_header (λ offset. TooManySegments 64 offset) (slice_get kept 64) in
    let shared = at_header (λ offset. Overlap offset) (find (shares_earlier kept) kept) in
    let rows = first_of-none (many ∷ shared ∷ []) none in (
      at_header-none (λ offset. TooManySegments 64 offset) _ (rows 0 None (lit< tt)),
      at_header-none (λ offset. Overlap offset) _ (rows 1 None (lit< tt)),
    )

pub segments_few : (bytes : List ℕ) → refusal_of bytes ≡ None → length (segments_of bytes) ≤ 64
segments_few bytes none =
    let kept = kept_headers bytes in
    let no_more = (kept_rows kept (none_refused bytes none 4 None (lit< tt))).0 in
    rw length-map (elim (slice_get_cases kept 64).1 as (λ _. length kept ≤ 64) [ inl there ↦ absurd (cc) | inr past ↦ past.0 ])

pub segments_share_none : (bytes : List ℕ) → refusal_of bytes ≡ None → AllPairs (λ s t. shares_address s t ≡ false) (segments_of bytes)
segments_share_none bytes none = segments_apart bytes (kept_rows (kept_headers bytes) (none_refused bytes none 4 None (lit< tt))).1

when-none : (condition : Bool) (refusal : ElfRefusal) → when condition refusal ≡ None → condition ≡ false
when-none true refusal none = absurd (cc)
when-none false refusal none = refl

some_from_not_none : {X : Type 0} (o : Option X) → is_none o ≡ false → is_some o ≡ true
some_from_not_none None none = absurd (cc)
some_from_not_none (Some x) some = refl

-- something is fetched at the entry
entry_is_fetched : (bytes : List ℕ) (segments : List Segment) → entry_refusal bytes segments ≡ None
    → is_some (fetched_in (unit_of bytes) bytes segments (e_entry bytes)) ≡ true
unfolding entry_refusal
entry_is_fetched bytes segments none =
    let found = fetched_in (unit_of bytes) bytes segments (e_entry bytes) in
    some_from_not_none found (when-none (is_none found) (NoCode (e_entry bytes) 24) none)

pub entry_accepted : (bytes : List ℕ) → refusal_of bytes ≡ None → is_some (fetched_in (unit_of bytes) bytes (segments_of bytes) (e_entry bytes)) ≡ true
entry_accepted bytes none = entry_is_fetched bytes (segments_of bytes) (none_refused bytes none 5 None (lit< tt))

both_held : {X : Type 0} (b held : Bool) (x : X) → is_some (if b && held then Some x else None) ≡ true → b ≡ true
both_held true held x some = refl
both_held false held x some = absurd (cc)

-- and so the entry is a multiple of the unit
pub fetched_at_multiple : (unit : ℕ) (code : List Range) (memory : ℕ → ℕ) (a : ℕ) → is_some (fetch unit code memory a) ≡ true → a % unit ≡ 0
unfolding fetch
fetched_at_multiple unit code memory a found =
    let length : ℕ = fetch_length unit (memory a) in
    let at : Fetched = record { word = read length memory a; length = length } in
    eqb-true (a % unit) 0 (both_held (a % unit == 0) (list_any (is_in a length) code) at found)
