-- What lies in an executable range: some segment has it, and it ends below 2^64.
use Rattle.std.proofs.Common.{◌≡◌, ℕ, ◌+◌, ◌%◌, ◌^◌, ◌<◌, ◌≤◌, nat_le, Bool, true, false, not, List, [], ◌∷◌, map, filter, length, Contains, Option, None, Some, IsSome, refl, arith, if◌then◌else◌, ◌==◌, ◌&&◌, ◌||◌}
use Rattle.std.specs.List.{list_any}
use Rattle.std.proofs.lemmas.Bool.{leb-true}
use Rattle.std.proofs.lemmas.List.Elements.{All-contains, Contains-append_right}
use Rattle.elf_image.specs.Fetches.{fetch, fetch_length, read}
use Rattle.elf_image.specs.Images.{code_at, loaded}
use Rattle.elf_image.specs.Ranges.{executable_ranges, is_in, range_of}
use Rattle.elf_image.specs.Segments.{IsLoadable}
use Rattle.elf_image.specs.declared.fetched.Fetched.{Fetched}
use Rattle.elf_image.specs.declared.image.Image.{Image}
use Rattle.elf_image.specs.declared.range.Range.{Range}
use Rattle.elf_image.specs.declared.segment.Segment.{Segment}
use Rattle.elf_image.proofs.Laws.{loadable}

-- a segment that has n bytes from a on
pub record Covers (segments : List Segment) (a n : ℕ) : Type 0 where
  pub segment : Segment
  pub there : Contains segments segment
  pub within : is_in a n (range_of segment) ≡ true

later : (s : Segment) (segments : List Segment) (a n : ℕ) → Covers segments a n → Covers (s ∷ segments) a n
later s segments a n c = record { segment = c.segment; there = Contains-append_right (s ∷ []) segments c.segment c.there; within = c.within }

first_or_later : (s : Segment) (segments : List Segment) (a n : ℕ) (t : Bool) → is_in a n (range_of s) ≡ t
    → (list_any (is_in a n) (executable_ranges segments) ≡ true → Covers segments a n)
    → (t || list_any (is_in a n) (executable_ranges segments)) ≡ true → Covers (s ∷ segments) a n
first_or_later s segments a n true is rest e = record { segment = s; there = (0, omega arith, refl); within = is }
first_or_later s segments a n false is rest e = later s segments a n (rest e)

one_more : (s : Segment) (segments : List Segment) (a n : ℕ) (executable : Bool)
    → (list_any (is_in a n) (executable_ranges segments) ≡ true → Covers segments a n)
    → list_any (is_in a n) (map range_of (if executable then s ∷ filter (λ r. r.executable) segments else filter (λ r. r.executable) segments)) ≡ true
    → Covers (s ∷ segments) a n
one_more s segments a n true rest e = first_or_later s segments a n (is_in a n (range_of s)) refl rest e
one_more s segments a n false rest e = later s segments a n (rest e)

pub covered : (segments : List Segment) (a n : ℕ) → list_any (is_in a n) (executable_ranges segments) ≡ true → Covers segments a n
covered [] a n e = cc
covered (s ∷ segments) a n e = one_more s segments a n s.executable (λ h. covered segments a n h) e

pub both_true : (a b : Bool) → (a && b) ≡ true → (a ≡ true) × (b ≡ true)
both_true true b e = (refl, e)
both_true false b e = cc

some_bytes : (t : Bool) → 0 < (if t then 2 else 4)
some_bytes true = omega arith
some_bytes false = omega arith

abbrev fetched_there : ℕ → (ℕ → ℕ) → ℕ → Fetched
fetched_there unit memory a = record { word = read (fetch_length unit (memory a)) memory a; length = fetch_length unit (memory a) }

-- where something is fetched, it lies in a range
lies_there : (unit : ℕ) (code : List Range) (memory : ℕ → ℕ) (a : ℕ) → IsSome (fetch unit code memory a)
    → list_any (is_in a (fetch_length unit (memory a))) code ≡ true
unfolding fetch
lies_there unit code memory a some = by (a % unit == 0) (list_any (is_in a (fetch_length unit (memory a))) code) refl some
  where
    by : (multiple lies : Bool) → list_any (is_in a (fetch_length unit (memory a))) code ≡ lies
        → IsSome (if multiple && lies then Some (fetched_there unit memory a) else None)
        → list_any (is_in a (fetch_length unit (memory a))) code ≡ true
    by true true e some = e
    by true false e some = cc
    by false lies e some = cc

-- what is fetched from an image stands below 2^64
pub fetched_below : (image : Image) (a : ℕ) → IsSome (code_at image a) → a < 2 ^ 64
fetched_below image a some =
    let n = fetch_length image.unit (loaded image a) in
    let c = covered image.segments a n (lies_there image.unit (executable_ranges image.segments) (loaded image) a some) in
    let s = c.segment in
    let ends = (All-contains (IsLoadable (length image.file)) image.segments s (loadable image) c.there).ends in
    let range = both_true (nat_le s.address a) (nat_le (a + n) (s.address + s.size)) c.within in
    let to : a + n ≤ s.address + s.size = leb-true (a + n) (s.address + s.size) range.1 in
    let bytes : 0 < n = some_bytes (image.unit == 2 && not (loaded image a % 4 == 3)) in
    omega arith
