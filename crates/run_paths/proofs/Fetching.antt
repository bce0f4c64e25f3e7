-- The instruction at a point is fetched as long as no byte of it changes.
use Rattle.std.proofs.Common.{◌≡◌, ℕ, ◌+◌, ◌%◌, ◌^◌, ◌<◌, ◌≤◌, nat_le, Bool, true, false, not, List, None, Some, IsSome, length, refl, ap, sym, ◌∙◌, arith, subst, if◌then◌else◌, ◌==◌, ◌&&◌}
use Rattle.std.specs.List.{list_any}
use Rattle.std.proofs.lemmas.Bool.{eqb-true, le-leb, leb-true, lt-ltb}
use Rattle.std.proofs.lemmas.List.Elements.{All-contains}
use Rattle.elf_image.specs.Fetches.{fetch, fetch_length, read}
use Rattle.elf_image.specs.Images.{code_at, loaded, loaded_byte}
use Rattle.elf_image.specs.Ranges.{executable_ranges, is_in}
use Rattle.elf_image.specs.Segments.{IsLoadable, holds}
use Rattle.elf_image.specs.declared.fetched.Fetched.{Fetched}
use Rattle.elf_image.specs.declared.image.Image.{Image}
use Rattle.elf_image.specs.declared.range.Range.{Range}
use Rattle.elf_image.proofs.Laws.{loadable, one_segment}
use Rattle.rv_step.proofs.RangesCovered.{both_true, covered, fetched_below}
use Rattle.run_paths.specs.Activations.{behind}
use Rattle.run_paths.proofs.Bytes.{read_same}

abbrev pub fetched_as : ℕ → ℕ → Fetched
fetched_as word length = record { word = word; length = length }

record IsFetched (t : Bool) (w l word length : ℕ) : Type 0 where
  pub lies : t ≡ true
  pub word_is : w ≡ word
  pub length_is : l ≡ length

fetched_parts : (t : Bool) (w l word length : ℕ) → (if t then Some (fetched_as w l) else None) ≡ Some (fetched_as word length)
    → IsFetched t w l word length
fetched_parts true w l word count e =
    let same : fetched_as w l ≡ fetched_as word count = cc in
    record { lies = refl; word_is = ap (λ (f : Fetched). f.word) same; length_is = ap (λ (f : Fetched). f.length) same }
fetched_parts false w l word count e = cc

some_bytes : (t : Bool) → 0 < (if t then 2 else 4)
some_bytes true = omega arith
some_bytes false = omega arith

abbrev lies_in : ℕ → List Range → ℕ → ℕ → Bool
lies_in unit code a length = a % unit == 0 && list_any (is_in a length) code

parts : (unit : ℕ) (code : List Range) (m : ℕ → ℕ) (a word length : ℕ) → fetch unit code m a ≡ Some (fetched_as word length)
    → let l = fetch_length unit (m a) in IsFetched (lies_in unit code a l) (read l m a) l word length
unfolding fetch
parts unit code m a word length e = fetched_parts _ _ _ word length e

from_parts : (unit : ℕ) (code : List Range) (m : ℕ → ℕ) (a word length : ℕ)
    → (let l = fetch_length unit (m a) in IsFetched (lies_in unit code a l) (read l m a) l word length)
    → fetch unit code m a ≡ Some (fetched_as word length)
unfolding fetch
from_parts unit code m a word length is =
    ap (λ (t : Bool). if t then Some (fetched_as (read (fetch_length unit (m a)) m a) (fetch_length unit (m a))) else None) is.lies
    ∙ ap (λ (w : ℕ). Some (fetched_as w (fetch_length unit (m a)))) is.word_is ∙ ap (λ (l : ℕ). Some (fetched_as word l)) is.length_is

-- how many bytes are fetched, and which number they are
pub fetched_bytes : (unit : ℕ) (code : List Range) (m : ℕ → ℕ) (a word length : ℕ) → fetch unit code m a ≡ Some (fetched_as word length)
    → (fetch_length unit (m a) ≡ length) × (read length m a ≡ word)
fetched_bytes unit code m a word length is =
    let at = parts unit code m a word length is in
    (at.length_is, subst (λ (l : ℕ). read l m a ≡ word) at.length_is at.word_is)

-- the same bytes are fetched the same
pub fetch_same : (unit : ℕ) (code : List Range) (m n : ℕ → ℕ) (a word length : ℕ) → a < 2 ^ 64 → fetch unit code m a ≡ Some (fetched_as word length)
    → ((k : ℕ) → k < length → n (behind a k) ≡ m (behind a k)) → fetch unit code n a ≡ Some (fetched_as word length)
fetch_same unit code m n a word length small is same =
    let old = parts unit code m a word length is in
    let some : 0 < length = subst (λ (l : ℕ). 0 < l) old.length_is (some_bytes (unit == 2 && not (m a % 4 == 3))) in
    let here : behind a 0 ≡ a = omega arith in
    let first : n a ≡ m a = subst (λ (b : ℕ). n b ≡ m b) here (same 0 some) in
    let l = fetch_length unit (m a) in
    from_parts unit code n a word length
    (subst (λ (low : ℕ). let k = fetch_length unit low in IsFetched (lies_in unit code a k) (read k n a) k word length) (sym first) (record {
      lies = old.lies;
      word_is = read_same l m n a small (λ k below. same k (subst (λ (j : ℕ). k < j) old.length_is below)) ∙ old.word_is;
      length_is = old.length_is;
    }))

pub loaded_there : (image : Image) (a n k : ℕ) → list_any (is_in a n) (executable_ranges image.segments) ≡ true → k < n
    → loaded_byte image (behind a k) ≡ Some (loaded image (behind a k))
loaded_there image a n k lies below =
    let c = covered image.segments a n lies in
    let s = c.segment in
    let ends = (All-contains (IsLoadable (length image.file)) image.segments s (loadable image) c.there).ends in
    let range = both_true (nat_le s.address a) (nat_le (a + n) (s.address + s.size)) c.within in
    let from : s.address ≤ a = leb-true s.address a range.0 in
    let to : a + n ≤ s.address + s.size = leb-true (a + n) (s.address + s.size) range.1 in
    let here : behind a k ≡ a + k = omega arith in
    let has : holds s (behind a k) ≡ true = rw (here, le-leb s.address (a + k) (omega arith), lt-ltb (a + k) (s.address + s.size) (omega arith)) refl in
    let found = one_segment image s (behind a k) c.there has in
    rw found refl

-- a memory that has the loaded bytes
pub fetch_loaded : (image : Image) (m : ℕ → ℕ) (a word length : ℕ) → a < 2 ^ 64 → ((b w : ℕ) → loaded_byte image b ≡ Some w → m b ≡ w)
    → code_at image a ≡ Some (fetched_as word length)
    → fetch image.unit (executable_ranges image.segments) m a ≡ Some (fetched_as word length)
fetch_loaded image m a word length small has is =
    let old = parts image.unit (executable_ranges image.segments) (loaded image) a word length is in
    let lies = both_true (a % image.unit == 0) (list_any (is_in a (fetch_length image.unit (loaded image a))) (executable_ranges image.segments)) old.lies in
    fetch_same image.unit (executable_ranges image.segments) (loaded image) m a word length small is
    (λ k below. has (behind a k) (loaded image (behind a k)) (loaded_there image a length k
    (subst (λ (l : ℕ). list_any (is_in a l) (executable_ranges image.segments) ≡ true) old.length_is lies.1) below))

-- what is fetched lies below 2^64
pub fetched_small : (image : Image) (a word count : ℕ) → code_at image a ≡ Some (fetched_as word count) → a < 2 ^ 64
fetched_small image a word count is = fetched_below image a (subst IsSome (sym is) refl)

-- what is fetched stands at a multiple of the unit, and has an even number of bytes
pub fetched_even : (unit : ℕ) (code : List Range) (m : ℕ → ℕ) (a word count : ℕ) → fetch unit code m a ≡ Some (fetched_as word count)
    → (a % unit ≡ 0) × (count % 2 ≡ 0)
fetched_even unit code m a word count is =
    let old = parts unit code m a word count is in
    let lies = both_true (a % unit == 0) (list_any (is_in a (fetch_length unit (m a))) code) old.lies in
    (eqb-true (a % unit) 0 lies.0, subst (λ (l : ℕ). l % 2 ≡ 0) old.length_is (two_or_four (unit == 2 && not (m a % 4 == 3))))
  where
    two_or_four : (t : Bool) → (if t then 2 else 4) % 2 ≡ 0
    two_or_four true = refl
    two_or_four false = refl
