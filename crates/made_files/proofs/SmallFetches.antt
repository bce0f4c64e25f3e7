-- What is fetched from a small file whose code is words.
use Rattle.std.proofs.Common.{◌≡◌, ℕ, ◌+◌, ◌-◌, ◌*◌, ◌/◌, ◌%◌, ◌^◌, ◌<◌, ◌≤◌, ◌==◌, Bool, true, false, cond, ◌&&◌, List, [], ◌∷◌, ◌++◌, length, take, get_or, slice_index, Option, None, Some, option_map, unwrap_or, refl, ap, sym, ◌∙◌, arith, lt-ltb, le-leb, eq-eqb, if◌then◌else◌, length-take-le, get_or-append-add, find}
use Rattle.std.specs.Int.{from_le_bytes, w32}
use Rattle.std.specs.List.{list_any}
use Rattle.std.proofs.lemmas.Bool.{and_from}
use Rattle.std.proofs.lemmas.List.Folds.{list_any_at}
use Rattle.std.proofs.lemmas.List.Concat.{get_or-flat_map}
use Rattle.std.proofs.lemmas.Nat.{from_le_bytes-to_le_bytes_4}
use Rattle.byteorder.specs.Endian.{little_bytes}
use Rattle.elf_write.specs.Headers.{load_address, small_headers, words_text}
use Rattle.elf_write.proofs.Laws.{words_length}
use Rattle.elf_image.specs.Fetches.{fetch, fetched_in, loaded_in, read}
use Rattle.elf_image.specs.Images.{code_at, code_word}
use Rattle.elf_image.specs.Ranges.{executable_ranges, is_in, range_of}
use Rattle.elf_image.specs.Segments.{byte_in, code_segment, holds, holds_code, segments_of, word_in}
use Rattle.elf_image.specs.Fields.{unit_of}
use Rattle.elf_image.specs.declared.fetched.Fetched.{Fetched}
use Rattle.elf_image.specs.declared.image.Image.{Image}
use Rattle.elf_image.specs.declared.range.Range.{Range}
use Rattle.elf_image.specs.declared.segment.Segment.{Segment}
use Rattle.elf_image.proofs.Laws.{read_4}
use Rattle.flow_points.specs.Flows.{Fetches, fetches_of}
use Rattle.made_files.proofs.SmallHeaders.{file, segment, segments_are, unit_is}

-- word number k stands at this address, and is fetched so
abbrev pub address : ℕ → ℕ
address k = 0x10078 + 4 * k

abbrev pub whole_word : ℕ → Fetched
whole_word w = record { word = w; length = 4 }

-- code whose words, at the entry and behind it, are these
pub record HasWords (fetches : Fetches) (words : List ℕ) : Type 0 where
  pub unit_four : fetches.unit ≡ 4
  pub at : (k : ℕ) → k < length words → fetches.at (address k) ≡ Some (whole_word (get_or words k 0))
  pub word : (k : ℕ) → k < length words → fetches.word (address k) ≡ Some (get_or words k 0)

fetch_there : (code : List Range) (memory : ℕ → ℕ) (a w : ℕ) → a % 4 ≡ 0 → list_any (is_in a 4) code ≡ true → read 4 memory a ≡ w
    → fetch 4 code memory a ≡ Some (whole_word w)
unfolding fetch
fetch_there code memory a w even lies is =
    ap (λ (b : Bool). if b then Some (whole_word (read 4 memory a)) else None) (and_from (a % 4 == 0) _ (eq-eqb (a % 4) 0 even) lies)
    ∙ ap (λ (v : ℕ). Some (whole_word v)) is

bytes_joined : (x y z t : ℕ) → from_le_bytes w32 (x ∷ y ∷ z ∷ t ∷ []) ≡ x + 2 ^ 8 * y + 2 ^ 16 * z + 2 ^ 24 * t
bytes_joined x y z t = omega arith

word_joined : (w x y z t : ℕ) → w < 2 ^ 32 → x ≡ w % 256 → y ≡ w / 256 % 256 → z ≡ w / 65536 % 256 → t ≡ w / 16777216 % 256
    → x + 2 ^ 8 * y + 2 ^ 16 * z + 2 ^ 24 * t ≡ w
word_joined w x y z t fits a b c d = omega (arith, from_le_bytes-to_le_bytes_4 w fits, a, b, c, d)

module _ (words : List ℕ) (size : ℕ) (sized : size ≡ 120 + 4 * length words) (small : size < 2 ^ 32) where
  abbrev bytes : List ℕ
  bytes = file size (words_text words)

  abbrev byte_of_word : ℕ → ℕ → ℕ
  byte_of_word k i = get_or (little_bytes 4 (get_or words k 0)) i 0

  abbrev byte_at : ℕ → ℕ → ℕ
  byte_at k i = byte_in bytes (segment size) (address k + i)

  text_byte : (k i : ℕ) → k < length words → i < 4 → get_or (words_text words) (4 * k + i) 0 ≡ byte_of_word k i
  text_byte k i within low =
      let front = words_length (take k words) in
      let many = length-take-le k words (omega (arith, within)) in
      let place : 4 * k + i ≡ length (words_text (take k words)) + i = omega (arith, front, many) in
      ap (λ (at : ℕ). get_or (words_text words) at 0) place ∙ get_or-flat_map (little_bytes 4) words k i 0 0 within low

  stored : (k i : ℕ) → k < length words → i < 4 → byte_in bytes (segment size) (address k + i) ≡ byte_of_word k i
  stored k i within low =
      let at = address k + i - load_address in
      let place : 0 + at ≡ 120 + (4 * k + i) = omega arith in
      ap (λ (b : Bool). if b then slice_index bytes (0 + at) else 0) (lt-ltb at size (omega (arith, within, low, sized)))
      ∙ ap (slice_index bytes) place
      ∙ get_or-append-add (small_headers 0 size) (words_text words) (4 * k + i) 0
      ∙ text_byte k i within low

  held : (k i : ℕ) → k < length words → i < 4 → holds (segment size) (address k + i) ≡ true
  held k i within low =
      and_from _ _ (le-leb load_address (address k + i) (omega arith)) (lt-ltb (address k + i) (load_address + size) (omega (arith, within, low, sized)))

  byte : (k i : ℕ) → k < length words → i < 4 → loaded_in bytes (segment size ∷ []) (address k + i) ≡ byte_of_word k i
  byte k i within low =
      ap (λ (b : Bool). unwrap_or (option_map (λ s. byte_in bytes s (address k + i)) (cond b (Some (segment size)) None)) 0) (held k i within low)
      ∙ stored k i within low

  unwrapped : (k i : ℕ) → k < length words → i < 4 → (address k + i) % 2 ^ 64 ≡ address k + i
  unwrapped k i within low = omega (arith, within, low, sized, small)

  word_read : (k : ℕ) → k < length words → get_or words k 0 < 2 ^ 32
      → read 4 (loaded_in bytes (segment size ∷ [])) (address k) ≡ get_or words k 0
  word_read k within fits =
      let memory = loaded_in bytes (segment size ∷ []) in
      let zero_on : address k ≡ address k + 0 = omega arith in
      read_4 memory (address k)
      ∙ word_joined (get_or words k 0) (memory (address k)) _ _ _ fits
      (ap memory zero_on ∙ byte k 0 within (omega arith))
      (ap memory (unwrapped k 1 within (omega arith)) ∙ byte k 1 within (omega arith))
      (ap memory (unwrapped k 2 within (omega arith)) ∙ byte k 2 within (omega arith))
      (ap memory (unwrapped k 3 within (omega arith)) ∙ byte k 3 within (omega arith))

  in_range : (k : ℕ) → k < length words → list_any (is_in (address k) 4) (executable_ranges (segment size ∷ [])) ≡ true
  in_range k within =
      list_any_at (is_in (address k) 4) (executable_ranges (segment size ∷ [])) 0 (range_of (segment size)) (omega arith)
      (and_from _ _ (le-leb load_address (address k) (omega arith)) (le-leb (address k + 4) (load_address + size) (omega (arith, within, sized))))

  fetched : (k : ℕ) → k < length words → get_or words k 0 < 2 ^ 32
      → fetched_in 4 bytes (segment size ∷ []) (address k) ≡ Some (whole_word (get_or words k 0))
  fetched k within fits =
      fetch_there (executable_ranges (segment size ∷ [])) (loaded_in bytes (segment size ∷ [])) (address k) (get_or words k 0) (omega arith)
      (in_range k within) (word_read k within fits)

  word_there : (k : ℕ) → k < length words → get_or words k 0 < 2 ^ 32
      → option_map (λ s. word_in bytes s (address k)) (code_segment (segment size ∷ []) (address k)) ≡ Some (get_or words k 0)
  word_there k within fits =
      let zero_on : address k ≡ address k + 0 = omega arith in
      ap (λ (b : Bool). option_map (λ s. word_in bytes s (address k)) (cond b (Some (segment size)) None))
      (and_from _ _ (le-leb load_address (address k) (omega arith)) (le-leb (address k + 4) (load_address + size) (omega (arith, within, sized))))
      ∙ ap Some (bytes_joined (byte_in bytes (segment size) (address k)) (byte_at k 1) (byte_at k 2) (byte_at k 3)
      ∙ word_joined (get_or words k 0) (byte_in bytes (segment size) (address k)) (byte_at k 1) (byte_at k 2) (byte_at k 3) fits
      (ap (byte_in bytes (segment size)) zero_on ∙ stored k 0 within (omega arith)) (stored k 1 within (omega arith))
      (stored k 2 within (omega arith)) (stored k 3 within (omega arith)))

  pub first_fetched : (k : ℕ) → k < length words → get_or words k 0 < 2 ^ 32
      → fetched_in 4 bytes (segment size ∷ []) (address k) ≡ Some (whole_word (get_or words k 0))
  first_fetched k within fits = fetched k within fits

  module _ (image : Image) (of : image.file ≡ bytes) (fit : (k : ℕ) → k < length words → get_or words k 0 < 2 ^ 32) where
    unit_too : image.unit ≡ 4
    unit_too = image.has_unit ∙ ap unit_of of ∙ unit_is size (words_text words)

    segments_too : image.segments ≡ segment size ∷ []
    segments_too =
        image.keeps ∙ ap segments_of of ∙ segments_are size (words_text words) (omega (arith, sized)) (omega (arith, small))

    pub has_words : HasWords (fetches_of image) words
    has_words = record {
      unit_four = unit_too;
      at = λ k within. (λ i. fetched_in (unit_too i) (of i) (segments_too i) (address k)) ∙ fetched k within (fit k within);
      word = λ k within.
          (λ i. option_map (λ s. word_in (of i) s (address k)) (code_segment (segments_too i) (address k))) ∙ word_there k within (fit k within);
    }
