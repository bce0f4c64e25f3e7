-- What each image keeps, and numbers in memory by their bytes. Crates above may cite these.
use Rattle.std.proofs.Common.{◌≡◌, ℕ, ◌+◌, ◌<◌, ◌≤◌, ◌%◌, Bool, true, false, List, None, Some, option_map, length, get_or, All, AllPairs, Contains, IfSome, IsSome, find, refl, arith, subst, sym, ap}
use Rattle.std.proofs.lemmas.List.Elements.{All-contains, Contains-get_or}
use Rattle.elf_image.specs.Segments.{IsLoadable, holds, holds_code, shares_address, byte_in, word_in, segment_with, code_segment}
use Rattle.elf_image.specs.Images.{loaded_byte, loaded, code_at, code_word, IsWordAt}
use Rattle.elf_image.specs.Ranges.{executable_ranges}
use Rattle.elf_image.specs.declared.segment.Segment.{Segment}
use Rattle.elf_image.specs.declared.image.Image.{Image}
use Rattle.elf_image.proofs.Accepted.{segments_few, segments_loadable, segments_share_none, entry_accepted, fetched_at_multiple}
use Rattle.elf_image.proofs.Apart.{one_holder}
use Rattle.elf_image.proofs.Found.{found_has, found_passes}
use Rattle.elf_image.proofs.Held.{code_held, code_ends, both_hold}
pub use Rattle.elf_image.proofs.BytesRead.{read_1, read_2, read_4, read_8}

pub few : (image : Image) → length image.segments ≤ 64
few image = rw image.keeps (segments_few image.file image.accepted)

pub loadable : (image : Image) → All (IsLoadable (length image.file)) image.segments
loadable image =
    let P : List Segment → Type 0 = λ ss. All (IsLoadable (length image.file)) ss in
    subst P (sym image.keeps) (segments_loadable image.file image.accepted)

pub loadable_list : (image : Image) (file : List ℕ) (segments : List Segment) → file ≡ image.file → segments ≡ image.segments → All (IsLoadable (length file)) segments
loadable_list image file segments is are =
    let P : List Segment → Type 0 = λ ss. All (IsLoadable (length image.file)) ss in
    let Q : List ℕ → Type 0 = λ bytes. All (IsLoadable (length bytes)) segments in
    subst Q (sym is) (subst P (sym are) (loadable image))

-- any segment that is found
pub found_loadable : (image : Image) (segments : List Segment) (p : Segment → Bool) (s : Segment) → segments ≡ image.segments → Some s ≡ find p segments → IsLoadable (length image.file) s
found_loadable image segments p s same found =
    found_has (IsLoadable (length image.file)) p segments s (loadable_list image image.file segments refl same) (sym found)

share_none : (image : Image) → AllPairs (λ s t. shares_address s t ≡ false) image.segments
share_none image =
    let P : List Segment → Type 0 = λ ss. AllPairs (λ s t. shares_address s t ≡ false) ss in
    subst P (sym image.keeps) (segments_share_none image.file image.accepted)

-- no address is in two segments
pub apart : (image : Image) (a : ℕ) → AllPairs (λ s t. holds s a ≡ true → holds t a ≡ false) image.segments
apart image a i j d lt within first =
    let s = get_or image.segments i d in
    let t = get_or image.segments j d in
    elim (holds t a) as (λ b. holds t a ≡ b → b ≡ false) [
      | true ↦ λ second. let both = both_hold s t a first second in let none = share_none image i j d lt within in absurd (cc)
      | false ↦ λ not_second. refl
    ] refl

-- a segment that holds an address is the one that is found there
pub one_segment : (image : Image) (s : Segment) (a : ℕ) → Contains image.segments s → holds s a ≡ true → segment_with image.segments a ≡ Some s
one_segment image s a in_list holds_it = one_holder image.segments (share_none image) s a in_list.0 in_list.1 in_list.2 holds_it

loaded_in : (image : Image) (s : Segment) (a : ℕ) → Contains image.segments s → holds s a ≡ true → loaded_byte image a ≡ Some (byte_in image.file s a)
loaded_in image s a in_list holds_it = ap (option_map (λ s. byte_in image.file s a)) (one_segment image s a in_list holds_it)

-- a code word is that of the bytes loaded at its four addresses
pub words : (image : Image) (a : ℕ) → IfSome (code_word image a) (IsWordAt image a)
words image a =
    let has_code = λ (s : Segment). holds_code s a in
    elim (code_segment image.segments a) as (λ o. code_segment image.segments a ≡ o → IfSome (option_map (λ s. word_in image.file s a) o) (IsWordAt image a)) [
      | None ↦ λ none. tt
      | Some s ↦ λ found.
          let code = found_passes has_code image.segments s found in
          let each = λ (k : ℕ) (d : Segment) (within : k < length image.segments). Contains-get_or image.segments k d within in
          let in_list = found_has (Contains image.segments) has_code image.segments s each found in
          let fits = All-contains (IsLoadable (length image.file)) image.segments s (loadable image) in_list in
          let ends = code_ends s a code in
          let at = λ (b : ℕ) (low : a ≤ b) (high : b < a + 4). loaded_in image s b in_list (code_held s a b code low high) in
          record {
            b0 = byte_in image.file s a;
            b1 = byte_in image.file s (a + 1);
            b2 = byte_in image.file s (a + 2);
            b3 = byte_in image.file s (a + 3);
            at0 = at a (omega arith) (omega arith);
            at1 = at (a + 1) (omega arith) (omega arith);
            at2 = at (a + 2) (omega arith) (omega arith);
            at3 = at (a + 3) (omega arith) (omega arith);
            word = refl;
            ends = omega (arith, fits.ends, ends);
          }
    ] refl

-- something is fetched at the entry, which is a multiple of the unit
pub entry_has_code : (image : Image) → IsSome (code_at image image.entry)
entry_has_code image = rw (image.has_unit, image.enters, image.keeps) (entry_accepted image.file image.accepted)

pub entry_is_multiple : (image : Image) → image.entry % image.unit ≡ 0
entry_is_multiple image =
    fetched_at_multiple image.unit (executable_ranges image.segments) (loaded image) image.entry (entry_has_code image)
