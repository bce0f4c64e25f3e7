-- An image, loaded segment by segment.
use Rattle.std.proofs.Common.{◌≡◌, ℕ, zero, suc, ◌+◌, ◌-◌, ◌^◌, ◌<◌, ◌≤◌, true, false, List, [], ◌∷◌, ◌++◌, None, Some, length, get_or, take, AllPairs, All, cond, refl, arith, ◌∙◌, ap, sym, subst, inl, inr, ◌⊎◌}
use Rattle.std.specs.Option.{unwrap_or}
use Rattle.std.specs.Prelude.{option_map}
use Rattle.std.proofs.lemmas.Grind.{common_steps, take_at_read}
use Rattle.std.proofs.lemmas.List.{get_or_past}
use Rattle.std.proofs.lemmas.List.Folds.{find-append}
use Rattle.elf_image.specs.Segments.{IsLoadable, holds, byte_in, segment_with}
use Rattle.elf_image.specs.Images.{loaded}
use Rattle.elf_image.specs.declared.image.Image.{Image}
use Rattle.elf_image.specs.declared.segment.Segment.{Segment}
use Rattle.rv_step.specs.Loads.{copied, loaded_from}

-- where a segment has an address, no earlier one has it
pub none_before : (segments : List Segment) (a i : ℕ) (d : Segment) → AllPairs (λ s t. holds s a ≡ true → holds t a ≡ false) segments
    → i < length segments → holds (get_or segments i d) a ≡ true → segment_with (take i segments) a ≡ None
none_before [] a i d apart within has = absurd (omega arith)
none_before (t ∷ ts) a zero d apart within has = refl
none_before (t ∷ ts) a (suc i) d apart within has =
    elim (holds t a) as (λ b. holds t a ≡ b → cond b (Some t) (segment_with (take i ts) a) ≡ None) [
      | true ↦ λ first. let none = apart 0 (suc i) d (omega arith) within first in absurd (cc)
      | false ↦ λ other. none_before ts a i d (λ j k e lt in_ts. apart (suc j) (suc k) e (omega arith) (omega arith)) (omega arith) has
    ] refl

-- one segment more
pub loaded_more : (front : List Segment) (s : Segment) (file : List ℕ) (memory : ℕ → ℕ) (a : ℕ) → s.stored ≤ s.size
    → (holds s a ≡ true → segment_with front a ≡ None) → memory a ≡ loaded_from front file a
    → copied s.stored file s memory a ≡ loaded_from (front ++ s ∷ []) file a
loaded_more front s file memory a stored alone before =
    let found = find-append (λ t. holds t a) front (s ∷ []) in
    elim (holds s a) as (λ b. holds s a ≡ b → copied s.stored file s memory a ≡ loaded_from (front ++ s ∷ []) file a) [
      | true ↦ λ has. let none = alone has in
          let it_is : segment_with (front ++ s ∷ []) a ≡ Some s = grind (arith, common_steps) in
          let was : memory a ≡ 0 = grind (arith, common_steps) in
          rw it_is (grind (arith, common_steps))
      | false ↦ λ lacks. let same : segment_with (front ++ s ∷ []) a ≡ segment_with front a = grind (arith, common_steps) in
          rw same (grind (arith, common_steps))
    ] refl

-- the bytes of the segments so far, and then those of the next one
pub loaded_step : (segments shown : List Segment) (file read : List ℕ) (i : ℕ) (d : Segment) (old new : ℕ → ℕ)
    → shown ≡ segments → read ≡ file → All (IsLoadable (length file)) segments
    → ((a : ℕ) → AllPairs (λ s t. holds s a ≡ true → holds t a ≡ false) segments) → i < length segments
    → ((a : ℕ) → old a ≡ loaded_from (take i segments) file a)
    → ((a : ℕ) → new a ≡ copied (get_or shown i d).stored read (get_or shown i d) old a)
    → (a : ℕ) → new a ≡ loaded_from (take (i + 1) segments) file a
loaded_step segments shown file read i d old new same_segments same_file loadable apart within before after a =
    let s = get_or segments i d in
    let Of : List Segment → Type 0 = λ ss. new a ≡ copied (get_or ss i d).stored read (get_or ss i d) old a in
    let From : List ℕ → Type 0 = λ f. new a ≡ copied s.stored f s old a in
    let there = subst From same_file (subst Of same_segments (after a)) in
    let alone = none_before segments a i d (apart a) within in
    there ∙ loaded_more (take i segments) s file old a (loadable i d within).stored alone (before a)
    ∙ ap (λ (ss : List Segment). loaded_from ss file a) (sym (take_at_read segments i d within).1)

byte_read : (bytes : List ℕ) (k : ℕ) → All (λ b. b < 2 ^ 8) bytes → get_or bytes k 0 < 2 ^ 8
byte_read bytes k all =
    let either : (k < length bytes) ⊎ (length bytes ≤ k) = grind arith in
    elim either [ inl within ↦ all k 0 within | inr past ↦ let e = get_or_past bytes k 0 past in omega arith ]

-- what is loaded is a byte
pub loaded_is_byte : (image : Image) → All (λ b. b < 2 ^ 8) image.file → (a : ℕ) → loaded image a < 2 ^ 8
loaded_is_byte image all a =
    elim (segment_with image.segments a) as (λ o. unwrap_or (option_map (λ s. byte_in image.file s a) o) 0 < 2 ^ 8) [
      | None ↦ omega arith
      | Some s ↦ let b = byte_read image.file (s.offset + (a - s.address)) all in grind (arith, common_steps)
    ]
