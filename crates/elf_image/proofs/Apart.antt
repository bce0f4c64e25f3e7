-- Where no kept header shares an address with an earlier one, no address is in two segments.
use Rattle.std.proofs.Common.{◌≡◌, ℕ, zero, suc, ◌+◌, ◌*◌, ◌<◌, Bool, true, false, ◌&&◌, nat_lt, List, [], ◌∷◌, None, Some, length, get_or, map, All, AllPairs, find, refl, arith, subst, cond}
use Rattle.std.specs.List.{list_any}
use Rattle.std.proofs.lemmas.Grind.{common_steps}
use Rattle.std.proofs.lemmas.List.Elements.{All-nil, All-push, All-map}
use Rattle.std.proofs.lemmas.List.Folds.{list_any_at}
use Rattle.std.proofs.lemmas.List.Kept.{AllPairs-cons, AllPairs-filter}
use Rattle.std.proofs.lemmas.List.Quantifiers.{all_pairs_push}
use Rattle.elf_image.specs.Fields.{e_phoff, e_phnum}
use Rattle.elf_image.specs.Headers.{header_at, first_headers, headers_of, is_kept}
use Rattle.elf_image.specs.Segments.{holds, shares_address, segment_of, kept_headers, segments_of}
use Rattle.elf_image.specs.Refusals.{shares_earlier}
use Rattle.elf_image.specs.declared.program_header.ProgramHeader.{ProgramHeader}
use Rattle.elf_image.specs.declared.segment.Segment.{Segment}
use Rattle.elf_image.proofs.Found.{find-none}
use Rattle.elf_image.proofs.Held.{both_hold}

offset_of : (bytes : List ℕ) (offset : ℕ) → (header_at bytes offset).offset ≡ offset
unfolding header_at
offset_of bytes offset = refl

-- the headers of the table stand below its end
below : (bytes : List ℕ) (n : ℕ) → All (λ h. h.offset < e_phoff bytes + 56 * n) (first_headers bytes n)
below bytes zero = All-nil (λ h. h.offset < e_phoff bytes + 56 * 0)
below bytes (suc n) =
    let end = e_phoff bytes + 56 * n in
    let last = header_at bytes end in
    let P : ProgramHeader → Type 0 = λ h. h.offset < e_phoff bytes + 56 * suc n in
    let earlier : All P (first_headers bytes n) = λ k d within. let b = below bytes n k d within in omega arith in
    let here : P last = let e = offset_of bytes end in omega arith in
    All-push P (first_headers bytes n) last earlier here

-- and each stands below the later ones
rising : (bytes : List ℕ) (n : ℕ) → AllPairs (λ e h. e.offset < h.offset) (first_headers bytes n)
rising bytes zero = λ i j d lt within. absurd (omega arith)
rising bytes (suc n) =
    let end = e_phoff bytes + 56 * n in
    let here = offset_of bytes end in
    all_pairs_push (λ e h. e.offset < h.offset) (first_headers bytes n) (header_at bytes end) (rising bytes n)
    (λ k d within. let lower = below bytes n k d within in omega arith)

none_pass : {X : Type 0} (p : X → Bool) (xs : List X) → list_any p xs ≡ false → All (λ x. p x ≡ false) xs
none_pass p xs none k d within =
    elim (p (get_or xs k d)) as (λ b. p (get_or xs k d) ≡ b → b ≡ false) [
      | true ↦ λ passes. let some = list_any_at p xs k d within passes in absurd (cc)
      | false ↦ λ fails. refl
    ] refl

not_sharing : (e h : ProgramHeader) → e.offset < h.offset → (nat_lt e.offset h.offset && shares_address (segment_of e) (segment_of h)) ≡ false → shares_address (segment_of e) (segment_of h) ≡ false
not_sharing e h lt none = grind (arith, common_steps)

AllPairs-map : {X Y : Type 0} (R : Y → Y → Type 0) (f : X → Y) (xs : List X) → AllPairs (λ x y. R (f x) (f y)) xs → AllPairs R (map f xs)
AllPairs-map R f [] pairs = λ i j d lt within. absurd (omega arith)
AllPairs-map R f (x ∷ xs) pairs =
    let first = All-map (R (f x)) f xs (λ k d within. pairs 0 (suc k) d (omega arith) (omega arith)) in
    AllPairs-cons R (f x) (map f xs) first (AllPairs-map R f xs (λ i j d lt within. pairs (suc i) (suc j) d (omega arith) (omega arith)))

pub segments_apart : (bytes : List ℕ) → find (shares_earlier (kept_headers bytes)) (kept_headers bytes) ≡ None → AllPairs (λ s t. shares_address s t ≡ false) (segments_of bytes)
segments_apart bytes none =
    let kept = kept_headers bytes in
    let in_order = AllPairs-filter (λ e h. e.offset < h.offset) is_kept (headers_of bytes) (rising bytes (e_phnum bytes)) in
    AllPairs-map (λ s t. shares_address s t ≡ false) segment_of kept (λ i j d lt within.
    let e = get_or kept i d in
    let h = get_or kept j d in
    let no_earlier = find-none (shares_earlier kept) kept none j d within in
    let i_within : i < length kept = omega arith in
    not_sharing e h (in_order i j d lt within)
    (none_pass (λ e. nat_lt e.offset h.offset && shares_address (segment_of e) (segment_of h)) kept no_earlier i d i_within))

-- so a segment that holds an address is the one that is found
pub one_holder : (segments : List Segment) → AllPairs (λ s t. shares_address s t ≡ false) segments → (s : Segment) (a k : ℕ) → k < length segments → get_or segments k s ≡ s → holds s a ≡ true → find (λ t. holds t a) segments ≡ Some s
one_holder [] apart s a k within here holds_it = absurd (omega arith)
one_holder (t ∷ ts) apart s a zero within here holds_it = rw (here, holds_it) refl
one_holder (t ∷ ts) apart s a (suc k) within here holds_it =
    let later : k < length ts = omega arith in
    let alone : shares_address t s ≡ false = subst (λ u. shares_address t u ≡ false) here (apart 0 (suc k) s (omega arith) within) in
    elim (holds t a) as (λ b. holds t a ≡ b → cond b (Some t) (find (λ u. holds u a) ts) ≡ Some s) [
      | true ↦ λ first. let both = both_hold t s a first holds_it in absurd (cc)
      | false ↦ λ not_first. one_holder ts (λ i j d lt within. apart (suc i) (suc j) d (omega arith) (omega arith)) s a k later here holds_it
    ] refl
