-- A list is read in one way, or is refused.
use Rattle.std.proofs.Common.{◌≡◌, ◌≢◌, ◌∙◌, ℕ, ◌+◌, ◌<◌, List, [], ◌∷◌, ◌++◌, length, All, AllPairs, Contains, refl, sym, ap, ap₂, subst, arith, length-append}
use Rattle.std.specs.List.{AllZip}
use Rattle.std.specs.Str.Parse.{digits_value}
use Rattle.std.proofs.lemmas.List.{get_or_append_left}
use Rattle.std.proofs.Math.Seq.{get_or-append_seam}
use Rattle.elf_image.specs.declared.symbol.Symbol.{Symbol}
use Rattle.report_text.specs.declared.names.Name.{Name}
use Rattle.report_text.specs.declared.names.Name.TheVariants.{Slot}
use Rattle.refusals.specs.declared.track.TrackRefusal.{TrackRefusal}
use Rattle.refusals.specs.declared.track.TrackRefusal.TheVariants.{Memory}
use Rattle.numeral_read.specs.Lists.{items_of}
use Rattle.numeral_read.proofs.Addresses.{one_address}
use Rattle.affine_lift.specs.declared.width.Width.{Width}
use Rattle.affine_lift.specs.Tracking.{HasName, IsDistance, IsIn, IsPlace, IsTracked, IsTrackRefusal, NamesBy, Breaks, Scope, address, bad_item, bad_slot, by_place, by_register, empty, memory, no_such_procedure, register, repeated, slot, symbol, too_many, unknown_name}

same_digits : (a b : ℕ) (xs ys : List ℕ) → a ∷ xs ≡ b ∷ ys → xs ≡ ys
same_digits a b xs ys e = cc

one_place : (symbols : List Symbol) (text : List ℕ) (p q : ℕ) → IsPlace symbols text p → IsPlace symbols text q → p ≡ q
one_place symbols text p q (address h) (address k) = one_address text p q h k
one_place symbols text p q (address h) (symbol none e) = absurd (none p h)
one_place symbols text p q (symbol none e) (address k) = absurd (none q k)
one_place symbols text p q (symbol none e) (symbol other d) = cc

one_distance : (text : List ℕ) (m n : ℕ) → IsDistance text m → IsDistance text n → m ≡ n
one_distance text m n h k =
    let digits = same_digits 45 45 h.digits k.digits (sym h.text_is ∙ k.text_is) in
    h.value ∙ ap (digits_value 10) digits ∙ sym k.value

-- an item names one name
one_name : (w : Width) (symbols : List Symbol) (item : List ℕ) (a b : Name) → NamesBy w symbols item a → NamesBy w symbols item b → a ≡ b
one_name w symbols item a b (register r none e set is) (register q other d nonzero are) = cc
one_name w symbols item a b (register r none e set is) (slot q n rest text distance allowed are) = absurd (none text.colon)
one_name w symbols item a b (slot p n rest text distance allowed is) (register q other d nonzero are) = absurd (other text.colon)
one_name w symbols item a b (slot p n rest text distance allowed is) (slot q m more text' distance' allowed' are) =
    let place = one_place symbols _ p q text.place text'.place in
    let behind : rest ≡ more = text.rest_is ∙ sym text'.rest_is in
    let below = one_distance more n m (subst (λ (x : List ℕ). IsDistance x n) behind distance) distance' in
    is ∙ ap₂ Slot place below ∙ sym are

has_name : (w : Width) (symbols : List Symbol) (item : List ℕ) (name : Name) → NamesBy w symbols item name → HasName symbols item
has_name w symbols item name (register r none e set is) = by_register r none e set
has_name w symbols item name (slot p n rest text distance allowed is) = by_place p rest text

same_names : (w : Width) (symbols : List Symbol) (items : List (List ℕ)) (xs ys : List Name) → AllZip (NamesBy w symbols) items xs
    → AllZip (NamesBy w symbols) items ys → xs ≡ ys
same_names w symbols [] [] [] h k = refl
same_names w symbols [] [] (y ∷ ys) h k = absurd k
same_names w symbols [] (x ∷ xs) ys h k = absurd h
same_names w symbols (item ∷ items) [] ys h k = absurd h
same_names w symbols (item ∷ items) (x ∷ xs) [] h k = absurd k
same_names w symbols (item ∷ items) (x ∷ xs) (y ∷ ys) h k =
    ap₂ (λ n ns. n ∷ ns) (one_name w symbols item x y h.0 k.0) (same_names w symbols items xs ys h.1 k.1)

pub one_list : (scope : Scope) (text : List ℕ) (xs ys : List Name) → IsTracked scope text xs → IsTracked scope text ys → xs ≡ ys
one_list scope text xs ys h k = same_names scope.width scope.symbols (items_of text) xs ys h.names_are.named k.names_are.named

-- the names of items before one, its own, and those behind
record Parted (w : Width) (symbols : List Symbol) (front : List (List ℕ)) (item : List ℕ) (names : List Name) : Type 0 where
  before : List Name
  name : Name
  behind : List Name
  whole : names ≡ before ++ name ∷ behind
  front_named : AllZip (NamesBy w symbols) front before
  item_named : NamesBy w symbols item name

parted : (w : Width) (symbols : List Symbol) (front : List (List ℕ)) (item : List ℕ) (rest : List (List ℕ)) (names : List Name) →
    AllZip (NamesBy w symbols) (front ++ item ∷ rest) names → Parted w symbols front item names
parted w symbols [] item rest [] h = absurd h
parted w symbols [] item rest (n ∷ names) h =
    record { before = []; name = n; behind = names; whole = refl; front_named = tt; item_named = h.0 }
parted w symbols (first_item ∷ front) item rest [] h = absurd h
parted w symbols (first_item ∷ front) item rest (n ∷ names) h =
    let more = parted w symbols front item rest names h.1 in
    record {
      before = n ∷ more.before;
      name = more.name;
      behind = more.behind;
      whole = ap (λ ns. n ∷ ns) more.whole;
      front_named = (h.0, more.front_named);
      item_named = more.item_named;
    }

not_before : (before behind : List Name) (name : Name) → AllPairs (λ a b. a ≢ b) (before ++ name ∷ behind)
    → Contains before name → ⊥
not_before before behind name apart (k, below, at) =
    let whole = before ++ name ∷ behind in
    let here = get_or-append_seam before name behind name in
    let there = get_or_append_left before (name ∷ behind) name k below in
    let inside : length before < length whole = omega (arith, length-append before (name ∷ behind)) in
    apart k (length before) name below inside (there ∙ at ∙ sym here)

within_at : (procedures : List ℕ) (before behind : List Name) (name : Name) → All (IsIn procedures) (before ++ name ∷ behind)
    → IsIn procedures name
within_at procedures before behind name all =
    let inside : length before < length (before ++ name ∷ behind) = omega (arith, length-append before (name ∷ behind)) in
    subst (IsIn procedures) (get_or-append_seam before name behind name) (all (length before) name inside)

-- an item of a list that is read breaks no rule
not_broken : (scope : Scope) (before behind : List Name) (name : Name) (item : List ℕ) (place : ℕ) (refusal : TrackRefusal)
    → NamesBy scope.width scope.symbols item name → All (IsIn scope.procedures) (before ++ name ∷ behind)
    → AllPairs (λ a b. a ≢ b) (before ++ name ∷ behind) → Breaks scope before item place refusal → ⊥
not_broken scope before behind name item place refusal named all apart (unknown_name none is) =
    none (has_name scope.width scope.symbols item name named)
not_broken scope before behind name item place refusal named all apart (bad_slot some none is) = none name named
not_broken scope before behind name item place refusal named all apart (no_such_procedure other named' out is) =
    out (subst (IsIn scope.procedures) (one_name scope.width scope.symbols item name other named named')
    (within_at scope.procedures before behind name all))
not_broken scope before behind name item place refusal named all apart (repeated other named' there twice is) =
    let same = one_name scope.width scope.symbols item other name named' named in
    not_before before behind name apart (subst (λ (n : Name). Contains before n) same twice)

pub not_refused : (scope : Scope) (text : List ℕ) (names : List Name) (refusal : TrackRefusal) → IsTracked scope text names
    → IsTrackRefusal scope text refusal → refusal ≡ Memory
not_refused scope text names refusal h (empty none is) = absurd (h.some none)
not_refused scope text names refusal h (too_many some more is) = let few = h.few in absurd (omega arith)
not_refused scope text names refusal h (memory is) = is
not_refused scope text names refusal h (bad_item some few bad) =
    let zip = subst (λ (items : List (List ℕ)). AllZip (NamesBy scope.width scope.symbols) items names) bad.split h.names_are.named in
    let parts = parted scope.width scope.symbols bad.front bad.item bad.rest names zip in
    let same = same_names scope.width scope.symbols bad.front bad.names parts.before bad.names_are.named parts.front_named in
    absurd (not_broken scope parts.before parts.behind parts.name bad.item _ refusal parts.item_named
    (subst (λ (ns : List Name). All (IsIn scope.procedures) ns) parts.whole h.names_are.within)
    (subst (λ (ns : List Name). AllPairs (λ a b. a ≢ b) ns) parts.whole h.names_are.apart)
    (subst (λ (ns : List Name). Breaks scope ns bad.item (length bad.front + 1) refusal) same bad.breaks))
