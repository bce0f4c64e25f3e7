-- Track lists, as text: names between commas. A name is a register, or a frame slot `P:-N`, the word N bytes below the
-- stack pointer at the entry of the procedure at the address P.
--
--   is_colon c                          the byte is a colon
--   Scope                               what slots may be named by: the symbols of a file, and its procedures; and how wide they are
--   scope_by w symbols procedures       these
--   scope_of symbols procedures         these, with slots of eight bytes
--   value_of symbols text               the value of the first symbol of this name
--   IsPlace symbols text p              the text is the address p, or else names it by a symbol
--   HasColon item                       the item has a colon
--   IsDistance text n                   the text is `-` and the numeral of n in decimal, without leading zeros
--   IsSlotText symbols item p rest      before the item's first colon stands the place p, and behind it the rest
--   IsBelowBy w n                       a slot may stand n bytes below
--   IsNameBy w name                     a name that may be tracked
--   NamesBy w symbols item name         the item has no colon and names this register; or it has one and names this slot
--   Names symbols item name             so it does, where slots have eight bytes
--   HasName symbols item                it has no colon and names some register but zero; or it has one, and a place stands
--                                       before the first
--   IsIn procedures name                where the name is a slot, its procedure is one of these
--   AreNames scope items names          each item names the name at its place, which is in the procedures, and none comes
--                                       twice
--   IsTracked scope text names          the text is a list of 1 to 16 items, which are these names
--   Breaks scope names item place refusal
--                                       the item at this place, behind items with these names, breaks a rule: the first one
--                                       that it breaks
--   IsItemRefusal scope items refusal
--                                       the first item that is no further name breaks a rule; places are counted from 1
--   IsFurther scope names item name
--                                       the item is a further name, behind items with these names
--   IsNamesRefusal scope items refusal
--                                       an item breaks a rule, or memory is wanting
--   IsTrackRefusal scope text refusal
--                                       the first cause for which the text is no such list; want of memory is free
use Rattle.std.specs.Prelude.{◌≡◌, ◌≢◌, ℕ, Bool, ◌+◌, ◌<◌, ◌≤◌, ◌==◌, List, [], ◌∷◌, ◌++◌, length, map, All, AllPairs, Contains, Option, Some, find, option_map, slice_index}
use Rattle.std.specs.List.{after_first, before_first, AllZip}
use Rattle.std.specs.Str.Parse.{IsNumeral, digits_value}
use Rattle.std.specs.Str.{bytes_eq}
use Rattle.numeral_read.specs.Lists.{items_of}
use Rattle.numeral_read.specs.Reading.{IsAddress}
use Rattle.elf_image.specs.declared.symbol.Symbol.{Symbol}
use Rattle.rv_decode.specs.Registers.{register_of}
use Rattle.report_text.specs.Names.{IsAllowedBelow, IsName, IsNarrowBelow, IsNarrowName}
use Rattle.report_text.specs.declared.names.Name.{Name}
use Rattle.report_text.specs.declared.names.Name.TheVariants.{Register, Slot}
use Rattle.refusals.specs.declared.track.TrackRefusal.{TrackRefusal}
use Rattle.refusals.specs.declared.track.TrackRefusal.TheVariants.{Empty, TooMany, UnknownName, BadSlot, NoSuchProcedure, Repeated, Memory}
use Rattle.affine_lift.specs.declared.width.Width.{Width}
use Rattle.affine_lift.specs.declared.width.Width.TheVariants.{Wide, Narrow}

pub record Scope : Type 0 where
  pub symbols : List Symbol
  pub procedures : List ℕ
  pub width : Width

abbrev pub scope_by : Width → List Symbol → List ℕ → Scope
scope_by w symbols procedures = record { symbols = symbols; procedures = procedures; width = w }

abbrev pub scope_of : List Symbol → List ℕ → Scope
scope_of symbols procedures = scope_by Wide symbols procedures

abbrev pub value_of : List Symbol → List ℕ → Option ℕ
value_of symbols text = option_map (λ s. s.value) (find (λ s. bytes_eq s.name text) symbols)

pub data IsPlace (symbols : List Symbol) (text : List ℕ) (p : ℕ) : Type 0 where
  address : IsAddress text p → IsPlace symbols text p
  symbol : ((q : ℕ) → IsAddress text q → ⊥) → value_of symbols text ≡ Some p → IsPlace symbols text p

pub record IsDistance (text : List ℕ) (n : ℕ) : Type 0 where
  pub digits : List ℕ
  pub text_is : text ≡ 45 ∷ digits
  pub numeral : IsNumeral 10 digits
  pub no_zeros : slice_index digits 0 ≢ 48
  pub value : n ≡ digits_value 10 digits

abbrev pub is_colon : ℕ → Bool
is_colon c = c == 58

abbrev pub HasColon : List ℕ → Type 0
HasColon item = Contains item 58

pub record IsSlotText (symbols : List Symbol) (item : List ℕ) (p : ℕ) (rest : List ℕ) : Type 0 where
  pub colon : HasColon item
  pub place : IsPlace symbols (before_first is_colon item) p
  pub rest_is : rest ≡ after_first is_colon item

abbrev pub IsBelowBy : Width → ℕ → Type 0
IsBelowBy Wide n = IsAllowedBelow n
IsBelowBy Narrow n = IsNarrowBelow n

abbrev pub IsNameBy : Width → Name → Type 0
IsNameBy Wide name = IsName name
IsNameBy Narrow name = IsNarrowName name

pub data NamesBy (w : Width) (symbols : List Symbol) (item : List ℕ) (name : Name) : Type 0 where
  register : (r : ℕ) → (HasColon item → ⊥) → register_of item ≡ Some r → r ≢ 0 → name ≡ Register r → NamesBy w symbols item name
  slot : (p n : ℕ) (rest : List ℕ) → IsSlotText symbols item p rest → IsDistance rest n → IsBelowBy w n → name ≡ Slot p n
      → NamesBy w symbols item name

abbrev pub Names : List Symbol → List ℕ → Name → Type 0
Names symbols item name = NamesBy Wide symbols item name

pub data HasName (symbols : List Symbol) (item : List ℕ) : Type 0 where
  by_register : (r : ℕ) → (HasColon item → ⊥) → register_of item ≡ Some r → r ≢ 0 → HasName symbols item
  by_place : (p : ℕ) (rest : List ℕ) → IsSlotText symbols item p rest → HasName symbols item

abbrev pub IsIn : List ℕ → Name → Type 0
IsIn procedures (Register r) = Unit {0}
IsIn procedures (Slot p below) = Contains procedures p

pub record AreNames (scope : Scope) (items : List (List ℕ)) (names : List Name) : Type 0 where
  pub named : AllZip (NamesBy scope.width scope.symbols) items names
  pub within : All (IsIn scope.procedures) names
  pub apart : AllPairs (λ a b. a ≢ b) names

pub record IsTracked (scope : Scope) (text : List ℕ) (names : List Name) : Type 0 where
  pub some : text ≢ []
  pub few : length (items_of text) ≤ 16
  pub names_are : AreNames scope (items_of text) names

pub data Breaks (scope : Scope) (names : List Name) (item : List ℕ) (place : ℕ) (refusal : TrackRefusal) : Type 0 where
  unknown_name : (HasName scope.symbols item → ⊥) → refusal ≡ UnknownName place → Breaks scope names item place refusal
  bad_slot : HasName scope.symbols item → ((name : Name) → NamesBy scope.width scope.symbols item name → ⊥) → refusal ≡ BadSlot place
      → Breaks scope names item place refusal
  no_such_procedure : (name : Name) → NamesBy scope.width scope.symbols item name → (IsIn scope.procedures name → ⊥)
      → refusal ≡ NoSuchProcedure place → Breaks scope names item place refusal
  repeated : (name : Name) → NamesBy scope.width scope.symbols item name → IsIn scope.procedures name → Contains names name
      → refusal ≡ Repeated place → Breaks scope names item place refusal

pub record IsItemRefusal (scope : Scope) (items : List (List ℕ)) (refusal : TrackRefusal) : Type 0 where
  pub front : List (List ℕ)
  pub names : List Name
  pub item : List ℕ
  pub rest : List (List ℕ)
  pub split : items ≡ front ++ item ∷ rest
  pub names_are : AreNames scope front names
  pub breaks : Breaks scope names item (length front + 1) refusal

pub record IsFurther (scope : Scope) (names : List Name) (item : List ℕ) (name : Name) : Type 0 where
  pub named : NamesBy scope.width scope.symbols item name
  pub within : IsIn scope.procedures name
  pub other : Contains names name → ⊥

pub data IsNamesRefusal (scope : Scope) (items : List (List ℕ)) (refusal : TrackRefusal) : Type 0 where
  item : IsItemRefusal scope items refusal → IsNamesRefusal scope items refusal
  no_memory : refusal ≡ Memory → IsNamesRefusal scope items refusal

pub data IsTrackRefusal (scope : Scope) (text : List ℕ) (refusal : TrackRefusal) : Type 0 where
  empty : text ≡ [] → refusal ≡ Empty → IsTrackRefusal scope text refusal
  too_many : text ≢ [] → 16 < length (items_of text) → refusal ≡ TooMany 16 → IsTrackRefusal scope text refusal
  bad_item : text ≢ [] → length (items_of text) ≤ 16 → IsItemRefusal scope (items_of text) refusal
      → IsTrackRefusal scope text refusal
  memory : refusal ≡ Memory → IsTrackRefusal scope text refusal
