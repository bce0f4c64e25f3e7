-- Names as text.
use Rattle.std.proofs.Common.{◌≡◌, ◌≢◌, ◌∙◌, ℕ, ◌<◌, true, false, List, length, Option, None, Some, MatchOption, sym, ap, subst, Bor, arith}
use Rattle.std.specs.List.{after_first, before_first, position_or_len}
use Rattle.std.proofs.lemmas.Bool.{eqb-true}
use Rattle.std.proofs.lemmas.List.Sums.{fails_before_first}
use Rattle.elf_image.specs.declared.symbol.Symbol.{Symbol}
use Rattle.rv_decode.specs.Registers.{register_of}
use Rattle.report_text.specs.declared.names.Name.{Name}
use Rattle.numeral_read.specs.Reading.{IsAddress}
use Rattle.affine_lift.specs.declared.width.Width.{Width}
use Rattle.affine_lift.specs.Tracking.{is_colon, HasColon, HasName, by_register, by_place, IsBelowBy, IsDistance, IsPlace, IsSlotText, NamesBy, address, register, slot, symbol, value_of}
use Rattle.affine_lift.proofs.FirstPlaces.{passes_first}

pub colon_parts : (item : List ℕ) (r : Option (Bor (List ℕ) × Bor (List ℕ)))
    → MatchOption r (position_or_len is_colon item ≡ length item)
    (λ x. (position_or_len is_colon item < length item) × (x.0.now ≡ before_first is_colon item) × (x.1.now ≡ after_first is_colon item))
    → MatchOption r (HasColon item → ⊥) (λ x. HasColon item × (x.0.now ≡ before_first is_colon item) × (x.1.now ≡ after_first is_colon item))
colon_parts item None all = λ (i, below, is).
    let fails = fails_before_first is_colon item i 58 (omega (arith, all, below)) in
    let bad : false ≡ true = sym fails ∙ ap is_colon is in cc bad
colon_parts item (Some x) (within, before, after) =
    ((position_or_len is_colon item, within, eqb-true _ 58 (passes_first is_colon item 58 within).1), before, after)

-- an item without a colon has no name but a register's
pub no_register_name : (symbols : List Symbol) (item : List ℕ) → (HasColon item → ⊥) → ((r : ℕ) → register_of item ≡ Some r → r ≢ 0 → ⊥)
    → HasName symbols item → ⊥
no_register_name symbols item none no_register (by_register r colon e set) = no_register r e set
no_register_name symbols item none no_register (by_place p rest is) = none is.colon

-- an item with a colon has none where no place stands before it
pub no_place_name : (symbols : List Symbol) (item before : List ℕ) → HasColon item → before ≡ before_first is_colon item
    → ((p : ℕ) → IsPlace symbols before p → ⊥) → HasName symbols item → ⊥
no_place_name symbols item before colon is no_place (by_register r none e set) = none colon
no_place_name symbols item before colon is no_place (by_place p rest text) =
    no_place p (subst (λ (t : List ℕ). IsPlace symbols t p) (sym is) text.place)

pub slot_text : (symbols : List Symbol) (item before rest : List ℕ) (p : ℕ) → HasColon item → before ≡ before_first is_colon item
    → rest ≡ after_first is_colon item → IsPlace symbols before p → IsSlotText symbols item p rest
slot_text symbols item before rest p colon is rest_is place = record {
  colon = colon;
  place = subst (λ (t : List ℕ). IsPlace symbols t p) is place;
  rest_is = rest_is;
}

pub no_distance : (w : Width) (symbols : List Symbol) (item : List ℕ) (p : ℕ) (rest : List ℕ) → IsSlotText symbols item p rest
    → ((n : ℕ) → IsDistance rest n → IsBelowBy w n → ⊥) → (name : Name) → NamesBy w symbols item name → ⊥
no_distance w symbols item p rest text never name (register r none e set is) = none text.colon
no_distance w symbols item p rest text never name (slot q n other is distance allowed same) =
    never n (subst (λ (t : List ℕ). IsDistance t n) (is.rest_is ∙ sym text.rest_is) distance) allowed

-- a text that is no address is a place where it names a symbol
pub place_named : (symbols : List Symbol) (text : List ℕ) (o : Option ℕ) → ((p : ℕ) → IsAddress text p → ⊥) → o ≡ value_of symbols text
    → MatchOption o ((p : ℕ) → IsPlace symbols text p → ⊥) (IsPlace symbols text)
place_named symbols text (Some p) no_address is = symbol no_address (sym is)
place_named symbols text None no_address is = λ p place. never p place
  where
    never : (p : ℕ) → IsPlace symbols text p → ⊥
    never p (address of) = no_address p of
    never p (symbol none e) = let bad : None ≡ Some p = is ∙ e in cc
