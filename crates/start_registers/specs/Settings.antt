-- The registers with which a run starts, as text: items `register=word` between commas.
--
--   IsWordText text w           the text is the word w: in decimal without leading zeros, or as an address is written
--   HasNoEquals text            no byte of the text is `=`
--   Sets item r w               the item is `name=word`: the name is one of register r, which isn't zero, and the word is w
--   IsSet items r w             some item sets register r to the word w
--   IsSettingList items         each item sets a register, and no two set the same one
--   AreRegistersOf items regs   the items are such a list, and these are 32 words; each register has the word that an item
--                               sets it to, and 0 where none does
--   IsRegistersOf text regs     the registers of the text's items, or None where these are no such list
--   IsStart text regs           the same of a text that may be left out: without it all registers are 0
use Rattle.std.specs.Prelude.{◌≡◌, ◌≢◌, ℕ, ◌<◌, ◌^◌, List, ◌∷◌, ◌++◌, Option, Some, None}
use Rattle.std.specs.Prelude.{length, replicate, All, AllPairs, Contains, slice_index}
use Rattle.number_text.specs.Numerals.{dec}
use Rattle.numeral_read.specs.Lists.{items_of}
use Rattle.numeral_read.specs.Reading.{IsAddress}
use Rattle.rv_decode.specs.Registers.{register_of}

pub data IsWordText (text : List ℕ) (w : ℕ) : Type 0 where
  decimal : w < 2 ^ 64 → text ≡ dec w → IsWordText text w
  hexadecimal : IsAddress text w → IsWordText text w

abbrev pub HasNoEquals : List ℕ → Type 0
HasNoEquals text = (i : ℕ) → i < length text → slice_index text i ≢ 61

pub record Sets (item : List ℕ) (r w : ℕ) : Type 0 where
  pub name : List ℕ
  pub numeral : List ℕ
  pub item_is : item ≡ name ++ 61 ∷ numeral
  pub register : register_of name ≡ Some r
  pub not_zero : r ≢ 0
  pub word : IsWordText numeral w

pub record IsSet (items : List (List ℕ)) (r w : ℕ) : Type 0 where
  pub item : List ℕ
  pub there : Contains items item
  pub sets : Sets item r w

pub record IsSettingList (items : List (List ℕ)) : Type 0 where
  pub each : All (λ item. (r : ℕ) × (w : ℕ) × Sets item r w) items
  pub once : AllPairs (λ a b. (r v w : ℕ) → Sets a r v → Sets b r w → ⊥) items

pub record AreRegistersOf (items : List (List ℕ)) (regs : List ℕ) : Type 0 where
  pub list : IsSettingList items
  pub count : length regs ≡ 32
  pub named : (r w : ℕ) → IsSet items r w → slice_index regs r ≡ w
  pub others : (r : ℕ) → r < 32 → ((w : ℕ) → IsSet items r w → ⊥) → slice_index regs r ≡ 0

abbrev pub IsRegistersOf : List ℕ → Option (List ℕ) → Type 0
IsRegistersOf text (Some regs) = AreRegistersOf (items_of text) regs
IsRegistersOf text None = IsSettingList (items_of text) → ⊥

abbrev pub IsStart : Option (List ℕ) → Option (List ℕ) → Type 0
IsStart None regs = regs ≡ Some (replicate 32 0)
IsStart (Some text) regs = IsRegistersOf text regs
