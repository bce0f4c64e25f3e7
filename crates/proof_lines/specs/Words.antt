-- The words of a row's line.
--
--   item_text item           a word behind its position
--   IsItem least width item  the position is at least `least` and below `width`, and the word isn't 0
--   AreItems least width items   so are all, and each further position is above the one before
--   IsWordReading least width text item    the item whose text it is, or None where it is none's
--   AreWordsRead width parts words         the words of a row of so many whose texts the parts are, or None where they are none's; want
--                            of memory is free
use Rattle.std.specs.Prelude.{◌≡◌, ◌≢◌, ℕ, ◌+◌, ◌<◌, ◌≤◌, ◌^◌, List, [], ◌∷◌, ◌++◌, codes, map, Option, Some, None, Result, Ok, Err}
use Rattle.std.specs.declared.alloc.AllocError.{AllocError}
use Rattle.number_text.specs.Numerals.{dec, hex}
use Rattle.proof_text.specs.declared.rows.WordAt.{WordAt}

abbrev pub item_text : WordAt → List ℕ
item_text item = dec item.position ++ codes ":" ++ hex item.word

pub record IsItem (least width : ℕ) (item : WordAt) : Type 0 where
  pub least_is : least ≤ item.position
  pub within : item.position < width
  pub some : 1 ≤ item.word
  pub small : item.word < 2 ^ 64

abbrev pub AreItems : ℕ → ℕ → List WordAt → Type 0
AreItems least width [] = Unit {0}
AreItems least width (item ∷ items) = IsItem least width item × AreItems (item.position + 1) width items

abbrev pub IsWordReading : ℕ → ℕ → List ℕ → Option WordAt → Type 0
IsWordReading least width text None = (item : WordAt) → IsItem least width item → text ≢ item_text item
IsWordReading least width text (Some item) = IsItem least width item × (text ≡ item_text item)

abbrev pub AreWordsRead : ℕ → List (List ℕ) → Result (Option (List WordAt)) AllocError → Type 0
AreWordsRead width parts (Ok None) = (items : List WordAt) → AreItems 0 width items → parts ≢ map item_text items
AreWordsRead width parts (Ok (Some items)) = AreItems 0 width items × (parts ≡ map item_text items)
AreWordsRead width parts (Err fault) = Unit {0}
