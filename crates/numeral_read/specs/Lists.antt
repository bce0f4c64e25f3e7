-- Lists of texts between commas.
--
--   is_comma c         the byte is a comma
--   items_of text      the parts of the text between its commas
--   texts_of items     the bytes of each item
use Rattle.std.specs.Prelude.{ℕ, Bool, ◌==◌, List, map}
use denote.Ref.{Bor}
use Rattle.std.specs.List.{slice_split}

abbrev pub is_comma : ℕ → Bool
is_comma c = c == 44

abbrev pub items_of : List ℕ → List (List ℕ)
items_of text = slice_split is_comma text

abbrev pub texts_of : List (Bor (List ℕ)) → List (List ℕ)
texts_of items = map (λ item. item.now) items
