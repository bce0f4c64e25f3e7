-- The fronts of a row's text. No public contract cites these words.
--
--   IsFrontTold names p terms c place result   the row with the terms and the constant; or, where the last term stands at the
--                                 place, a name isn't seen, or all are, and their positions don't rise
--   IsReadUpTo names p text rest k   the text is that of terms, of which the first k stand in front of the rest and are fine
use Rattle.std.specs.Prelude.{◌≡◌, ℕ, ◌+◌, ◌≤◌, List, [], ◌∷◌, ◌++◌, length, take, drop, Result, Ok, Err}
use Rattle.std.specs.List.{join_with_byte}
use Rattle.report_text.specs.declared.names.Name.{Name}
use Rattle.report_lines.specs.Parts.{parts_of}
use Rattle.report_lines.specs.Terms.{Term}
use Rattle.report_lines.specs.Relations.{IsRelation, AreKnown, AreRising, IsRowOf, relation_text, relation_words}
use Rattle.row_read.specs.declared.refusal.RowRefusal.{RowRefusal}
use Rattle.row_read.specs.declared.refusal.RowRefusal.TheVariants.{UnknownName, Order}
use Rattle.row_read.specs.Rows.{AreFine}

abbrev pub IsFrontTold : List Name → ℕ → List Term → ℕ → ℕ → Result (List ℕ) RowRefusal → Type 0
IsFrontTold names p terms c place (Ok row) = AreFine names p terms × IsRowOf names p terms c row
IsFrontTold names p terms c place (Err (UnknownName k)) = (k ≡ place) × (AreKnown names p terms → ⊥)
IsFrontTold names p terms c place (Err (Order k)) = (k ≡ place) × AreKnown names p terms × (AreRising names terms → ⊥)

pub record IsReadUpTo (names : List Name) (p : ℕ) (text rest : List ℕ) (k : ℕ) : Type 0 where
  pub terms : List Term
  pub constant : ℕ
  pub fit : IsRelation terms constant
  pub text_is : text ≡ relation_text terms constant
  pub whole : text ≡ join_with_byte 32 (take k (relation_words terms constant) ++ rest ∷ [])
  pub others : drop k (relation_words terms constant) ≡ parts_of 32 rest
  pub within : k ≤ length terms
  pub short : k + length rest ≤ length text
  pub fine : AreFine names p (take k terms)
