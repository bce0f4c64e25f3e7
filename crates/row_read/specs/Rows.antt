-- A row's text, and what it tells over tracked names.
--
--   IsRowText text                  the text is of a row's form: it is that of some terms and a constant, whatever the names
--   AreFine names p terms           each term's name is seen in procedure p, and their positions rise
--   IsUnknown names p terms place   the term at this place, from 1 on, is the first that breaks a rule: its name isn't seen
--   IsUnordered names p terms place   the same, but its name is seen, and its position isn't above those before it
--   IsRowOver names p terms c result   the row with the terms and the constant, or the first term that breaks a rule
--   IsRowReading names p text result   so it is for the terms and the constant whose text it is
use Rattle.std.specs.Prelude.{◌≡◌, ℕ, ◌+◌, List, take, Some, Result, Ok, Err, slice_get}
use Rattle.report_text.specs.declared.names.Name.{Name}
use Rattle.report_lines.specs.Terms.{Term}
use Rattle.report_lines.specs.Relations.{IsRelation, IsSeenName, AreKnown, AreRising, IsRowOf, relation_text}
use Rattle.row_read.specs.declared.refusal.RowRefusal.{RowRefusal}
use Rattle.row_read.specs.declared.refusal.RowRefusal.TheVariants.{UnknownName, Order}

pub record IsRowText (text : List ℕ) : Type 0 where
  pub terms : List Term
  pub constant : ℕ
  pub fit : IsRelation terms constant
  pub text_is : text ≡ relation_text terms constant

pub record AreFine (names : List Name) (p : ℕ) (terms : List Term) : Type 0 where
  pub known : AreKnown names p terms
  pub rising : AreRising names terms

pub record IsUnknown (names : List Name) (p : ℕ) (terms : List Term) (place : ℕ) : Type 0 where
  pub before : ℕ
  pub term : Term
  pub there : slice_get terms before ≡ Some term
  pub number : place ≡ before + 1
  pub fine : AreFine names p (take before terms)
  pub unknown : IsSeenName names p term.1 → ⊥

pub record IsUnordered (names : List Name) (p : ℕ) (terms : List Term) (place : ℕ) : Type 0 where
  pub before : ℕ
  pub term : Term
  pub there : slice_get terms before ≡ Some term
  pub number : place ≡ before + 1
  pub fine : AreFine names p (take before terms)
  pub known : IsSeenName names p term.1
  pub falls : AreRising names (take place terms) → ⊥

abbrev pub IsRowOver : List Name → ℕ → List Term → ℕ → Result (List ℕ) RowRefusal → Type 0
IsRowOver names p terms c (Ok row) = AreFine names p terms × IsRowOf names p terms c row
IsRowOver names p terms c (Err (UnknownName place)) = IsUnknown names p terms place
IsRowOver names p terms c (Err (Order place)) = IsUnordered names p terms place

pub record IsRowReading (names : List Name) (p : ℕ) (text : List ℕ) (result : Result (List ℕ) RowRefusal) : Type 0 where
  pub terms : List Term
  pub constant : ℕ
  pub fit : IsRelation terms constant
  pub text_is : text ≡ relation_text terms constant
  pub told : IsRowOver names p terms constant result
