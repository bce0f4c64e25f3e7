-- The line of a relation, and the row that it tells.
--
--   constant_words c          a constant behind its sign, or nothing where it is 0
--   relation_words terms c    the line's words: the terms, of which the lead has no sign, and the constant c unless it is 0
--   relation_text terms c     these words with a space between each two
--   IsRelation terms c        there is a lead, and the words are such as can be written
--   place_in names text       the position of the first name with this text, and how many names there are where none has it
--   IsSeenName names p text      it is the text of a name that is seen in procedure p
--   AreKnown names p terms    each term's name is such a text
--   AreRising names terms     the positions of the terms' names rise
--   terms_of names row        the row's words that aren't 0, each with its name's text, in order of positions
--   IsRowOf names p terms c row   the row has the terms, the constant c at position 16, and elsewhere 0; its names are seen in p
--   Tells names p terms c relation   the relation is that row; or a name isn't known; or all are, and they don't rise
--   IsRelationReading names p text relation   what the text tells, or None where it is no relation's
use Rattle.std.specs.Prelude.{◌≡◌, ◌≢◌, ℕ, ◌<◌, ◌^◌, List, [], ◌∷◌, ◌++◌, map, All, AllPairs, Option, Some, None, slice_index, if◌then◌else◌, ◌==◌}
use Rattle.std.specs.List.{join_with_byte, position_or_len}
use Rattle.std.specs.Str.{bytes_eq}
use Rattle.word_rows.specs.Rows.{IsRow}
use Rattle.report_text.specs.declared.names.Name.{Name}
use Rattle.report_text.specs.Names.{IsSeenAt}
use Rattle.report_text.specs.Text.{name_text}
use Rattle.report_lines.specs.declared.relation.Relation.{Relation}
use Rattle.report_lines.specs.declared.relation.Relation.TheVariants as relations
use Rattle.report_lines.specs.Terms.{Term, IsTerm, IsLead, lead_text, term_text, number_text}

abbrev pub constant_words : ℕ → List (List ℕ)
constant_words c = if c == 0 then [] else number_text c ∷ []

abbrev pub relation_words : List Term → ℕ → List (List ℕ)
relation_words [] c = constant_words c
relation_words (lead ∷ terms) c = lead_text lead ∷ (map term_text terms ++ constant_words c)

abbrev pub relation_text : List Term → ℕ → List ℕ
relation_text terms c = join_with_byte 32 (relation_words terms c)

abbrev pub IsRelation : List Term → ℕ → Type 0
IsRelation [] c = ⊥
IsRelation (lead ∷ terms) c = IsLead lead × All IsTerm terms × (c < 2 ^ 64)

abbrev pub place_in : List Name → List ℕ → ℕ
place_in names text = position_or_len (λ name. bytes_eq (name_text name) text) names

abbrev pub IsSeenName : List Name → ℕ → List ℕ → Type 0
IsSeenName names p text = IsSeenAt names p (place_in names text)

abbrev pub AreKnown : List Name → ℕ → List Term → Type 0
AreKnown names p terms = All (λ term. IsSeenName names p term.1) terms

abbrev pub AreRising : List Name → List Term → Type 0
AreRising names terms = AllPairs (λ s t. place_in names s.1 < place_in names t.1) terms

abbrev pub terms_of : List Name → List ℕ → List Term
terms_of [] row = []
terms_of (name ∷ names) [] = []
terms_of (name ∷ names) (w ∷ row) = if w == 0 then terms_of names row else (w, name_text name) ∷ terms_of names row

pub record IsRowOf (names : List Name) (p : ℕ) (terms : List Term) (c : ℕ) (row : List ℕ) : Type 0 where
  pub is_row : IsRow 17 row
  pub terms_are : terms_of names row ≡ terms
  pub constant_is : slice_index row 16 ≡ c
  pub seen : (k : ℕ) → k < 16 → slice_index row k ≢ 0 → IsSeenAt names p k

abbrev pub Tells : List Name → ℕ → List Term → ℕ → Relation → Type 0
Tells names p terms c (relations.Row row) = AreKnown names p terms × AreRising names terms × IsRowOf names p terms c row
Tells names p terms c relations.Order = AreKnown names p terms × (AreRising names terms → ⊥)
Tells names p terms c relations.UnknownName = AreKnown names p terms → ⊥

abbrev pub IsRelationReading : List Name → ℕ → List ℕ → Option Relation → Type 0
IsRelationReading names p text None = (terms : List Term) (c : ℕ) → IsRelation terms c → text ≢ relation_text terms c
IsRelationReading names p text (Some relation) =
    (terms : List Term) × (c : ℕ) × IsRelation terms c × (text ≡ relation_text terms c) × Tells names p terms c relation
