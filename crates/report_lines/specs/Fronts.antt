-- The words of a relation's line, read from the front.
--
--   AreFurther words              these are the words of further terms and of a constant, if there is one
--   IsFront text rest terms       the text is the terms' words, and behind a space the rest; where the text is a relation's,
--                                 the rest's words are further ones
use Rattle.std.specs.Prelude.{◌≡◌, ℕ, ◌<◌, ◌^◌, List, ◌++◌, map, All}
use Rattle.report_lines.specs.Parts.{parts_of}
use Rattle.report_lines.specs.Terms.{Term, IsTerm, term_text}
use Rattle.report_lines.specs.Relations.{IsRelation, constant_words, relation_text, relation_words}

pub record AreFurther (words : List (List ℕ)) : Type 0 where
  pub terms : List Term
  pub constant : ℕ
  pub fit : All IsTerm terms
  pub small : constant < 2 ^ 64
  pub words_are : words ≡ map term_text terms ++ constant_words constant

pub record IsFront (text rest : List ℕ) (terms : List Term) : Type 0 where
  pub fit : IsRelation terms 0
  pub words_are : parts_of 32 text ≡ relation_words terms 0 ++ parts_of 32 rest
  pub further : (all : List Term) (c : ℕ) → IsRelation all c → text ≡ relation_text all c → AreFurther (parts_of 32 rest)
