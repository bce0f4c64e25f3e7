-- The terms of a relation's line, and what reading one gives.
--
--   Term                     a word that isn't 0, and the text of the name that it is a factor of
--   IsNameText text          the text isn't empty, and has no space
--   IsFactor word            the word isn't 0
--   IsTerm term              its word isn't 0, and its name is such a text
--   IsLead term              besides its word is at most 2^63, so that it needs no sign
--   lead_text term           the magnitude of its word and its name
--   term_text term           the same behind its sign
--   number_text word         a constant behind its sign
--   is_plus word             the word is written behind `+`
--   IsWordOf plus n word     the word with this sign whose magnitude is n, if there is one
--   IsNumberReading plus text word   the word with this sign whose magnitude's numeral the text is
--   IsLeadReading text lead  the lead whose text this is, if it is one's
--   IsUnsignedReading plus text word   the term or the constant with this sign whose text without it this is
--   IsWordReading text word  the term or the constant whose text this is
use Rattle.std.specs.Prelude.{◌≡◌, ◌≢◌, ℕ, ◌<◌, ◌≤◌, ◌^◌, nat_le, Bool, List, ◌++◌, length, codes, Option, Some, None}
use Rattle.std.specs.Borrow.{Bor}
use Rattle.number_text.specs.Numerals.{dec}
use Rattle.report_text.specs.Text.{sign, magnitude}
use Rattle.report_lines.specs.declared.words.Word.{Word}
use Rattle.report_lines.specs.declared.words.Word.TheVariants.{Multiple, Constant}
use Rattle.report_lines.specs.Parts.{HasNo}

abbrev pub Term : Type 0
Term = ℕ × List ℕ

abbrev pub IsNameText : List ℕ → Type 0
IsNameText text = (0 < length text) × HasNo 32 text

abbrev pub IsFactor : ℕ → Type 0
IsFactor w = (1 ≤ w) × (w < 2 ^ 64)

abbrev pub IsTerm : Term → Type 0
IsTerm (w, name) = IsFactor w × IsNameText name

abbrev pub IsLead : Term → Type 0
IsLead (w, name) = (1 ≤ w) × (w ≤ 2 ^ 63) × IsNameText name

abbrev pub is_plus : ℕ → Bool
is_plus w = nat_le w (2 ^ 63)

abbrev pub lead_text : Term → List ℕ
lead_text (w, name) = dec (magnitude w) ++ codes "*" ++ name

abbrev pub term_text : Term → List ℕ
term_text (w, name) = sign w ++ lead_text (w, name)

abbrev pub number_text : ℕ → List ℕ
number_text w = sign w ++ dec (magnitude w)

abbrev pub IsWordOf : Bool → ℕ → Option ℕ → Type 0
IsWordOf plus n None = (w : ℕ) → IsFactor w → is_plus w ≡ plus → n ≢ magnitude w
IsWordOf plus n (Some w) = IsFactor w × (is_plus w ≡ plus) × (n ≡ magnitude w)

abbrev pub IsNumberReading : Bool → List ℕ → Option ℕ → Type 0
IsNumberReading plus text None = (w : ℕ) → IsFactor w → is_plus w ≡ plus → text ≢ dec (magnitude w)
IsNumberReading plus text (Some w) = IsFactor w × (is_plus w ≡ plus) × (text ≡ dec (magnitude w))

abbrev pub IsLeadReading : List ℕ → Option (ℕ × Bor (List ℕ)) → Type 0
IsLeadReading text None = (lead : Term) → IsLead lead → text ≢ lead_text lead
IsLeadReading text (Some (w, name)) = IsLead (w, name.now) × (text ≡ lead_text (w, name.now))

abbrev pub IsUnsignedReading : Bool → List ℕ → Option Word → Type 0
IsUnsignedReading plus text None =
    ((term : Term) → IsTerm term → is_plus term.0 ≡ plus → text ≢ lead_text term)
    × ((w : ℕ) → IsFactor w → is_plus w ≡ plus → text ≢ dec (magnitude w))
IsUnsignedReading plus text (Some (Multiple w name)) =
    IsTerm (w, name.now) × (is_plus w ≡ plus) × (text ≡ lead_text (w, name.now))
IsUnsignedReading plus text (Some (Constant w)) = IsFactor w × (is_plus w ≡ plus) × (text ≡ dec (magnitude w))

abbrev pub IsWordReading : List ℕ → Option Word → Type 0
IsWordReading text None =
    ((term : Term) → IsTerm term → text ≢ term_text term) × ((w : ℕ) → IsFactor w → text ≢ number_text w)
IsWordReading text (Some (Multiple w name)) = IsTerm (w, name.now) × (text ≡ term_text (w, name.now))
IsWordReading text (Some (Constant w)) = IsFactor w × (text ≡ number_text w)
