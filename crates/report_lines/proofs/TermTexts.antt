-- What the texts of terms tell.
use Rattle.std.proofs.Common.{◌≡◌, ◌≢◌, ℕ, ◌<◌, ◌≤◌, ◌^◌, Bool, List, ◌∷◌, ◌++◌, length, codes, Option, Some, None, append_assoc, sym, ap, ◌∙◌, arith}
use Rattle.std.specs.Char.{digit_value}
use Rattle.std.proofs.lemmas.Fmt.{decimal_injective}
use Rattle.std.proofs.lemmas.Bool.Decides.{nat_tests}
use Rattle.number_text.specs.Numerals.{dec}
use Rattle.report_text.specs.Text.{magnitude}
use Rattle.report_lines.specs.Parts.{HasNo}
use Rattle.report_lines.specs.Terms.{Term, IsLead, IsTerm, IsFactor, IsWordOf, IsNumberReading, is_plus, lead_text}
use Rattle.report_lines.proofs.Cuts.{one_cut, no_cut}
use Rattle.report_lines.proofs.Digits.{dec_has_no}

pub magnitude_fits : (w : ℕ) → IsFactor w → magnitude w < 2 ^ 64
magnitude_fits w h = grind (arith, nat_tests)

pub magnitude_has_no : (byte w : ℕ) → 10 ≤ digit_value byte → IsFactor w → HasNo byte (dec (magnitude w))
magnitude_has_no byte w other h = dec_has_no byte (magnitude w) other (magnitude_fits w h)

-- one word has this sign and this magnitude
pub one_word : (v w : ℕ) → IsFactor v → IsFactor w → is_plus v ≡ is_plus w → magnitude v ≡ magnitude w → v ≡ w
one_word v w h k same e = grind (arith, nat_tests)

pub number_read : (plus : Bool) (text : List ℕ) (n : ℕ) (r : Option ℕ) → n < 2 ^ 64 → text ≡ dec n → IsWordOf plus n r → IsNumberReading plus text r
number_read plus text n None small is none =
    λ w h p e. none w h p (decimal_injective n (magnitude w) small (magnitude_fits w h) (sym is ∙ e))
number_read plus text n (Some w) small is some = (some.0, some.1, is ∙ ap dec some.2)

-- a term's text by its star
pub star : (w : ℕ) (name : List ℕ) → lead_text (w, name) ≡ dec (magnitude w) ++ 42 ∷ name
star w name = append_assoc (dec (magnitude w)) (codes "*") name

-- a text with a star is a term's only with the numeral and the name that stand there
pub term_is : (text number name : List ℕ) (term : Term) → text ≡ number ++ 42 ∷ name → HasNo 42 number → IsTerm term
    → text ≡ lead_text term → (number ≡ dec (magnitude term.0)) × (name ≡ term.1)
term_is text number name term is clean fits e =
    one_cut 42 number name (dec (magnitude term.0)) term.1 clean (magnitude_has_no 42 term.0 (omega arith) fits.0) (sym is ∙ e ∙ star term.0 term.1)

pub no_star : (text : List ℕ) (term : Term) → HasNo 42 text → IsTerm term → text ≢ lead_text term
no_star text term clean fits e =
    no_cut 42 text (dec (magnitude term.0)) term.1 clean (magnitude_has_no 42 term.0 (omega arith) fits.0) (e ∙ star term.0 term.1)

pub no_constant : (text number name : List ℕ) (w : ℕ) → text ≡ number ++ 42 ∷ name → HasNo 42 number → IsFactor w → text ≢ dec (magnitude w)
no_constant text number name w is clean h e = no_cut 42 (dec (magnitude w)) number name (magnitude_has_no 42 w (omega arith) h) clean (sym e ∙ is)

pub no_term : (plus : Bool) (text number name : List ℕ) → text ≡ number ++ 42 ∷ name → HasNo 42 number
    → (0 < length name → IsNumberReading plus number None) → (term : Term) → IsTerm term → is_plus term.0 ≡ plus → text ≢ lead_text term
no_term plus text number name is clean wrong term fits same e =
    let t = term_is text number name term is clean fits e in
    wrong (omega (arith, fits.1.0, ap (λ (xs : List ℕ). length xs) t.1)) term.0 fits.0 same t.0

pub lead_is_term : (lead : Term) → IsLead lead → IsTerm lead
lead_is_term lead h = ((h.0, omega arith), h.2)

pub no_lead : (text : List ℕ) (w : ℕ) (lead : Term) → IsFactor w → text ≡ dec (magnitude w) → IsLead lead → text ≢ lead_text lead
no_lead text w lead h is fits e = no_star (dec (magnitude w)) lead (magnitude_has_no 42 w (omega arith) h) (lead_is_term lead fits) (sym is ∙ e)
