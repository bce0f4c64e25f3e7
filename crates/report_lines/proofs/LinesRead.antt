-- What the texts of lines tell.
use Rattle.std.proofs.Common.{◌≡◌, ◌≢◌, ℕ, ◌<◌, ◌≤◌, ◌^◌, List, ◌∷◌, ◌++◌, codes, sym, ◌∙◌, arith, append_assoc}
use Rattle.report_text.specs.declared.certs.CertWord.{CertWord}
use Rattle.report_text.specs.Text.{cert_word_text}
use Rattle.report_lines.specs.Parts.{HasNo}
use Rattle.report_lines.specs.Terms.{IsNameText}
use Rattle.std.proofs.Common.{drop, ap}
use Rattle.std.proofs.lemmas.Fmt.{decimal_injective}
use Rattle.number_text.specs.Numerals.{dec}
use Rattle.report_lines.specs.Lines.{header_text}
use Rattle.report_lines.proofs.Cuts.{one_cut}

-- what is certified stands behind the first space
pub cert_is : (text front behind name : List ℕ) (word : CertWord) → (text ≡ front ++ 32 ∷ behind) × HasNo 32 front → IsNameText name
    → text ≡ name ++ codes " " ++ cert_word_text word → behind ≡ cert_word_text word
cert_is text front behind name word cut fits e =
    (one_cut 32 front behind name (cert_word_text word) cut.1 fits.1 (sym cut.0 ∙ e ∙ append_assoc name (codes " ") (cert_word_text word))).1

-- no other number is a version
pub no_version : (number piece : List ℕ) (n : ℕ) → piece ≡ codes "affine-report " ++ number → n < 2 ^ 64 → number ≡ dec n → n ≢ 1 → n ≢ 2
    → (version : ℕ) → 1 ≤ version → version ≤ 2 → piece ≢ header_text version
no_version number piece n is small numeral one two version low high e =
    let same : n ≡ version = decimal_injective n version small (omega arith) (sym numeral ∙ ap (drop 14) (sym is ∙ e)) in
    omega arith
