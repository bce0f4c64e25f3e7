-- A point's text is cut at its only comma.
use Rattle.std.proofs.Common.{◌≡◌, ◌≢◌, ℕ, ◌<◌, ◌^◌, List, ◌∷◌, ◌++◌, append_assoc, codes, refl, sym, ◌∙◌, arith}
use Rattle.number_text.specs.Numerals.{hex}
use Rattle.report_lines.specs.Parts.{HasNo}
use Rattle.report_lines.proofs.Cuts.{no_cut, one_cut}
use Rattle.report_lines.proofs.Digits.{hex_has_no}
use Rattle.row_read.specs.Points.{point_text}

no_comma : (n : ℕ) → n < 2 ^ 64 → HasNo 44 (hex n)
no_comma n small = hex_has_no 44 n (omega arith) refl refl small

by_comma : (p a : ℕ) → point_text p a ≡ hex p ++ 44 ∷ hex a
by_comma p a = append_assoc (hex p) (codes ",") (hex a)

-- a text without a comma
pub no_point : (text : List ℕ) → HasNo 44 text → (procedure address : ℕ) → procedure < 2 ^ 64 → address < 2 ^ 64 → text ≢ point_text procedure address
no_point text clean procedure address small also e =
    no_cut 44 text (hex procedure) (hex address) clean (no_comma procedure small) (e ∙ by_comma procedure address)

-- the two numbers of a point's text that is cut
pub point_cut : (text front behind : List ℕ) (procedure address : ℕ) → (text ≡ front ++ 44 ∷ behind) × HasNo 44 front → procedure < 2 ^ 64
    → text ≡ point_text procedure address → (front ≡ hex procedure) × (behind ≡ hex address)
point_cut text front behind procedure address cut small e =
    one_cut 44 front behind (hex procedure) (hex address) cut.1 (no_comma procedure small) (sym cut.0 ∙ e ∙ by_comma procedure address)
