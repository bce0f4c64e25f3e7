-- A line that is judged to be right, in front of lines that are judged.
use Rattle.std.proofs.Common.{◌≡◌, ℕ, ◌+◌, ◌<◌, ◌^◌, Bool, true, false, cond, eqb, List, ◌∷◌, ◌++◌, codes, refl, sym, subst, ap, ◌∙◌, arith, inr}
use Rattle.std.proofs.lemmas.List.Elements.{All-append, All-from_recursion}
use Rattle.number_text.specs.Numerals.{hex}
use Rattle.rv_decode.specs.Registers.{name_of_register}
use Rattle.report_text.specs.declared.certs.CertWord.{CertWord}
use Rattle.report_text.specs.declared.certs.CertWord.TheVariants.{Granted, Broken, Never}
use Rattle.report_text.specs.Text.{cert_word_text}
use Rattle.report_lines.specs.Lines.{Line, Proc, Cert, At, IsLine, is_relation, line_text}
use Rattle.report_lines.specs.Parts.{HasNo, parts_of}
use Rattle.report_lines.proofs.Cuts.{parts_cut, some_part}
use Rattle.report_lines.proofs.Digits.{hex_has_no}
use Rattle.report_lines.proofs.NamesTold.{register_has_no}
use Rattle.report_read.specs.declared.draft.Draft.{Draft}
use Rattle.report_read.specs.Drafts.{AreKnown, Becomes, IsOrdered, closed, is_allowed}
use Rattle.report_read.specs.Judging.{AreRowsFine, IsJudged, IsNext, before, goes_on}
use Rattle.report_read.specs.Telling.{Outcome}
use Rattle.report_read.proofs.Folding.{judged_on}

-- d is c once rows that stand last are told, and they are reduced
pub record Closes (d c : Draft) : Type 0 where
  pub fine : AreRowsFine d.place
  pub told_so : closed d ≡ c

pub other_next : (k : ℕ) (d c next : Draft) (line : Line) → is_relation line ≡ false → Closes d c
    → is_allowed c line ≡ true → AreKnown c line → IsOrdered c line → Becomes k c line next → IsNext k d line next
other_next k d c next line other closes allowed known ordered becomes =
    let same : c ≡ before d line = sym closes.told_so ∙ ap (λ (b : Bool). cond b d (closed d)) (sym other) in
    record {
      passed = inr closes.fine;
      allowed = subst (λ (x : Draft). is_allowed x line ≡ true) same allowed;
      known = subst (λ (x : Draft). AreKnown x line) same known;
      ordered = subst (λ (x : Draft). IsOrdered x line) same ordered;
      becomes = subst (λ (x : Draft). Becomes k x line next) same becomes;
    }

pub judge_line : (k : ℕ) (d next : Draft) (line : Line) (text : List ℕ) (r : Outcome) → IsLine line → HasNo 10 (line_text line)
    → IsNext k d line next → IsJudged (parts_of 10 text) (k + 1) next r
    → IsJudged (parts_of 10 (line_text line ++ 10 ∷ text)) k d r
judge_line k d next line text r fits clean is later =
    subst (λ (ps : List (List ℕ)). IsJudged ps k d r) (sym (parts_cut 10 (line_text line) text clean))
    (judged_on (line_text line) (parts_of 10 text) k d r (some_part 10 text) (goes_on line next fits refl is later))

pub at_clean : (address : ℕ) → address < 2 ^ 64 → HasNo 10 (line_text (At address))
at_clean address small =
    All-append (λ b. eqb b 10 ≡ false) (codes "at ") (hex address)
    (All-from_recursion (λ b. eqb b 10 ≡ false) (codes "at ") (refl, (refl, (refl, tt))))
    (hex_has_no 10 address (omega arith) refl refl small)

pub proc_clean : (address : ℕ) → address < 2 ^ 64 → HasNo 10 (line_text (Proc address))
proc_clean address small =
    All-append (λ b. eqb b 10 ≡ false) (codes "proc ") (hex address)
    (All-from_recursion (λ b. eqb b 10 ≡ false) (codes "proc ") (refl, (refl, (refl, (refl, (refl, tt))))))
    (hex_has_no 10 address (omega arith) refl refl small)

word_clean : (word : CertWord) → HasNo 10 (cert_word_text word)
word_clean Granted = All-from_recursion (λ b. eqb b 10 ≡ false) (codes "granted") (refl, (refl, (refl, (refl, (refl, (refl, (refl, tt)))))))
word_clean Broken = All-from_recursion (λ b. eqb b 10 ≡ false) (codes "broken") (refl, (refl, (refl, (refl, (refl, (refl, tt))))))
word_clean Never = All-from_recursion (λ b. eqb b 10 ≡ false) (codes "never") (refl, (refl, (refl, (refl, (refl, tt)))))

pub cert_clean : (r : ℕ) (word : CertWord) → r < 32 → HasNo 10 (line_text (Cert (name_of_register r) word))
cert_clean r word small =
    All-append (λ b. eqb b 10 ≡ false) ((codes "cert " ++ name_of_register r) ++ codes " ") (cert_word_text word)
    (All-append (λ b. eqb b 10 ≡ false) (codes "cert " ++ name_of_register r) (codes " ")
    (All-append (λ b. eqb b 10 ≡ false) (codes "cert ") (name_of_register r)
    (All-from_recursion (λ b. eqb b 10 ≡ false) (codes "cert ") (refl, (refl, (refl, (refl, (refl, tt)))))) (register_has_no 10 r refl small))
    (All-from_recursion (λ b. eqb b 10 ≡ false) (codes " ") (refl, tt)))
    (word_clean word)
