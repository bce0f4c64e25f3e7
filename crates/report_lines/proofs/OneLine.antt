-- A text is one line's.
use Rattle.std.proofs.Common.{◌≡◌, ℕ, List, ◌++◌, drop, get_or, codes, append_assoc, refl, sym, ap, ◌∙◌, arith}
use Rattle.report_text.specs.declared.certs.CertWord.{CertWord}
use Rattle.report_text.specs.declared.certs.CertWord.TheVariants.{Granted, Broken, Never}
use Rattle.report_text.specs.Text.{cert_word_text}
use Rattle.report_lines.specs.Lines.{Line, Proc, Cert, At, NoRows, Unreached, Rel, End, IsLine, line_text}
use Rattle.report_lines.specs.Terms.{IsNameText}
use Rattle.report_lines.proofs.Cuts.{one_cut}
use Rattle.report_lines.proofs.NamesTold.{hex_injective}
use Rattle.report_lines.proofs.OneRelation.{one_relation}

-- texts that begin with other bytes are apart
apart : (xs ys : List ℕ) → xs ≡ ys → get_or xs 0 0 ≡ get_or ys 0 0
apart xs ys e = ap (λ (bytes : List ℕ). get_or bytes 0 0) e

same_cert_word : (v w : CertWord) → cert_word_text v ≡ cert_word_text w → v ≡ w
same_cert_word Granted Granted e = refl
same_cert_word Granted Broken e = absurd (omega (arith, apart (codes "granted") (codes "broken") e))
same_cert_word Granted Never e = absurd (omega (arith, apart (codes "granted") (codes "never") e))
same_cert_word Broken Granted e = absurd (omega (arith, apart (codes "broken") (codes "granted") e))
same_cert_word Broken Broken e = refl
same_cert_word Broken Never e = absurd (omega (arith, apart (codes "broken") (codes "never") e))
same_cert_word Never Granted e = absurd (omega (arith, apart (codes "never") (codes "granted") e))
same_cert_word Never Broken e = absurd (omega (arith, apart (codes "never") (codes "broken") e))
same_cert_word Never Never e = refl

same_cert : (n m : List ℕ) (v w : CertWord) → IsNameText n → IsNameText m → codes "cert " ++ n ++ codes " " ++ cert_word_text v ≡ codes "cert " ++ m ++ codes " " ++ cert_word_text w
    → (n ≡ m) × (v ≡ w)
same_cert n m v w p q e =
    let cut = one_cut 32 n (cert_word_text v) m (cert_word_text w) p.1 q.1
    (sym (append_assoc n (codes " ") (cert_word_text v)) ∙ ap (drop 5) e ∙ append_assoc m (codes " ") (cert_word_text w)) in
    (cut.0, same_cert_word v w cut.1)

pub one_line : (a b : Line) → IsLine a → IsLine b → line_text a ≡ line_text b → a ≡ b
one_line (Proc a) (Proc b) p q e = ap Proc (hex_injective a b p q (ap (drop 5) e))
one_line (Proc a) b p q e = absurd (omega (arith, apart (line_text (Proc a)) (line_text b) e))
one_line (Cert n v) (Cert m w) p q e = let s = same_cert n m v w p q e in (λ i. Cert (s.0 i) (s.1 i))
one_line (Cert n v) b p q e = absurd (omega (arith, apart (line_text (Cert n v)) (line_text b) e))
one_line (At a) (At b) p q e = ap At (hex_injective a b p q (ap (drop 3) e))
one_line (At a) b p q e = absurd (omega (arith, apart (line_text (At a)) (line_text b) e))
one_line NoRows NoRows p q e = refl
one_line NoRows b p q e = absurd (omega (arith, apart (line_text NoRows) (line_text b) e))
one_line Unreached Unreached p q e = refl
one_line Unreached b p q e = absurd (omega (arith, apart (line_text Unreached) (line_text b) e))
one_line (Rel ss c) (Rel ts d) p q e = let s = one_relation ss ts c d p q (ap (drop 4) e) in (λ i. Rel (s.0 i) (s.1 i))
one_line (Rel ss c) b p q e = absurd (omega (arith, apart (line_text (Rel ss c)) (line_text b) e))
one_line End End p q e = refl
one_line End b p q e = absurd (omega (arith, apart (line_text End) (line_text b) e))
