-- One thing is told of bytes.
use Rattle.std.proofs.Common.{◌≡◌, ℕ, ◌≤◌, List, drop, sym, subst, ap, ◌∙◌, arith}
use Rattle.std.proofs.lemmas.Fmt.{decimal_injective}
use Rattle.report_lines.specs.Lines.{header_text}
use Rattle.report_read.specs.Telling.{header, IsTextJudged, IsTrackJudged, missing, no_header, Outcome}
use Rattle.report_read.proofs.OneTrack.{no_first, one_first}
use Rattle.report_read.proofs.OneTrackLine.{one_track}

pub one_version : (v w : ℕ) → v ≤ 2 → w ≤ 2 → header_text v ≡ header_text w → v ≡ w
one_version v w p q e = decimal_injective v w (omega arith) (omega arith) (ap (drop 14) e)

pub one_telling : (bytes : List ℕ) (r q : Outcome) → IsTextJudged bytes r → IsTextJudged bytes q → r ≡ q
one_telling bytes r q (missing clean e) (missing clean' f) = e ∙ sym f
one_telling bytes r q (missing clean e) (no_header piece behind line none f) = absurd (no_first bytes piece behind clean line)
one_telling bytes r q (missing clean e) (header piece behind version line low high is j) = absurd (no_first bytes piece behind clean line)
one_telling bytes r q (no_header piece behind line none e) (missing clean f) = absurd (no_first bytes piece behind clean line)
one_telling bytes r q (no_header piece behind line none e) (no_header piece' behind' line' none' f) = e ∙ sym f
one_telling bytes r q (no_header piece behind line none e) (header piece' behind' version line' low high is j) =
    absurd (none version low high ((one_first bytes piece behind piece' behind' line line').0 ∙ is))
one_telling bytes r q (header piece behind version line low high is j) (missing clean f) = absurd (no_first bytes piece behind clean line)
one_telling bytes r q (header piece behind version line low high is j) (no_header piece' behind' line' none f) =
    absurd (none version low high ((one_first bytes piece' behind' piece behind line' line).0 ∙ is))
one_telling bytes r q (header piece behind version line low high is j) (header piece' behind' version' line' low' high' is' j') =
    let same = one_first bytes piece' behind' piece behind line' line in
    let versions : version' ≡ version = one_version version' version high' high (sym is' ∙ same.0 ∙ is) in
    one_track version behind r q j (subst (λ (v : ℕ). IsTrackJudged v behind q) versions (subst (λ (b : List ℕ). IsTrackJudged version' b q) same.1 j'))
