-- What is told of a text whose first line is known.
use Rattle.std.proofs.Common.{◌≡◌, ℕ, ◌+◌, ◌≤◌, true, false, List, [], ◌∷◌, ◌++◌, sym, subst, ap, ◌∙◌, arith}
use Rattle.report_lines.specs.Parts.{HasNo}
use Rattle.report_lines.proofs.Cuts.{no_cut, one_cut}
use Rattle.proof_text.specs.declared.files.HeadRows.{HeadRows}
use Rattle.proof_text.specs.declared.files.EntryRows.{EntryRows}
use Rattle.proof_lines.specs.declared.lines.Line.{Line}
use Rattle.proof_lines.specs.declared.lines.Line.TheVariants.{Claims}
use Rattle.proof_lines.specs.Lines.{IsLine, line_text}
use Rattle.proof_lines.proofs.OneLine.{line_no_end, one_line}
use Rattle.proof_read.specs.declared.front.Front.{Front}
use Rattle.proof_read.specs.Fronts.{IsFirstLine, IsFrontJudged, IsToldLine, Left, Outcome, becomes, done, goes_on, is_allowed, is_claims, missing, no_line, not_allowed, width_in, width_of}

width_small : (heads : List HeadRows) (entries : List EntryRows) → width_in heads entries ≤ 512
width_small [] [] = omega arith
width_small (h ∷ heads) [] = omega arith
width_small heads (e ∷ entries) = omega arith

-- the text begins with the line
pub begins : (d : Front) (text behind : List ℕ) (line : Line) → IsLine (width_of d) line → text ≡ line_text line ++ 10 ∷ behind
    → IsFirstLine text (line_text line) behind
begins d text behind line fits is = record { text_is = is; clean = line_no_end (width_of d) line (width_small d.heads d.entries) fits }

module _ (d : Front) (text behind : List ℕ) (line : Line) (fits : IsLine (width_of d) line) (cut : IsFirstLine text (line_text line) behind) where
  one_first : (piece rest : List ℕ) → IsFirstLine text piece rest → (piece ≡ line_text line) × (rest ≡ behind)
  one_first piece rest other = one_cut 10 piece rest (line_text line) behind other.clean cut.clean (sym other.text_is ∙ cut.text_is)

  same_line : (piece rest : List ℕ) (told : Line) → IsFirstLine text piece rest → IsToldLine d piece told → told ≡ line
  same_line piece rest told other is =
      one_line (width_of d) told line (width_small d.heads d.entries) is.fits fits (sym is.piece_is ∙ (one_first piece rest other).0)

  none_missing : HasNo 10 text → ⊥
  none_missing none = no_cut 10 text (line_text line) behind none cut.clean cut.text_is

  -- behind a line that is allowed the rest is judged
  pub step_back : (r : Outcome) (k : ℕ) → is_claims line ≡ false → is_allowed d line ≡ true → IsFrontJudged r k d text
      → IsFrontJudged r (k + 1) (becomes d line) behind
  step_back r k other allowed (missing k' d' text' none e) = absurd (none_missing none)
  step_back r k other allowed (no_line k' d' text' piece rest first none e) =
      absurd (none line (record { fits = fits; piece_is = (one_first piece rest first).0 }))
  step_back r k other allowed (not_allowed k' d' text' piece rest told first is apart wrong e) =
      absurd (wrong (ap (is_allowed d) (same_line piece rest told first is) ∙ allowed))
  step_back r k other allowed (done k' d' text' piece rest first last e) =
      let same : Claims ≡ line = same_line piece rest Claims first (record { fits = tt; piece_is = last }) in
      let f : true ≡ false = ap is_claims same ∙ other in absurd cc
  step_back r k other allowed (goes_on k' d' text' piece rest told first is apart fine judged) =
      let same = same_line piece rest told first is in
      let left = (one_first piece rest first).1 in
      subst (λ (l : Line). IsFrontJudged r (k + 1) (becomes d l) behind) same
      (subst (λ (t : List ℕ). IsFrontJudged r (k + 1) (becomes d told) t) left judged)

  -- the line of the claims is the last one
  pub last_back : (r : Outcome) (k : ℕ) → line ≡ Claims → is_allowed d line ≡ true → IsFrontJudged r k d text → r ≡ Left d (k + 1) behind
  last_back r k claims allowed (missing k' d' text' none e) = absurd (none_missing none)
  last_back r k claims allowed (no_line k' d' text' piece rest first none e) =
      absurd (none line (record { fits = fits; piece_is = (one_first piece rest first).0 }))
  last_back r k claims allowed (not_allowed k' d' text' piece rest told first is apart wrong e) =
      absurd (wrong (ap (is_allowed d) (same_line piece rest told first is) ∙ allowed))
  last_back r k claims allowed (done k' d' text' piece rest first last e) = e ∙ ap (Left d (k + 1)) (one_first piece rest first).1
  last_back r k claims allowed (goes_on k' d' text' piece rest told first is apart fine judged) =
      let f : true ≡ false = sym (ap is_claims (same_line piece rest told first is ∙ claims)) ∙ apart in absurd cc
