-- One thing is told of the line of the tracked names.
use Rattle.std.proofs.Common.{◌≡◌, ◌≢◌, ℕ, List, All, Err, sym, subst, ◌∙◌, inl, inr}
use Rattle.std.specs.Prelude.{◌⊎◌}
use Rattle.std.specs.List.{AllPairs}
use Rattle.report_text.specs.declared.names.Tracked.{Tracked}
use Rattle.report_lines.specs.Parts.{HasNo, parts_of}
use Rattle.report_lines.specs.Tracks.{AreListed, AreReadNames, IsNamed, track_text}
use Rattle.report_lines.proofs.Listed.{all_named}
use Rattle.refusals.specs.declared.report.ReportRefusal.TheVariants as refusals
use Rattle.report_read.specs.Judging.{IsJudged}
use Rattle.report_read.specs.Telling.{begun, IsFirstLine, IsTrackJudged, lines, missing, no_names, Outcome, repeated, unknown}
use Rattle.report_read.proofs.OneTelling.{one_judged}
use Rattle.report_read.proofs.OneTrack.{no_first, one_first, one_listed, one_tracked, texts_apart}

-- what the line of the tracked names tells
pub data IsTrackLine (version : ℕ) (piece behind : List ℕ) (r : Outcome) : Type 0 where
  not_listed : ((texts : List (List ℕ)) → AreListed texts → piece ≢ track_text texts) → r ≡ Err (refusals.Syntax 2)
      → IsTrackLine version piece behind r
  not_named : (texts : List (List ℕ)) → AreListed texts → piece ≡ track_text texts → (All IsNamed texts → ⊥)
      → r ≡ Err (refusals.UnknownName 2) → IsTrackLine version piece behind r
  twice : (texts : List (List ℕ)) → AreListed texts → piece ≡ track_text texts → All IsNamed texts
      → (AllPairs (λ (s : List ℕ) t. s ≢ t) texts → ⊥) → r ≡ Err (refusals.Order 2)
      → IsTrackLine version piece behind r
  listed : (texts : List (List ℕ)) (tracked : Tracked) → AreListed texts → piece ≡ track_text texts
      → AreReadNames texts tracked.names
      → IsJudged (parts_of 10 behind) 3 (begun version tracked) r → IsTrackLine version piece behind r

module _ (version : ℕ) (piece behind : List ℕ) where
  pub same_texts : (texts others : List (List ℕ)) → AreListed texts → AreListed others → piece ≡ track_text texts
      → piece ≡ track_text others → texts ≡ others
  same_texts texts others a b is also = one_listed texts others a b (sym is ∙ also)

  pub one_track_line : (r q : Outcome) → IsTrackLine version piece behind r → IsTrackLine version piece behind q → r ≡ q
  one_track_line r q (not_listed none e) (not_listed none' f) = e ∙ sym f
  one_track_line r q (not_listed none e) (not_named texts l is nay f) = absurd (none texts l is)
  one_track_line r q (not_listed none e) (twice texts l is all nay f) = absurd (none texts l is)
  one_track_line r q (not_listed none e) (listed texts t l is read j) = absurd (none texts l is)
  one_track_line r q (not_named texts l is nay e) (not_listed none f) = absurd (none texts l is)
  one_track_line r q (not_named texts l is nay e) (not_named texts' l' is' nay' f) = e ∙ sym f
  one_track_line r q (not_named texts l is nay e) (twice texts' l' is' all nay' f) = absurd (nay (subst (All IsNamed) (same_texts texts' texts l' l is' is) all))
  one_track_line r q (not_named texts l is nay e) (listed texts' t l' is' read j) =
      absurd (nay (subst (All IsNamed) (same_texts texts' texts l' l is' is) (all_named texts' t.names read)))
  one_track_line r q (twice texts l is all nay e) (not_listed none f) = absurd (none texts l is)
  one_track_line r q (twice texts l is all nay e) (not_named texts' l' is' nay' f) = absurd (nay' (subst (All IsNamed) (same_texts texts texts' l l' is is') all))
  one_track_line r q (twice texts l is all nay e) (twice texts' l' is' all' nay' f) = e ∙ sym f
  one_track_line r q (twice texts l is all nay e) (listed texts' t l' is' read j) =
      absurd (nay (subst (AllPairs (λ (s : List ℕ) u. s ≢ u)) (same_texts texts' texts l' l is' is) (texts_apart texts' t read)))
  one_track_line r q (listed texts t l is read j) (not_listed none f) = absurd (none texts l is)
  one_track_line r q (listed texts t l is read j) (not_named texts' l' is' nay' f) =
      absurd (nay' (subst (All IsNamed) (same_texts texts texts' l l' is is') (all_named texts t.names read)))
  one_track_line r q (listed texts t l is read j) (twice texts' l' is' all nay f) =
      absurd (nay (subst (AllPairs (λ (s : List ℕ) u. s ≢ u)) (same_texts texts texts' l l' is is') (texts_apart texts t read)))
  one_track_line r q (listed texts t l is read j) (listed texts' t' l' is' read' j') =
      let same : t' ≡ t = one_tracked texts' texts t' t (same_texts texts' texts l' l is' is) read' read in
      one_judged (parts_of 10 behind) 3 (begun version t) r q read.addressed j (subst (λ (x : Tracked). IsJudged (parts_of 10 behind) 3 (begun version x) q) same j')

pub record HasTrackLine (version : ℕ) (text : List ℕ) (r : Outcome) : Type 0 where
  piece : List ℕ
  behind : List ℕ
  line : IsFirstLine text piece behind
  judged : IsTrackLine version piece behind r

-- the text has no whole line, or this is its first
pub has_line : (version : ℕ) (text : List ℕ) (r : Outcome) → IsTrackJudged version text r
    → (HasNo 10 text × (r ≡ Err (refusals.Syntax 2))) ⊎ HasTrackLine version text r
has_line version text r (missing clean e) = inl (clean, e)
has_line version text r (no_names piece behind line none e) = inr (record { piece = piece; behind = behind; line = line; judged = not_listed none e })
has_line version text r (unknown piece behind texts line l is nay e) = inr (record { piece = piece; behind = behind; line = line; judged = not_named texts l is nay e })
has_line version text r (repeated piece behind texts line l is all nay e) = inr (record { piece = piece; behind = behind; line = line; judged = twice texts l is all nay e })
has_line version text r (lines piece behind texts tracked line l is read j) = inr (record { piece = piece; behind = behind; line = line; judged = listed texts tracked l is read j })

pub one_track : (version : ℕ) (text : List ℕ) (r q : Outcome) → IsTrackJudged version text r → IsTrackJudged version text q
    → r ≡ q
one_track version text r q a b = by (has_line version text r a) (has_line version text q b)
  where
    by : (HasNo 10 text × (r ≡ Err (refusals.Syntax 2))) ⊎ HasTrackLine version text r
        → (HasNo 10 text × (q ≡ Err (refusals.Syntax 2))) ⊎ HasTrackLine version text q → r ≡ q
    by (inl x) (inl y) = x.1 ∙ sym y.1
    by (inl x) (inr y) = absurd (no_first text y.piece y.behind x.0 y.line)
    by (inr x) (inl y) = absurd (no_first text x.piece x.behind y.0 x.line)
    by (inr x) (inr y) =
        let same = one_first text y.piece y.behind x.piece x.behind y.line x.line in
        one_track_line version x.piece x.behind r q x.judged
        (subst (λ (p : List ℕ). IsTrackLine version p x.behind q) same.0 (subst (λ (p : List ℕ). IsTrackLine version y.piece p q) same.1 y.judged))
