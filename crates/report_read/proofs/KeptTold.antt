-- What each draft keeps where a point is told.
use Rattle.std.proofs.Common.{◌≡◌, ◌≢◌, ℕ, ◌<◌, List, [], ◌∷◌, ◌++◌, All, get_or, Option, Some, None, refl, sym, subst, ◌∙◌, arith, inl, inr, ⊎_elim}
use Rattle.std.proofs.lemmas.List.Elements.{All-push, All-weaker, All-get_or}
use Rattle.std.proofs.lemmas.List.Quantifiers.{all_pairs_push}
use Rattle.word_rows.specs.Rows.{lead}
use Rattle.row_modules.specs.Bases.{IsLeadingBasis, IsReduced}
use Rattle.report_text.specs.declared.points.PointRows.{PointRows}
use Rattle.report_text.specs.declared.points.PointState.{PointState}
use Rattle.report_text.specs.declared.points.PointState.TheVariants as states
use Rattle.report_text.specs.Names.{IsSeenAt}
use Rattle.report_text.specs.Reports.{AreRelationRows, AreRowsAt, AreRowsAtState, Ascend, IsBefore}
use Rattle.report_read.specs.declared.draft.Draft.{Draft}
use Rattle.report_read.specs.declared.draft.Place.{Place}
use Rattle.report_read.specs.declared.draft.Place.TheVariants as places
use Rattle.report_read.specs.Drafts.{are_wanted, closed_at, told}
use Rattle.report_read.specs.Judging.{AreRowsFine}
use Rattle.report_read.proofs.Sites.{last_of, sites_push}
use Rattle.report_read.proofs.Kept.{at, IsUpTo, IsRowAt, IsAtPoint, IsKeptAt, IsKept}

pub last_of_push : (before : Option ℕ) (points : List PointRows) (q : PointRows)
    → last_of before (points ++ q ∷ []) ≡ Some q.proc_entry
last_of_push before [] q = refl
last_of_push before (p ∷ points) q = last_of_push (Some p.proc_entry) points q

-- a point is told
pub kept_told : (d : Draft) (entry address : ℕ) (rows : List (List ℕ)) (state : PointState) → Ascend d.points
    → All (AreRowsAt d.tracked.names) d.points
    → IsAtPoint d entry address rows → AreRowsAtState d.tracked.names entry state → IsKept (told d entry address state)
kept_told d entry address rows state ascending reduced place fine =
    let q : PointRows = at entry address state in
    record {
      ascending = all_pairs_push IsBefore d.points q ascending (λ k e lt. All-get_or (λ p. IsBefore p q) d.points k e lt place.before);
      reduced = All-push (AreRowsAt d.tracked.names) d.points q reduced fine;
      placed = record {
        before = All-push (IsUpTo entry address) d.points q
            (All-weaker (λ p. IsBefore p q) (IsUpTo entry address) (λ p b. ⊎_elim (λ l. inl l) (λ r. inr (r.0, omega (arith, r.1))) b) d.points place.before)
            (inr (refl, omega arith));
        last = last_of_push None d.points q;
        certs = place.certs ∙ sym (sites_push (are_wanted d) None d.points q);
      };
    }

-- rows that stand last are told
pub rows_told : (d : Draft) (entry address : ℕ) (rows : List (List ℕ)) → IsAtPoint d entry address rows
    → IsLeadingBasis 17 rows × IsReduced rows → AreRelationRows d.tracked.names entry rows
rows_told d entry address rows place fine = record {
  basis = fine.0;
  reduced = fine.1;
  named = All-weaker (IsRowAt d.tracked.names entry) (λ row. lead row < 16) (λ row r. r.named) rows place.each_row;
  seen = All-weaker (IsRowAt d.tracked.names entry) (λ row. (k : ℕ) → k < 16 → get_or row k 0 ≢ 0 → IsSeenAt d.tracked.names entry k) (λ row r. r.seen) rows place.each_row;
}

pub closed_at_kept : (d : Draft) (place : Place) → Ascend d.points → All (AreRowsAt d.tracked.names) d.points
    → IsKeptAt d place → AreRowsFine place → d.place ≡ place
    → IsKept (closed_at d place)
closed_at_kept d (places.Rows entry address line rows) ascending reduced kept fine is =
    kept_told d entry address rows (states.Rows rows) ascending reduced kept (rows_told d entry address rows kept fine)
closed_at_kept d places.Top ascending reduced kept fine is = record { ascending = ascending; reduced = reduced; placed = subst (IsKeptAt d) (sym is) kept }
closed_at_kept d (places.Procedure entry count) ascending reduced kept fine is = record { ascending = ascending; reduced = reduced; placed = subst (IsKeptAt d) (sym is) kept }
closed_at_kept d (places.Point entry address line) ascending reduced kept fine is = record { ascending = ascending; reduced = reduced; placed = subst (IsKeptAt d) (sym is) kept }
closed_at_kept d (places.Told entry address) ascending reduced kept fine is = record { ascending = ascending; reduced = reduced; placed = subst (IsKeptAt d) (sym is) kept }
closed_at_kept d places.End ascending reduced kept fine is = record { ascending = ascending; reduced = reduced; placed = subst (IsKeptAt d) (sym is) kept }

pub closed_kept : (d : Draft) → IsKept d → AreRowsFine d.place → IsKept (closed_at d d.place)
closed_kept d kept fine = closed_at_kept d d.place kept.ascending kept.reduced kept.placed fine refl
