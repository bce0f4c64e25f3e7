-- What each draft keeps, a line further.
use Rattle.std.proofs.Common.{◌≡◌, ◌≢◌, ℕ, ◌<◌, Bool, true, false, cond, List, [], ◌∷◌, ◌++◌, All, get_or, sym, subst, arith, inl, inr, ⊎_elim}
use Rattle.std.specs.Prelude.{◌⊎◌}
use Rattle.std.proofs.lemmas.List.Elements.{All-nil, All-weaker}
use Rattle.word_rows.specs.Rows.{lead}
use Rattle.report_text.specs.declared.points.PointRows.{PointRows}
use Rattle.report_text.specs.declared.points.PointState.TheVariants as states
use Rattle.report_text.specs.Names.{IsSeenAt}
use Rattle.report_text.specs.Reports.{AreRelationRows, AreRowsAt, Ascend}
use Rattle.report_lines.specs.Lines.{Line, Proc, Cert, At, NoRows, Unreached, Rel, End, IsLine, is_relation}
use Rattle.report_read.specs.declared.draft.Draft.{Draft}
use Rattle.report_read.specs.declared.draft.Place.{Place}
use Rattle.report_read.specs.declared.draft.Place.TheVariants as places
use Rattle.report_read.specs.Drafts.{BecomesAt, IsOrderedAt, closed, is_allowed_at}
use Rattle.report_read.specs.Judging.{AreRowsFine, IsNext, before}
use Rattle.report_read.proofs.Kept.{IsKept, IsKeptAt, IsUpTo}
use Rattle.report_read.proofs.KeptTold.{closed_kept, kept_told}
use Rattle.report_read.proofs.RowsKept.{row_at}
use Rattle.report_read.proofs.LinesKept.{kept_cert, kept_first, kept_further, kept_proc, kept_row, nothing_yet}

module _ (k : ℕ) (d : Draft) (ascending : Ascend d.points) (reduced : All (AreRowsAt d.tracked.names) d.points) where
  pub moved : (place : Place) (next : Draft) → IsKeptAt (record d { place = place }) place → next ≡ record d { place = place } → IsKept next
  moved place next kept is = subst IsKept (sym is) (record { ascending = ascending; reduced = reduced; placed = kept })

  pub next_at : (place : Place) (line : Line) (next : Draft) → IsKeptAt d place → IsLine line
      → is_allowed_at d.version place line ≡ true → IsOrderedAt d place line
      → BecomesAt k d place line next → IsKept next
  next_at places.Top (Proc entry) next kept fits allowed ordered is =
      moved (places.Procedure entry 0) next
      (kept_proc d entry (subst (λ (ps : List PointRows). All (λ q. q.proc_entry < entry) ps) (sym kept.0) (All-nil (λ q. q.proc_entry < entry))) (nothing_yet d kept.0 kept.1)) is
  next_at places.Top End next kept fits allowed ordered is = moved places.End next (nothing_yet d kept.0 kept.1) is
  next_at (places.Procedure entry count) (Cert name word) next kept fits allowed ordered is =
      subst IsKept (sym is.4) (record {
        ascending = ascending;
        reduced = reduced;
        placed = kept_cert d entry count name is.0 allowed kept ordered.0 ordered.1 ordered.2 is.1 is.2;
      })
  next_at (places.Procedure entry count) (At address) next kept fits allowed ordered is =
      moved (places.Point entry address k) next (kept_first d entry count address kept ordered) is
  next_at (places.Point entry address line) NoRows next kept fits allowed ordered is =
      subst IsKept (sym is) (kept_told d entry address [] (states.Rows []) ascending reduced kept no_rows)
    where
      no_rows : AreRelationRows d.tracked.names entry []
      no_rows = record { basis = tt; reduced = tt; named = All-nil (λ row. lead row < 16); seen = All-nil (λ row. (j : ℕ) → j < 16 → get_or row j 0 ≢ 0 → IsSeenAt d.tracked.names entry j) }
  next_at (places.Point entry address line) Unreached next kept fits allowed ordered is =
      subst IsKept (sym is) (kept_told d entry address [] states.Unreached ascending reduced kept tt)
  next_at (places.Point entry address line) (Rel terms c) next kept fits allowed ordered is =
      moved (places.Rows entry address line (is.0 ∷ [])) next (kept_row d entry address [] is.0 kept (row_at d.tracked.names entry terms c is.0 fits d.tracked.few is.1)) is.2
  next_at (places.Rows entry address line rows) (Rel terms c) next kept fits allowed ordered is =
      moved (places.Rows entry address line (rows ++ is.0 ∷ [])) next (kept_row d entry address rows is.0 kept (row_at d.tracked.names entry terms c is.0 fits d.tracked.few is.1)) is.2
  next_at (places.Told entry address) (Proc further) next kept fits allowed ordered is =
      moved (places.Procedure further 0) next
      (kept_proc d further (All-weaker (IsUpTo entry address) (λ q. q.proc_entry < further) (λ q u. ⊎_elim (λ l. omega arith) (λ r. omega (arith, r.0)) u) d.points kept.before) kept.certs) is
  next_at (places.Told entry address) (At further) next kept fits allowed ordered is =
      moved (places.Point entry further k) next (kept_further d entry address further kept ordered) is
  next_at (places.Told entry address) End next kept fits allowed ordered is = moved places.End next kept.certs is
  next_at place line next kept fits allowed ordered is = absurd cc

pub before_kept : (d : Draft) (line : Line) → IsKept d → (is_relation line ≡ true) ⊎ AreRowsFine d.place → IsKept (before d line)
before_kept d line kept passed = by (is_relation line) passed
  where
    by : (b : Bool) → (b ≡ true) ⊎ AreRowsFine d.place → IsKept (cond b d (closed d))
    by true p = kept
    by false (inl e) = absurd cc
    by false (inr fine) = closed_kept d kept fine

pub next_kept : (k : ℕ) (d : Draft) (line : Line) (next : Draft) → IsKept d → IsLine line → IsNext k d line next → IsKept next
next_kept k d line next kept fits is =
    let b = before_kept d line kept is.passed in
    next_at k (before d line) b.ascending b.reduced (before d line).place line next b.placed fits is.allowed is.ordered is.becomes
