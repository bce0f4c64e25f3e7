-- The text of a point is judged to tell that point.
use Rattle.std.proofs.Common.{◌≡◌, ℕ, ◌+◌, ◌<◌, ◌^◌, false, true, eqb, List, [], ◌∷◌, ◌++◌, codes, append_assoc, refl, sym, subst, ap, ◌∙◌, inl}
use Rattle.std.specs.Prelude.{slice_index}
use Rattle.std.specs.List.{AllByRecursion, flat_map}
use Rattle.std.proofs.lemmas.List.{append-nil}
use Rattle.std.proofs.lemmas.List.Elements.{All-from_recursion}
use Rattle.row_modules.specs.Bases.{IsLeadingBasis, IsReduced}
use Rattle.report_text.specs.declared.certs.ReportCert.{ReportCert}
use Rattle.report_text.specs.declared.names.Tracked.{Tracked}
use Rattle.report_text.specs.declared.points.PointRows.{PointRows}
use Rattle.report_text.specs.declared.points.PointState.{PointState}
use Rattle.report_text.specs.declared.points.PointState.TheVariants as states
use Rattle.report_text.specs.Reports.{AreRelationRows, AreRowsAtState}
use Rattle.report_text.specs.Text.{nl, point_text, rel_text, state_text}
use Rattle.report_lines.specs.Lines.{At, NoRows, Unreached, Rel, line_text}
use Rattle.report_lines.specs.Parts.{parts_of}
use Rattle.report_lines.specs.Relations.{AreKnown, IsRowOf, terms_of}
use Rattle.report_lines.specs.Terms.{Term}
use Rattle.report_read.specs.declared.draft.Draft.{Draft}
use Rattle.report_read.specs.declared.draft.Place.{Place}
use Rattle.report_read.specs.declared.draft.Place.TheVariants as places
use Rattle.report_read.specs.Drafts.{IsOrderedAt, entry_at, is_allowed_at, place_with_row}
use Rattle.report_read.specs.Judging.{IsJudged}
use Rattle.report_read.specs.Telling.{Outcome}
use Rattle.report_read.proofs.Kept.{at}
use Rattle.report_read.proofs.LinesAgain.{Closes, at_clean, judge_line, other_next}
use Rattle.report_read.proofs.LinesThere.{IsLineThere, IsRowThere}
use Rattle.report_read.proofs.RowsThere.{rows_there}

module _ (version : ℕ) (tracked : Tracked) (certs : List ReportCert) (points : List PointRows) (r : Outcome) where
  abbrev pub draft : Place → Draft
  draft place = record { version = version; tracked = tracked; certs = certs; points = points; place = place }

  abbrev pub told_here : ℕ → ℕ → PointState → Draft
  told_here entry address state =
      record { version = version; tracked = tracked; certs = certs; points = points ++ at entry address state ∷ []; place = places.Told entry address }

  -- what comes behind a point is judged
  abbrev pub GoesOn : Draft → List ℕ → Type 0
  GoesOn c rest = (k : ℕ) (d : Draft) → Closes d c → IsJudged (parts_of 10 rest) k d r

  pub rel_run : (entry address line k : ℕ) (place next : Place) (row text : List ℕ) → entry_at place ≡ entry
      → IsLineThere tracked.names entry row
      → ((terms : List Term) (c : ℕ) → is_allowed_at version place (Rel terms c) ≡ true)
      → IsOrderedAt (draft place) place (Rel (terms_of tracked.names row) (slice_index row 16))
      → next ≡ place_with_row place row → IsJudged (parts_of 10 text) (k + 1) (draft next) r
      → IsJudged (parts_of 10 (rel_text tracked.names row ++ text)) k (draft place) r
  rel_run entry address line k place next row text procedure there allowed ordered becomes later =
      subst (λ (xs : List ℕ). IsJudged (parts_of 10 xs) k (draft place) r)
      (sym (append_assoc (line_text (Rel (terms_of tracked.names row) (slice_index row 16))) nl text) ∙ ap (λ (xs : List ℕ). xs ++ text) (sym there.text_is))
      (judge_line k (draft place) (draft next) (Rel (terms_of tracked.names row) (slice_index row 16)) text r there.fits there.clean
      (record {
        passed = inl refl;
        allowed = allowed (terms_of tracked.names row) (slice_index row 16);
        known = subst (λ (e : ℕ). AreKnown tracked.names e (terms_of tracked.names row)) (sym procedure) there.known;
        ordered = ordered;
        becomes = (row, subst (λ (e : ℕ). IsRowOf tracked.names e (terms_of tracked.names row) (slice_index row 16) row) (sym procedure) there.row_is, ap draft becomes);
      })
      later)

  pub rows_run : (entry address line k : ℕ) (all before' more : List (List ℕ)) (rest : List ℕ) → before' ++ more ≡ all
      → AreRelationRows tracked.names entry all
      → AllByRecursion (IsLineThere tracked.names entry) more → GoesOn (told_here entry address (states.Rows all)) rest
      → IsJudged (parts_of 10 (flat_map (rel_text tracked.names) more ++ rest)) k (draft (places.Rows entry address line before')) r
  rows_run entry address line k all before' [] rest is fine lines later =
      let same : before' ≡ all = sym (append-nil before') ∙ is in
      later k (draft (places.Rows entry address line before')) (record {
        fine = subst (λ (rs : List (List ℕ)). IsLeadingBasis 17 rs × IsReduced rs) (sym same) (fine.basis, fine.reduced);
        told_so = ap (λ (rs : List (List ℕ)). told_here entry address (states.Rows rs)) same;
      })
  rows_run entry address line k all before' (row ∷ more) rest is fine lines later =
      subst (λ (xs : List ℕ). IsJudged (parts_of 10 xs) k (draft (places.Rows entry address line before')) r)
      (sym (append_assoc (rel_text tracked.names row) (flat_map (rel_text tracked.names) more) rest))
      (rel_run entry address line k (places.Rows entry address line before') (places.Rows entry address line (before' ++ row ∷ [])) row
      (flat_map (rel_text tracked.names) more ++ rest) refl lines.0 (λ terms c. refl) lines.0.rises refl
      (rows_run entry address line (k + 1) all (before' ++ row ∷ []) more rest (append_assoc before' (row ∷ []) more ∙ is) fine lines.1 later))

  pub state_run : (entry address line k : ℕ) (state : PointState) (rest : List ℕ) → AreRowsAtState tracked.names entry state
      → ((row : List ℕ) → IsRowThere tracked.names entry row → IsLineThere tracked.names entry row)
      → GoesOn (told_here entry address state) rest
      → IsJudged (parts_of 10 (state_text tracked.names state ++ rest)) k (draft (places.Point entry address line)) r
  state_run entry address line k states.Unreached rest fine line_there later =
      judge_line k (draft (places.Point entry address line)) (told_here entry address states.Unreached) Unreached rest r tt
      (All-from_recursion (λ b. eqb b 10 ≡ false) (codes "unreached") (refl, (refl, (refl, (refl, (refl, (refl, (refl, (refl, (refl, tt))))))))))
      (other_next k (draft (places.Point entry address line)) (draft (places.Point entry address line)) (told_here entry address states.Unreached) Unreached refl
      (record { fine = tt; told_so = refl }) refl tt tt refl)
      (later (k + 1) (told_here entry address states.Unreached) (record { fine = tt; told_so = refl }))
  state_run entry address line k (states.Rows []) rest fine line_there later =
      judge_line k (draft (places.Point entry address line)) (told_here entry address (states.Rows [])) NoRows rest r tt
      (All-from_recursion (λ b. eqb b 10 ≡ false) (codes "none") (refl, (refl, (refl, (refl, tt)))))
      (other_next k (draft (places.Point entry address line)) (draft (places.Point entry address line)) (told_here entry address (states.Rows [])) NoRows refl
      (record { fine = tt; told_so = refl }) refl tt tt refl)
      (later (k + 1) (told_here entry address (states.Rows [])) (record { fine = tt; told_so = refl }))
  state_run entry address line k (states.Rows (row ∷ rows)) rest fine line_there later =
      let there = each_line (row ∷ rows) (rows_there tracked.names entry (row ∷ rows) fine.basis fine.named fine.seen) in
      subst (λ (xs : List ℕ). IsJudged (parts_of 10 xs) k (draft (places.Point entry address line)) r)
      (sym (append_assoc (rel_text tracked.names row) (flat_map (rel_text tracked.names) rows) rest))
      (rel_run entry address line k (places.Point entry address line) (places.Rows entry address line (row ∷ [])) row
      (flat_map (rel_text tracked.names) rows ++ rest) refl there.0 (λ terms c. refl) there.0.rises refl
      (rows_run entry address line (k + 1) (row ∷ rows) (row ∷ []) rows rest refl fine there.1 later))
    where
      each_line : (rs : List (List ℕ)) → AllByRecursion (IsRowThere tracked.names entry) rs
          → AllByRecursion (IsLineThere tracked.names entry) rs
      each_line [] all = tt
      each_line (x ∷ rs) all = (line_there x all.0, each_line rs all.1)

  -- a point's line, and what is told there
  pub point_run : (place : Place) (entry address k : ℕ) (state : PointState) (d : Draft) (rest : List ℕ)
      → Closes d (draft place) → entry_at place ≡ entry
      → address < 2 ^ 64 → is_allowed_at version place (At address) ≡ true → IsOrderedAt (draft place) place (At address)
      → AreRowsAtState tracked.names entry state
      → ((row : List ℕ) → IsRowThere tracked.names entry row → IsLineThere tracked.names entry row)
      → GoesOn (told_here entry address state) rest
      → IsJudged (parts_of 10 (point_text tracked.names (at entry address state) ++ rest)) k d r
  point_run place entry address k state d rest closes procedure small allowed ordered fine line_there later =
      subst (λ (xs : List ℕ). IsJudged (parts_of 10 xs) k d r)
      (sym (append_assoc (line_text (At address)) nl (state_text tracked.names state ++ rest)) ∙ sym (append_assoc (line_text (At address) ++ nl) (state_text tracked.names state) rest))
      (judge_line k d (draft (places.Point entry address k)) (At address) (state_text tracked.names state ++ rest) r small (at_clean address small)
      (other_next k d (draft place) (draft (places.Point entry address k)) (At address) refl closes allowed tt ordered
      (ap (λ (e : ℕ). draft (places.Point e address k)) (sym procedure)))
      (state_run entry address k (k + 1) state rest fine line_there later))
