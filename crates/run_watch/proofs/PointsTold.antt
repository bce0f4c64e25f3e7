-- What a search in a report finds is what it tells of a point.
use Rattle.std.proofs.Common.{◌≡◌, ℕ, ◌+◌, ◌<◌, true, false, cond, List, [], ◌∷◌, length, get_or, find, slice_get, Ok, Err, All, None, Some, refl, sym, subst, ap, ◌∙◌, inl, inr, arith}
use Rattle.std.specs.Ordering.{is_lt}
use Rattle.std.specs.declared.cmp.Ordering.TheVariants.{Equal}
use Rattle.std.specs.List.Sorted.{IsBinarySearchResult, IsSortedBy}
use Rattle.std.proofs.lemmas.Bool.{cases_lt, and_parts, and_from, false_from_ne_true, eqb-true, eq-eqb}
use Rattle.std.proofs.lemmas.Cmp.{tied_itself}
use Rattle.std.proofs.lemmas.Option.{get_or_from_slice_get, slice_get_within}
use Rattle.std.proofs.lemmas.List.Elements.{All-tail}
use Rattle.std.proofs.lemmas.List.Folds.{find_at}
use Rattle.std.proofs.lemmas.List.Sorted.{searchable_from_sorted}
use Rattle.std.proofs.lemmas.List.Sums.{position_or_len_is}
use Rattle.flow_points.specs.PointLists.{point_cmp}
use Rattle.flow_points.specs.declared.code_points.Point.{Point}
use Rattle.flow_points.proofs.Comparing.{total, equal_is, behind_of}
use Rattle.flow_points.proofs.SamePoint.{one_point}
use Rattle.report_text.specs.Reports.{IsBefore, Ascend}
use Rattle.report_text.specs.declared.points.PointRows.{PointRows}
use Rattle.run_watch.specs.Runs.{point_of, is_told_of}

others : (t : PointRows) (p : Point) → (point_of t ≡ p → ⊥) → is_told_of p t ≡ false
others t p other = false_from_ne_true (is_told_of p t) (λ h.
    let parts = and_parts _ _ h in other (one_point (point_of t) p (eqb-true _ _ parts.0) (eqb-true _ _ parts.1)))

itself : (t : PointRows) (p : Point) → point_of t ≡ p → is_told_of p t ≡ true
itself t p e =
    and_from _ _ (eq-eqb t.proc_entry p.proc_entry (ap (λ (q : Point). q.proc_entry) e))
    (eq-eqb t.address p.address (ap (λ (q : Point). q.address) e))

apart : (t u : PointRows) → IsBefore t u → point_of t ≡ point_of u → ⊥
apart t u (inl h) e = let f : t.proc_entry ≡ u.proc_entry = ap (λ (q : Point). q.proc_entry) e in omega (arith, f, h)
apart t u (inr h) e = let f : t.address ≡ u.address = ap (λ (q : Point). q.address) e in omega (arith, f, h.1)

pub told_there : (told : List PointRows) (p : Point) (i : ℕ) → Ascend told → i < length told
    → IsBinarySearchResult (λ t. point_cmp (point_of t) p) told (Ok i) → slice_get told i ≡ find (is_told_of p) told
told_there [] p i up within found = absurd (omega (arith, within))
told_there (d ∷ told) p i up within found =
    let xs : List PointRows = d ∷ told in
    let here : point_of (get_or xs i d) ≡ p = equal_is (point_of (get_or xs i d)) p (found d) in
    sym (find_at (is_told_of p) xs ∙ ap (slice_get xs) (position_or_len_is (is_told_of p) xs i d (omega (arith, within))
    (λ k before. others (get_or xs k d) p (λ e. apart (get_or xs k d) (get_or xs i d) (up k i d before within) (e ∙ sym here)))
    (λ inside. itself (get_or xs i d) p here)))

none_found : (told : List PointRows) (p : Point) → All (λ t. is_told_of p t ≡ false) told → find (is_told_of p) told ≡ None
none_found [] p none = refl
none_found (t ∷ told) p none =
    ap (λ b. cond b (Some t) (find (is_told_of p) told)) (none 0 t (omega arith))
    ∙ none_found told p (All-tail (λ u. is_told_of p u ≡ false) t told none)

pub told_nowhere : (told : List PointRows) (p : Point) (i : ℕ) → Ascend told
    → IsBinarySearchResult (λ t. point_cmp (point_of t) p) told (Err i) → None ≡ find (is_told_of p) told
told_nowhere told p i up found =
    let sorted : IsSortedBy (λ t u. is_lt (point_cmp (point_of t) (point_of u))) told =
    λ k d low below.
    behind_of (point_of (get_or told k d)) (point_of (get_or told (k + 1) d)) (up k (k + 1) d (omega arith) below) in
    let place = found (searchable_from_sorted total point_of told p sorted) in
    sym (none_found told p (λ k d within. others (get_or told k d) p (λ e.
    let equal : point_cmp (point_of (get_or told k d)) p ≡ Equal =
    subst (λ (q : Point). point_cmp q p ≡ Equal) (sym e) (tied_itself total p) in
    elim (cases_lt k i) [
      | inl h ↦ let less = place.0 k d (omega arith) h in cc
      | inr h ↦ let greater = place.1 k d h within in cc
    ])))

pub told_here : (told : List PointRows) (p : Point) (i : ℕ) (t : PointRows) → Ascend told → slice_get told i ≡ Some t → point_of t ≡ p
    → slice_get told i ≡ find (is_told_of p) told
told_here told p i t up is same =
    told_there told p i up (slice_get_within told i t is) (λ d.
    subst (λ (q : Point). point_cmp q p ≡ Equal) (sym (ap point_of (get_or_from_slice_get told i t d is) ∙ same)) (tied_itself total p))
