-- Points in ascending order.
use Rattle.std.proofs.Common.{◌≡◌, ℕ, ◌+◌, ◌<◌, List, [], ◌∷◌, length, get_or, slice_get, Ok, Err, AllPairs, Contains, IsSomeAnd, sym, subst, ◌∙◌, inl, inr, arith}
use Rattle.std.specs.Ordering.{is_lt}
use Rattle.std.specs.declared.cmp.Ordering.TheVariants.{Equal}
use Rattle.std.specs.List.{IsDistinct}
use Rattle.std.specs.List.Sorted.{IsBinarySearchResult, IsSorted, IsSortedBy}
use Rattle.std.proofs.lemmas.Bool.{cases_lt}
use Rattle.std.proofs.lemmas.Cmp.{tied_itself}
use Rattle.std.proofs.lemmas.List.{get_or-map, length-map}
use Rattle.std.proofs.lemmas.List.Sorted.{ranks_by, searchable_from_sorted, sorted_far}
use Rattle.std.proofs.lemmas.Map.Made.{AllPairs-from_IsDistinct}
use Rattle.std.proofs.lemmas.Option.{slice_get-get_or}
use Rattle.flow_points.specs.Causes.{same_point}
use Rattle.flow_points.specs.PointLists.{IsBefore, places_of, point_cmp}
use Rattle.flow_points.specs.declared.code_points.Point.{Point}
use Rattle.flow_points.specs.declared.code_points.CodePoint.{CodePoint}
use Rattle.flow_points.proofs.Comparing.{total, equal_is, before_of, behind_of}
use Rattle.flow_points.proofs.SamePoint.{tells}

pub ascending : (points : List CodePoint) → IsSorted point_cmp (places_of points) → IsDistinct same_point (places_of points)
    → AllPairs (λ c d. IsBefore c.point d.point) points
ascending points sorted distinct =
    λ i j d lt below.
    let within : j < length (places_of points) = omega (arith, length-map points (λ (c : CodePoint). c.point)) in
    let far = sorted_far (λ p q. is_lt (point_cmp p q)) (ranks_by total (λ (p : Point). p)) (places_of points) sorted i j d.point (omega arith) within in
    let apart = AllPairs-from_IsDistinct tells (places_of points) distinct i j d.point lt within in
    let first = get_or-map (λ (c : CodePoint). c.point) points i d d.point (omega arith) in
    let second = get_or-map (λ (c : CodePoint). c.point) points j d d.point below in
    subst (λ (p : Point). IsBefore p (get_or points j d).point) first
    (subst (λ (p : Point). IsBefore (get_or (places_of points) i d.point) p) second
    (before_of (get_or (places_of points) i d.point) (get_or (places_of points) j d.point) far apart))

pub some_item : {X : Type 0} (xs : List X) (i : ℕ) → i < length xs → X
some_item [] i lt = absurd (omega arith)
some_item (x ∷ xs) i lt = x

-- what a search in ascending points finds
pub found : (points : List CodePoint) (p : Point) (i : ℕ) → i < length points
    → IsBinarySearchResult (λ c. point_cmp c.point p) points (Ok i) → IsSomeAnd (slice_get points i) (λ c. c.point ≡ p)
found points p i lt at =
    let d : CodePoint = some_item points i lt in
    subst (λ o. IsSomeAnd o (λ c. c.point ≡ p)) (sym (slice_get-get_or points i d lt)) (equal_is (get_or points i d).point p (at d))

sorted_points : (points : List CodePoint) → AllPairs (λ c d. IsBefore c.point d.point) points
    → IsSortedBy (λ c d. is_lt (point_cmp c.point d.point)) points
sorted_points points up k d low below =
    behind_of (get_or points k d).point (get_or points (k + 1) d).point (up k (k + 1) d (omega arith) below)

pub absent : (points : List CodePoint) (p : Point) (i : ℕ) → AllPairs (λ c d. IsBefore c.point d.point) points
    → IsBinarySearchResult (λ c. point_cmp c.point p) points (Err i) → Contains (places_of points) p → ⊥
absent points p i up at there =
    let within : there.0 < length points = omega (arith, there.1, length-map points (λ (c : CodePoint). c.point)) in
    let d : CodePoint = some_item points there.0 within in
    let place = at (searchable_from_sorted total (λ (c : CodePoint). c.point) points p (sorted_points points up)) in
    let here : (get_or points there.0 d).point ≡ p = sym (get_or-map (λ (c : CodePoint). c.point) points there.0 d p within) ∙ there.2 in
    let equal : point_cmp (get_or points there.0 d).point p ≡ Equal = subst (λ (q : Point). point_cmp q p ≡ Equal) (sym here) (tied_itself total p) in
    elim (cases_lt there.0 i) [
      | inl h ↦ let less = place.0 there.0 d (omega arith) h in cc
      | inr h ↦ let greater = place.1 there.0 d h within in cc
    ]
