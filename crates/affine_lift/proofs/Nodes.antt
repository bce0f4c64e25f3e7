-- The numbers of points and of procedures.
use Rattle.std.proofs.Common.{◌≡◌, ◌∙◌, ℕ, suc, ◌<◌, ◌≤◌, get_or, IsSomeAnd, Bool, true, false, nat_eq, cond, List, [], ◌∷◌, ◌++◌, map, flat_map, take, append-nil, ◌+◌, length, slice_get, position, unwrap_or, Contains, Option, Some, refl, arith, sym, ap, subst}
use Rattle.std.specs.List.{dedup, dedup_from}
use Rattle.std.proofs.lemmas.List.{get_or-map, length-map, map_push, take_more}
use Rattle.std.proofs.lemmas.Option.{get_or_from_slice_get, slice_get_read, slice_get_within}
use Rattle.flow_points.specs.PointLists.{FlowPoints, HasCode, entries_of, places_of}
use Rattle.flow_points.specs.declared.code_points.Point.{Point}
use Rattle.flow_points.specs.declared.code_points.CodePoint.{CodePoint}
use Rattle.flow_points.proofs.Lists.{Contains-map, item_there}
use Rattle.flow_points.proofs.SamePoint.{itself, same}
use Rattle.std.proofs.lemmas.Grind.{flat_map-append}
use Rattle.frame_offsets.proofs.Walking.{get_some, same_place}
use Rattle.frame_offsets.specs.Frames.{AreOffsetsOf, IsOffset, offset_at}
use Rattle.affine_lift.specs.Lifting.{TellsOffsets, is_at, node_of, offset_from}
use Rattle.affine_lift.proofs.FirstPlaces.{position_is, position_none}

is_at_own : (p : Point) (c : CodePoint) → c.point ≡ p → is_at p c ≡ true
is_at_own p c is = rw is (itself p)

pub position_of_point : (points : FlowPoints) (i : ℕ) (c : CodePoint) (p : Point) → HasCode points → slice_get points.points i ≡ Some c → c.point ≡ p
    → position (is_at p) points.points ≡ Some i
position_of_point points i c p has at is =
    position_is (is_at p) points.points i c at (is_at_own p c is)
    (λ j d there passes. same_place points j i d c has there at (same d.point p passes ∙ sym is))

pub number_at : {X : Type 0} (xs : List X) (x : X) → Contains xs x → (i : ℕ) × (slice_get xs i ≡ Some x)
number_at xs x (i, below, is) = (i, slice_get_read xs (length xs) i x refl below (sym is))

-- the node of a point is its number
pub node_is : (points : FlowPoints) (i : ℕ) (c : CodePoint) (p : Point) → HasCode points → slice_get points.points i ≡ Some c → c.point ≡ p
    → node_of points p ≡ i
node_is points i c p has at is = ap (λ (o : Option ℕ). unwrap_or o 0) (position_of_point points i c p has at is)

pub no_node : (points : FlowPoints) (p : Point) → (Contains (places_of points.points) p → ⊥) → node_of points p ≡ 0
no_node points p absent =
    ap (λ (o : Option ℕ). unwrap_or o 0) (position_none (is_at p) points.points (λ j d there passes.
    absent (subst (λ (q : Point). Contains (places_of points.points) q) (same d.point p passes)
    (Contains-map (λ (c : CodePoint). c.point) points.points d (item_there points.points j d there)))))

one_of : (t : Bool) (xs ys : List ℕ) (n : ℕ) → length xs ≤ n → length ys ≤ n → length (cond t xs ys) ≤ n
one_of true xs ys n h k = h
one_of false xs ys n h k = k

dedup_from_short : (k : ℕ) (xs : List ℕ) → length (dedup_from nat_eq k xs) ≤ suc (length xs)
dedup_from_short k [] = omega arith
dedup_from_short k (x ∷ xs) =
    one_of (nat_eq x k) (dedup_from nat_eq k xs) (k ∷ dedup_from nat_eq x xs) _ (omega (arith, dedup_from_short k xs)) (omega (arith, dedup_from_short x xs))

dedup_short : (xs : List ℕ) → length (dedup nat_eq xs) ≤ length xs
dedup_short [] = omega arith
dedup_short (x ∷ xs) = dedup_from_short x xs

pub few_procedures : (points : FlowPoints) → HasCode points → length points.procedures ≤ length points.points
few_procedures points has =
    let short = dedup_short (entries_of points.points) in
    let same = ap length has.are.procedures_are in
    let each = length-map points.points (λ (c : CodePoint). c.point.proc_entry) in
    omega arith

pub entry_at : (points : FlowPoints) (i : ℕ) (p : Point) → IsSomeAnd (slice_get points.points i) (λ c. p ≡ c.point)
    → (i < length (entries_of points.points)) × (get_or (entries_of points.points) i 0 ≡ p.proc_entry)
entry_at points i p here =
    let found = get_some (slice_get points.points i) (λ (c : CodePoint). p ≡ c.point) here in
    let below = slice_get_within points.points i found.0 found.1 in
    let each = length-map points.points (λ (c : CodePoint). c.point.proc_entry) in (
      omega arith,
      get_or-map (λ (c : CodePoint). c.point.proc_entry) points.points i found.0 0 below
          ∙ ap (λ (c : CodePoint). c.point.proc_entry) (get_or_from_slice_get points.points i found.0 found.0 found.1)
          ∙ ap (λ (q : Point). q.proc_entry) (sym found.2),
    )

pub entries_more : (points : FlowPoints) (i : ℕ) (p : Point) (f : ℕ → ℕ) → IsSomeAnd (slice_get points.points i) (λ c. p ≡ c.point)
    → map f (take (i + 1) (entries_of points.points)) ≡ map f (take i (entries_of points.points)) ++ f p.proc_entry ∷ []
entries_more points i p f here =
    let entry = entry_at points i p here in
    ap (map f) (take_more (entries_of points.points) i 0 entry.0 ∙ ap (λ (a : ℕ). take i (entries_of points.points) ++ a ∷ []) entry.1)
    ∙ map_push f (take i (entries_of points.points)) p.proc_entry

pub flat_map_more : {X Y : Type 0} (f : X → List Y) (xs : List X) (i : ℕ) (x : X) → slice_get xs i ≡ Some x
    → flat_map f (take (i + 1) xs) ≡ flat_map f (take i xs) ++ f x
flat_map_more f xs i x at =
    ap (flat_map f) (take_more xs i x (slice_get_within xs i x at))
    ∙ flat_map-append f (take i xs) (get_or xs i x ∷ [])
    ∙ ap (λ y. flat_map f (take i xs) ++ y) (append-nil (f (get_or xs i x)) ∙ ap f (get_or_from_slice_get xs i x x at))

-- a table of offsets, as a function of points
pub table_tells : (points : FlowPoints) (offsets : List (Option ℕ)) → HasCode points → AreOffsetsOf points offsets
    → TellsOffsets points.points (offset_from points offsets)
table_tells points offsets has are c there r small =
    let found = number_at points.points c there in
    let node = node_is points found.0 c c.point has found.1 refl in
    subst (λ (n : ℕ). IsOffset points.points c r (offset_at offsets n r)) (sym node) (are.exact found.0 c r found.1 small)
