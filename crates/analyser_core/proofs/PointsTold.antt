-- The points of a report, each with the relations at its point.
use Rattle.std.proofs.Common.{◌≡◌, ℕ, zero, suc, ◌+◌, ◌⊎◌, ◌∙◌, inl, inr, List, [], ◌∷◌, ◌++◌, length, get_or, slice_get, All, Option, Some, None, refl, ap, sym, subst, length-append, arith}
use Rattle.std.specs.Prelude.{IsSomeAnd, IsTrue, ◌↔◌}
use Rattle.row_modules.specs.Positions.{has}
use Rattle.affine_prog.specs.Programs.{owner_of, visible_in}
use Rattle.affine_lift.specs.Lifting.{IsLifted}
use Rattle.report_text.specs.Names.{IsSeenAt}
use Rattle.std.proofs.lemmas.Option.{slice_get_within, get_or_from_slice_get, slice_get-get_or}
use Rattle.affine_prog.specs.declared.Program.{Program}
use Rattle.flow_points.specs.PointLists.{FlowPoints, HasCode, IsBefore}
use Rattle.flow_points.specs.declared.code_points.CodePoint.{CodePoint}
use Rattle.flow_points.specs.declared.code_points.Point.{Point}
use Rattle.report_text.specs.declared.names.Name.{Name}
use Rattle.report_text.specs.declared.points.PointRows.{PointRows}
use Rattle.report_text.specs.Reports.{Ascend, AreRowsAtState, AreRowsAt}
use Rattle.report_text.specs.declared.points.PointState.{PointState}
use Rattle.analyser_core.specs.Reports.{TellsState, Tells}
use Rattle.analyser_core.specs.Told.{IsTold, AreTold}
use Rattle.analyser_core.proofs.RelationsTold.{IsSeenWhereVisible}

pub told_ascend : (program : Program) (points : FlowPoints) (names : List Name) (told : List PointRows) → HasCode points →
    AreTold program points names told → Ascend told
told_ascend program points names told code all i j d below within =
    let p = all i (get_or told i d) (slice_get-get_or told i d (omega arith)) in
    let q = all j (get_or told j d) (slice_get-get_or told j d within) in
    let first = get_or_from_slice_get points.points i p.code p.code p.at in
    let second = get_or_from_slice_get points.points j q.code p.code q.at in
    let order = code.are.ascending i j p.code below (slice_get_within points.points j q.code q.at) in
    let order_of : IsBefore p.code.point q.code.point = rw (first, second) at order in
    elim order_of [
      | inl h ↦ inl (omega (arith, h, p.tells.procedure, q.tells.procedure))
      | inr h ↦ inr (p.tells.procedure ∙ h.0 ∙ sym q.tells.procedure, omega (arith, h.1, p.tells.address, q.tells.address))
    ]

pub told_rows : (program : Program) (points : FlowPoints) (names : List Name) (told : List PointRows) → AreTold program points names told →
    All (AreRowsAt names) told
told_rows program points names told all k d below = (all k (get_or told k d) (slice_get-get_or told k d below)).rows

pub one_item : {X : Type 0} {x y : X} → Some x ≡ Some y → x ≡ y
one_item e = cc

-- an item of two lists stands in the first, or in the second
slice_get-joined : {X : Type 0} (xs ys : List X) (k : ℕ) (x : X) → slice_get (xs ++ ys) k ≡ Some x →
    (slice_get xs k ≡ Some x) ⊎ ((j : ℕ) × (k ≡ length xs + j) × (slice_get ys j ≡ Some x))
slice_get-joined [] ys k x e = inr (k, omega arith, e)
slice_get-joined (y ∷ xs) ys zero x e = inl e
slice_get-joined (y ∷ xs) ys (suc k) x e =
    elim (slice_get-joined xs ys k x e) [
      | inl h ↦ inl h
      | inr (j, is, h) ↦ inr (j, omega arith, h)
    ]

one_told : (P : ℕ → PointRows → Type 0) (u j : ℕ) (point q : PointRows) → P u point → slice_get (point ∷ []) j ≡ Some q → P (u + j) q
one_told P u zero point q told e = let at : u ≡ u + 0 = omega arith in subst (λ (i : ℕ). P i q) at (subst (P u) (one_item e) told)
one_told P u (suc j) point q told e = let within = slice_get_within (point ∷ []) (suc j) q e in absurd (omega arith)

-- what is told of each point is told of one more
pub told_more : (P : ℕ → PointRows → Type 0) (told : List PointRows) (u : ℕ) (point : PointRows) → length told ≡ u →
    ((k : ℕ) (q : PointRows) → slice_get told k ≡ Some q → P k q) → P u point → (k : ℕ) (q : PointRows) → slice_get (told ++ point ∷ []) k ≡ Some q → P k q
told_more P told u point size all one k q e =
    elim (slice_get-joined told (point ∷ []) k q e) [
      | inl h ↦ all k q h
      | inr (j, is, h) ↦ let at : u + j ≡ k = omega (arith, is, size) in subst (λ (i : ℕ). P i q) at (one_told P u j point q one h)
    ]

pub one_longer : (told new : List PointRows) (point : PointRows) (u : ℕ) → new ≡ told ++ point ∷ [] → length told ≡ u → length new ≡ u + 1
one_longer told new point u is size = omega (arith, ap length is, length-append told (point ∷ []), size)

pub some_code : (points : List CodePoint) (u : ℕ) (P : CodePoint → Type 0) → IsSomeAnd (slice_get points u) P → (c : CodePoint) × (slice_get points u ≡ Some c) × P c
some_code points u P h = by (slice_get points u) h
  where
    by : (o : Option CodePoint) → IsSomeAnd o P → (c : CodePoint) × (o ≡ Some c) × P c
    by None h = absurd h
    by (Some c) h = (c, refl, h)

-- what is visible at a node is seen in the procedure of its point
abbrev pub VisibleIsSeen : Type 0
VisibleIsSeen =
    (points : FlowPoints) (names : List Name) (program : Program) (u : ℕ) (code : CodePoint) (k : ℕ) → HasCode points → IsLifted points names program →
    slice_get points.points u ≡ Some code → IsTrue (has (visible_in program (owner_of program u)) k) ↔ IsSeenAt names code.point.proc_entry k

pub seen_there : (points : FlowPoints) (names : List Name) (program : Program) (u : ℕ) (p : Point) → VisibleIsSeen → HasCode points →
    IsLifted points names program → IsSomeAnd (slice_get points.points u) (λ c. p ≡ c.point) → IsSeenWhereVisible program u names p.proc_entry
seen_there points names program u p law code lifted there k below visible =
    let c = some_code points.points u (λ c. p ≡ c.point) there in
    let seen = (law points names program u c.0 k code lifted c.1).0 visible in
    let entry : p.proc_entry ≡ c.0.point.proc_entry = ap (λ (q : Point). q.proc_entry) c.2 in
    rw entry seen

pub point_told : (program : Program) (points : FlowPoints) (names : List Name) (u : ℕ) (p : Point) (state : PointState) →
    IsSomeAnd (slice_get points.points u) (λ c. p ≡ c.point) → TellsState program u state → AreRowsAtState names p.proc_entry state →
    IsTold program points names u (record { proc_entry = p.proc_entry; address = p.address; state = state })
point_told program points names u p state there tells rows =
    let c = some_code points.points u (λ c. p ≡ c.point) there in
    let is = c.2 in
    record {
      code = c.0;
      at = c.1;
      tells = record { procedure = ap (λ (q : Point). q.proc_entry) is; address = ap (λ (q : Point). q.address) is; state = tells };
      rows = rows;
    }

pub told_each : (program : Program) (points : FlowPoints) (names : List Name) (told : List PointRows) → AreTold program points names told →
    (u : ℕ) (code : CodePoint) (point : PointRows) → slice_get points.points u ≡ Some code → slice_get told u ≡ Some point → Tells program code u point
told_each program points names told all u code point at is =
    let p = all u point is in subst (λ (c : CodePoint). Tells program c u point) (one_item (sym p.at ∙ at)) p.tells
