-- The points told so far.
use Rattle.std.proofs.Common.{◌≡◌, ◌∙◌, ℕ, ◌+◌, ◌≤◌, ◌<◌, inl, inr, List, [], ◌∷◌, ◌++◌, length, get_or, slice_get, All, Some, ap, sym, subst, arith}
use Rattle.std.specs.Prelude.{IsSomeAnd}
use Rattle.std.proofs.lemmas.Option.{slice_get_within, get_or_from_slice_get, slice_get-get_or}
use Rattle.affine_prog.specs.declared.Program.{Program}
use Rattle.flow_points.specs.PointLists.{FlowPoints, HasCode, IsBefore}
use Rattle.flow_points.specs.declared.code_points.CodePoint.{CodePoint}
use Rattle.flow_points.specs.declared.code_points.Point.{Point}
use Rattle.affine_lift.specs.declared.width.Width.TheVariants.{Narrow}
use Rattle.affine_lift.specs.Lifting.{IsLiftedBy}
use Rattle.affine_lift.proofs.Cited.{visible_seen}
use Rattle.report_text.specs.declared.names.Name.{Name}
use Rattle.report_text.specs.declared.points.PointRows.{PointRows}
use Rattle.report_text.specs.declared.points.PointState.{PointState}
use Rattle.report_text.specs.Reports.{Ascend}
use Rattle.analyser_core.proofs.PointsTold.{told_more, one_longer, one_item, some_code}
use Rattle.analyser_core.proofs.RelationsTold.{IsSeenWhereVisible}
use Rattle.narrow_words.specs.Rows.{AreNarrowRowsAt, AreNarrowRowsAtState}
use Rattle.narrow_words.specs.Reports.{TellsNarrow, TellsNarrowState}
use Rattle.narrow_words.specs.Made.{AreNarrowTold, IsNarrowTold}

-- the points among the nodes below n are told
pub record AreToldBelow (program : Program) (points : FlowPoints) (names : List Name) (n : ℕ) (told : List PointRows) : Type 0 where
  pub points_told : AreNarrowTold program points names told
  pub before : n ≤ length points.points → length told ≡ n
  pub behind : length points.points ≤ n → length told ≡ length points.points

module _ (program : Program) (points : FlowPoints) (names : List Name) (n : ℕ) (told : List PointRows) (t : AreToldBelow program points names n told) where
  pub told_one : (new : List PointRows) (point : PointRows) → n < length points.points → new ≡ told ++ point ∷ [] → IsNarrowTold program points names n point
      → AreToldBelow program points names (n + 1) new
  told_one new point below pushed is =
      let count = t.before (omega (arith, below)) in
      let longer = one_longer told new point n pushed count in
      record {
        points_told = rw pushed (told_more (IsNarrowTold program points names) told n point count t.points_told is);
        before = λ few. longer;
        behind = λ many. longer ∙ omega (arith, below, many);
      }

  pub told_no_more : length points.points ≤ n → AreToldBelow program points names (n + 1) told
  told_no_more past = record {
    points_told = t.points_told;
    before = λ few. absurd (omega (arith, few, past));
    behind = λ many. t.behind past;
  }

pub narrow_seen_there : (points : FlowPoints) (names : List Name) (program : Program) (u : ℕ) (p : Point) → HasCode points →
    IsLiftedBy Narrow points names program → IsSomeAnd (slice_get points.points u) (λ c. p ≡ c.point) → IsSeenWhereVisible program u names p.proc_entry
narrow_seen_there points names program u p code lifted there k below visible =
    let c = some_code points.points u (λ c. p ≡ c.point) there in
    let seen = (visible_seen {w = Narrow} points names program u c.0 k code lifted c.1).0 visible in
    let entry : p.proc_entry ≡ c.0.point.proc_entry = ap (λ (q : Point). q.proc_entry) c.2 in
    rw entry seen

pub narrow_point_told : (program : Program) (points : FlowPoints) (names : List Name) (u : ℕ) (p : Point) (state : PointState) →
    IsSomeAnd (slice_get points.points u) (λ c. p ≡ c.point) → TellsNarrowState program u state → AreNarrowRowsAtState names p.proc_entry state →
    IsNarrowTold program points names u (record { proc_entry = p.proc_entry; address = p.address; state = state })
narrow_point_told program points names u p state there tells rows =
    let c = some_code points.points u (λ c. p ≡ c.point) there in
    let is = c.2 in
    record {
      code = c.0;
      at = c.1;
      tells = record { procedure = ap (λ (q : Point). q.proc_entry) is; address = ap (λ (q : Point). q.address) is; state = tells };
      rows = rows;
    }

module _ (program : Program) (points : FlowPoints) (names : List Name) (told : List PointRows) (all : AreNarrowTold program points names told) where
  pub told_each : (u : ℕ) (code : CodePoint) (point : PointRows) → slice_get points.points u ≡ Some code → slice_get told u ≡ Some point
      → TellsNarrow program code u point
  told_each u code point at is =
      let p = all u point is in subst (λ (c : CodePoint). TellsNarrow program c u point) (one_item (sym p.at ∙ at)) p.tells

  pub told_rows : All (AreNarrowRowsAt names) told
  told_rows k d below = (all k (get_or told k d) (slice_get-get_or told k d below)).rows

  pub told_ascend : HasCode points → Ascend told
  told_ascend code i j d below within =
      let p = all i (get_or told i d) (slice_get-get_or told i d (omega arith)) in
      let q = all j (get_or told j d) (slice_get-get_or told j d within) in
      let first = get_or_from_slice_get points.points i p.code p.code p.at in
      let second = get_or_from_slice_get points.points j q.code p.code q.at in
      let order = code.are.ascending i j p.code below (slice_get_within points.points j q.code q.at) in
      let order_of : IsBefore p.code.point q.code.point = rw (first, second) at order in
      elim order_of [
        | inl h ↦ inl (omega (arith, h, p.tells.procedure, q.tells.procedure))
        | inr h ↦ inr (p.tells.procedure ∙ h.0 ∙ sym q.tells.procedure, omega (arith, h.1, p.tells.address, q.tells.address))
      ]
