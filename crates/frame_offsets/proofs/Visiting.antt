-- A visit of a point.
use Rattle.std.proofs.Common.{◌≡◌, ℕ, ◌<◌, List, [], ◌∷◌, All, Contains, Some, slice_get, refl, sym, subst, arith}
use Rattle.std.proofs.lemmas.List.Elements.{All-nil, All-weaker, Contains-get_or}
use Rattle.flow_points.specs.PointLists.{FlowPoints, HasCode}
use Rattle.flow_points.specs.declared.code_points.Point.{Point}
use Rattle.flow_points.specs.declared.code_points.Flow.{Flow}
use Rattle.flow_points.specs.declared.code_points.CodePoint.{CodePoint}
use Rattle.flow_points.proofs.Cited.{all_one, all_two}
use Rattle.frame_offsets.specs.Frames.{goes_on}
use Rattle.frame_offsets.specs.Tables.{AreJustified, IsJustified, Knows, KnowsRow, at_row, known_at, passed_from}
use Rattle.frame_offsets.specs.Searches.{IsRowJustified, IsSearch, JoinsTo, Visits}
use Rattle.frame_offsets.specs.declared.known.Known.{Known}
use Rattle.frame_offsets.proofs.Growing.{grows_more, grows_same, knows_after}
use Rattle.frame_offsets.proofs.Justified.{left_is, one_item}
use Rattle.frame_offsets.proofs.Registers.{source_within}
use Rattle.frame_offsets.proofs.Walking.{well_formed}

-- the point i with the code c, which leaves the row
module _ (points : FlowPoints) (has : HasCode points) (i : ℕ) (c : CodePoint) (at : slice_get points.points i ≡ Some c)
    (flow : Flow) (is : c.flow ≡ flow) (old row : List Known) (left : (r : ℕ) → r < 32 → at_row row r ≡ passed_from old i c r) where
  -- it is justified where a walk goes on
  row_left : (to : Point) → AreJustified points.points old → Contains (goes_on c.point.proc_entry flow) to
      → IsRowJustified points.points to (at_row row)
  row_left to are goes d there here r lt =
      let goes_there = subst (Contains (goes_on c.point.proc_entry c.flow)) (sym here)
      (subst (λ (f : Flow). Contains (goes_on c.point.proc_entry f) to) (sym is) goes) in
      subst (IsJustified points.points d r) (sym (left r lt))
      (left_is points.points c d there goes_there old i r are at
      (λ q z e. source_within c.instr c.flow r (q, z) (well_formed points i c has at) lt e))

  pub row_left_first : AreJustified points.points old → (to : Point) (rest : List Point) → goes_on c.point.proc_entry flow ≡ to ∷ rest
      → IsRowJustified points.points to (at_row row)
  row_left_first are to rest goes =
      row_left to are (subst (λ (l : List Point). Contains l to) (sym goes) (Contains-get_or (to ∷ rest) 0 to (omega arith)))

  pub row_left_second : AreJustified points.points old → (other to : Point) → goes_on c.point.proc_entry flow ≡ other ∷ to ∷ []
      → IsRowJustified points.points to (at_row row)
  row_left_second are other to goes =
      row_left to are (subst (λ (l : List Point). Contains l to) (sym goes) (Contains-get_or (other ∷ to ∷ []) 1 to (omega arith)))

  leaves : (new : List Known) → All (λ to. KnowsRow points.points new to (at_row row)) (goes_on c.point.proc_entry flow) → (d : CodePoint)
      → slice_get points.points i ≡ Some d → All (λ to. KnowsRow points.points new to (passed_from old i d)) (goes_on d.point.proc_entry d.flow)
  leaves new all d there =
      subst (λ (x : CodePoint). All (λ to. KnowsRow points.points new to (passed_from old i x)) (goes_on x.point.proc_entry x.flow))
      (one_item points.points i i c d refl at there)
      (subst (λ (f : Flow). All (λ to. KnowsRow points.points new to (passed_from old i c)) (goes_on c.point.proc_entry f)) (sym is)
      (All-weaker (λ to. KnowsRow points.points new to (at_row row)) (λ to. KnowsRow points.points new to (passed_from old i c))
      (λ to knows j e at_e here r lt. subst (Knows (known_at new j r)) (left r lt) (knows j e at_e here r lt))
      (goes_on c.point.proc_entry flow) all))

  module _ (listed : List ℕ) where
    pub visited_none : goes_on c.point.proc_entry flow ≡ [] → IsSearch points.points old listed → Visits points.points i old listed old listed
    visited_none none search =
        record {
          grows = grows_same points.points old listed search;
          passed_on = leaves old (subst (All (λ to. KnowsRow points.points old to (at_row row))) (sym none) (All-nil (λ q. KnowsRow points.points old q (at_row row))));
        }

    pub visited_one : (new : List Known) (changed : List ℕ) (to : Point) → goes_on c.point.proc_entry flow ≡ to ∷ []
        → JoinsTo points.points to (at_row row) old listed new changed → Visits points.points i old listed new changed
    visited_one new changed to goes joins =
        record {
          grows = joins.grows;
          passed_on = leaves new (subst (All (λ to. KnowsRow points.points new to (at_row row))) (sym goes) (all_one (λ q. KnowsRow points.points new q (at_row row)) to joins.knows));
        }

    pub visited_two : (mid new : List Known) (between changed : List ℕ) (to other : Point)
        → goes_on c.point.proc_entry flow ≡ to ∷ other ∷ [] → JoinsTo points.points to (at_row row) old listed mid between
        → JoinsTo points.points other (at_row row) mid between new changed → Visits points.points i old listed new changed
    visited_two mid new between changed to other goes first second =
        record {
          grows = grows_more points.points old mid new listed between changed first.grows second.grows;
          passed_on = leaves new (subst (All (λ to. KnowsRow points.points new to (at_row row))) (sym goes)
              (all_two (λ q. KnowsRow points.points new q (at_row row)) to other (knows_after points.points mid new between changed to (at_row row) second.grows first.knows) second.knows));
        }
