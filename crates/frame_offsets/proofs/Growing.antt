-- How a search goes on.
use Rattle.std.proofs.Common.{◌≡◌, ℕ, ◌+◌, ◌<◌, ◌≤◌, Bool, true, if◌then◌else◌, List, length, All, Contains, Some, slice_get, refl, sym, ap, subst, ◌∙◌, arith, inl, inr}
use Rattle.std.proofs.lemmas.Bool.{cases_eq}
use Rattle.flow_points.specs.PointLists.{FlowPoints, HasCode, places_of}
use Rattle.flow_points.specs.declared.code_points.Point.{Point}
use Rattle.flow_points.specs.declared.code_points.CodePoint.{CodePoint}
use Rattle.flow_points.proofs.Cited.{Contains-map, item_there}
use Rattle.frame_offsets.specs.Tables.{AreJustified, IsJustified, IsRowJoined, Knows, KnowsRow, joined, known_at, weight_of}
use Rattle.frame_offsets.specs.Searches.{Grows, IsSearch}
use Rattle.frame_offsets.specs.declared.known.Known.{Known}
use Rattle.frame_offsets.proofs.Justified.{joined_is, one_item}
use Rattle.frame_offsets.proofs.Knowing.{joined_knows, joined_knows_other, knows_self, knows_trans}
use Rattle.frame_offsets.proofs.Walking.{same_place}

pub grows_same : (points : List CodePoint) (table : List Known) (changed : List ℕ) → IsSearch points table changed
    → Grows points table changed table changed
grows_same points table changed search =
    record {
      search = search;
      above = λ j r lt. knows_self (known_at table j r);
      kept = λ j r lt none. refl;
      stay = λ j there. there;
      fell = omega arith;
    }

pub grows_more : (points : List CodePoint) (old mid new : List Known) (listed between changed : List ℕ)
    → Grows points old listed mid between → Grows points mid between new changed → Grows points old listed new changed
grows_more points old mid new listed between changed first second =
    record {
      search = second.search;
      above = λ j r lt. knows_trans (known_at new j r) (known_at mid j r) (known_at old j r) (second.above j r lt) (first.above j r lt);
      kept = λ j r lt none. second.kept j r lt none ∙ first.kept j r lt (λ there. none (second.stay j there));
      stay = λ j there. second.stay j (first.stay j there);
      fell = omega (arith, first.fell, second.fell);
    }

-- a point that knows a row knows it for ever
pub knows_after : (points : List CodePoint) (old new : List Known) (listed changed : List ℕ) (to : Point) (row : ℕ → Known)
    → Grows points old listed new changed → KnowsRow points old to row → KnowsRow points new to row
knows_after points old new listed changed to row grows knows j d at is r lt =
    knows_trans (known_at new j r) (known_at old j r) (row r) (grows.above j r lt) (knows j d at is r lt)

pub knows_nowhere : (points : List CodePoint) (table : List Known) (to : Point) (row : ℕ → Known)
    → (Contains (places_of points) to → ⊥) → KnowsRow points table to row
knows_nowhere points table to row none j d at is r lt =
    absurd (none (subst (Contains (places_of points)) is (Contains-map (λ (e : CodePoint). e.point) points d (item_there points j d at))))

-- what the row of one point says once it is joined with another
module _ (points : List CodePoint) (old new : List Known) (i : ℕ) (d : CodePoint) (row : ℕ → Known) (rose : Bool)
    (joins : IsRowJoined old new i row 32 rose) (at : slice_get points i ≡ Some d) where
  row_justified : ((r : ℕ) → r < 32 → IsJustified points d r (row r)) → AreJustified points old → AreJustified points new
  row_justified is are =
      record {
        size = joins.size ∙ are.size;
        each = λ j c r there lt. elim (cases_eq j i) [
          | inl same ↦
              let one = one_item points j i c d same there at in
              subst (IsJustified points c r) (sym (ap (λ (k : ℕ). known_at new k r) same ∙ joins.here r lt))
              (subst (λ (x : CodePoint). IsJustified points x r (joined (known_at old i r) (row r))) (sym one)
              (joined_is points d r (known_at old i r) (row r) (are.each i d r at lt) (is r lt)))
          | inr other ↦ subst (IsJustified points c r) (sym (joins.rest j r lt (λ e. absurd (other e)))) (are.each j c r there lt)
        ];
      }

  row_above : (j r : ℕ) → r < 32 → Knows (known_at new j r) (known_at old j r)
  row_above j r lt =
      elim (cases_eq j i) [
        | inl same ↦
            subst (λ (k : ℕ). Knows (known_at new k r) (known_at old k r)) (sym same)
            (subst (λ (x : Known). Knows x (known_at old i r)) (sym (joins.here r lt)) (joined_knows (known_at old i r) (row r)))
        | inr other ↦
            subst (λ (x : Known). Knows x (known_at old j r)) (sym (joins.rest j r lt (λ e. absurd (other e)))) (knows_self (known_at old j r))
      ]

  pub grows_row : (listed changed : List ℕ) → ((r : ℕ) → r < 32 → IsJustified points d r (row r)) → IsSearch points old listed
      → rose ≡ true → Contains changed i → ((j : ℕ) → Contains listed j → Contains changed j)
      → All (λ (k : ℕ). k < length points) changed → length changed ≤ length listed + 1 → Grows points old listed new changed
  grows_row listed changed is search risen there stay numbers longer =
      record {
        search = record { justified = row_justified is search.justified; numbers = numbers };
        above = row_above;
        kept = λ j r lt none. joins.rest j r lt (λ e. absurd (none (subst (Contains changed) (sym e) there)));
        stay = stay;
        fell =
            let lower : weight_of new + 1 ≤ weight_of old = subst (λ (b : Bool). weight_of new + (if b then 1 else 0) ≤ weight_of old) risen joins.fell in
            omega arith;
      }

pub knows_row : (points : FlowPoints) (old new : List Known) (i : ℕ) (d : CodePoint) (row : ℕ → Known) (rose : Bool)
    → IsRowJoined old new i row 32 rose → slice_get points.points i ≡ Some d → HasCode points → (to : Point) → d.point ≡ to
    → KnowsRow points.points new to row
knows_row points old new i d row rose joins at has to is j e there same r lt =
    let one = same_place points i j d e has at there (is ∙ sym same) in
    subst (λ (k : ℕ). Knows (known_at new k r) (row r)) one
    (subst (λ (x : Known). Knows x (row r)) (sym (joins.here r lt)) (joined_knows_other (known_at old i r) (row r)))
