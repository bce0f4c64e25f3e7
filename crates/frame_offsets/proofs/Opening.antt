-- The entries, opened one after the other, and the search as it goes on from there.
use Rattle.std.proofs.Common.{◌≡◌, ℕ, ◌+◌, ◌*◌, ◌<◌, List, [], ◌∷◌, ◌++◌, length, replicate, take, get_or, All, sym, ap, subst, ◌∙◌, arith}
use Rattle.std.proofs.lemmas.List.Elements.{All-more, All-weaker}
use Rattle.flow_points.specs.Walks.{point}
use Rattle.flow_points.specs.PointLists.{FlowPoints, HasCode}
use Rattle.flow_points.specs.declared.code_points.Point.{Point}
use Rattle.flow_points.specs.declared.code_points.CodePoint.{CodePoint}
use Rattle.frame_offsets.specs.Tables.{AreSettled, IsJustified, IsOpenedAt, Knows, at_row, known_at, known_at_entry}
use Rattle.frame_offsets.specs.Searches.{Grows, IsRowJustified, IsUnderWay, JoinsTo, Visits}
use Rattle.frame_offsets.specs.declared.known.Known.{Known}
use Rattle.frame_offsets.specs.declared.known.Known.TheVariants.{Unmet}
use Rattle.frame_offsets.proofs.Growing.{knows_after}
use Rattle.frame_offsets.proofs.Justified.{entry_is}
use Rattle.frame_offsets.proofs.PassedOn.{others_after, others_unmet, others_visited}

module _ (points : List CodePoint) (row : List Known) (says : (r : ℕ) → r < 32 → at_row row r ≡ known_at_entry r) where
  pub row_at_entry_is : (p : ℕ) → IsRowJustified points (point p p) (at_row row)
  row_at_entry_is p d there is r lt =
      let proc = ap (λ (q : Point). q.proc_entry) is in
      subst (IsJustified points d r) (sym (says r lt)) (entry_is points d r there (is ∙ (λ k. point (sym proc k) (sym proc k))))

  pub opened_more : (procedures : List ℕ) (i : ℕ) (mid new : List Known) (between changed : List ℕ) → i < length procedures
      → All (IsOpenedAt points mid) (take i procedures)
      → JoinsTo points (point (get_or procedures i 0) (get_or procedures i 0)) (at_row row) mid between new changed
      → All (IsOpenedAt points new) (take (i + 1) procedures)
  opened_more procedures i mid new between changed lt before joins =
      All-more (IsOpenedAt points new) procedures i 0 lt
      (All-weaker (IsOpenedAt points mid) (IsOpenedAt points new)
      (λ p. knows_after points mid new between changed (point p p) known_at_entry joins.grows) (take i procedures) before)
      (λ j d at is r below. subst (Knows (known_at new j r)) (says r below) (joins.knows j d at is r below))

module _ (points : FlowPoints) (has : HasCode points) where
  pub begun : (unmet table : List Known) (changed : List ℕ) → unmet ≡ replicate (32 * length points.points) Unmet
      → Grows points.points unmet [] table changed → All (IsOpenedAt points.points table) points.procedures → IsUnderWay points table changed
  begun unmet table changed is grows opened =
      record {
        search = grows.search;
        opened = opened;
        others = others_after points has unmet table [] changed grows (others_unmet points.points unmet is);
      }

  pub gone_on : (old new : List Known) (listed rest changed : List ℕ) (i : ℕ) → IsUnderWay points old listed → listed ≡ rest ++ i ∷ []
      → Visits points.points i old rest new changed → IsUnderWay points new changed
  gone_on old new listed rest changed i under_way is visits =
      record {
        search = visits.grows.search;
        opened = All-weaker (IsOpenedAt points.points old) (IsOpenedAt points.points new)
            (λ p. knows_after points.points old new rest changed (point p p) known_at_entry visits.grows) points.procedures under_way.opened;
        others = others_visited points old new listed rest changed i has under_way.others is visits;
      }

pub finished : (points : FlowPoints) (table : List Known) → IsUnderWay points table [] → AreSettled points table
finished points table under_way =
    record {
      justified = under_way.search.justified;
      opened = under_way.opened;
      passed_on = λ i c at. under_way.others i c at (λ there. omega (arith, there.1));
    }
