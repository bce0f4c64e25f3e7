-- What a settled table says: exactly the offsets.
use Rattle.std.proofs.Common.{◌≡◌, ℕ, ◌+◌, ◌*◌, ◌<◌, List, ◌∷◌, length, map, Contains, None, Some, slice_get, refl, sym, ap, subst, ◌∙◌, arith}
use Rattle.std.proofs.lemmas.List.{get_or-map, length-map}
use Rattle.std.proofs.lemmas.List.Elements.{All-contains}
use Rattle.std.proofs.lemmas.List.Kept.{Contains-dedup_nat}
use Rattle.std.proofs.lemmas.Option.{slice_get-get_or, slice_get_within}
use Rattle.flow_points.specs.Walks.{point}
use Rattle.flow_points.specs.PointLists.{FlowPoints, HasCode, entries_of}
use Rattle.flow_points.specs.declared.code_points.Point.{Point}
use Rattle.flow_points.specs.declared.code_points.CodePoint.{CodePoint}
use Rattle.flow_points.proofs.Cited.{Contains-map, item_there}
use Rattle.frame_offsets.specs.Frames.{AreOffsets, FrameWalk, IsOffset, at_entry, begin, goes_on, offsets_after, onward, source_of}
use Rattle.frame_offsets.specs.Tables.{AreSettled, IsJustified, IsOpenedAt, KnowsRow, known_at_entry, offset_known, one, known_at, passed_from, two}
use Rattle.frame_offsets.specs.declared.known.Known.{Known}
use Rattle.frame_offsets.specs.declared.known.Known.TheVariants.{Unmet, Offset, Nothing}
use Rattle.frame_offsets.proofs.EachWalked.{has_walk}
use Rattle.frame_offsets.proofs.Walking.{walk_proc, walk_there, well_formed}
use Rattle.frame_offsets.proofs.Covering.{Covers, entry_covers, knows_covers, passed_covers}
use Rattle.frame_offsets.proofs.Registers.{source_within}

numbered : (points : List CodePoint) (c : CodePoint) → Contains points c → (k : ℕ) × (slice_get points k ≡ Some c)
numbered points c at = (at.0, slice_get-get_or points at.0 c at.1 ∙ ap Some at.2)

module _ (points : FlowPoints) (table : List Known) (has : HasCode points)
    (are : AreSettled points table) where
  opened_at : (c : CodePoint) → Contains points.points c → IsOpenedAt points.points table c.point.proc_entry
  opened_at c there =
      let entry = Contains-map (λ (d : CodePoint). d.point.proc_entry) points.points c there in
      let listed = Contains-dedup_nat (entries_of points.points) c.point.proc_entry entry in
      All-contains (IsOpenedAt points.points table) points.procedures c.point.proc_entry are.opened
      (subst (λ (l : List ℕ). Contains l c.point.proc_entry) (sym has.are.procedures_are) listed)

  -- what is known allows the end of every walk
  covered : (p : ℕ) (walk : List CodePoint) (c : CodePoint) → FrameWalk points.points p walk c → (i : ℕ) → slice_get points.points i ≡ Some c
      → (r : ℕ) → r < 32 → Covers (known_at table i r) (offsets_after walk r)
  covered p walk c (begin w d e there is) i at r lt =
      let proc = ap (λ (q : Point). q.proc_entry) is in
      let entry = is ∙ (λ k. point (sym proc k) (sym proc k)) in
      subst (λ (x : List CodePoint). Covers (known_at table i r) (offsets_after x r)) (sym e)
      (knows_covers (known_at table i r) (known_at_entry r) (at_entry r) (opened_at d there i d at entry r lt) (entry_covers r))
  covered p walk c (onward w earlier from to before e there goes) i at r lt =
      let found = numbered points.points from (walk_there points.points p earlier from before) in
      let same = walk_proc points.points p earlier from before in
      let next = subst (λ (x : ℕ). Contains (goes_on x from.flow) to.point) (sym same) goes in
      let passed_on = All-contains (λ (q : Point). KnowsRow points.points table q (passed_from table found.0 from))
      (goes_on from.point.proc_entry from.flow) to.point (are.passed_on found.0 from found.1) next in
      let knows = passed_on i to at refl r lt in
      subst (λ (x : List CodePoint). Covers (known_at table i r) (offsets_after x r)) (sym e)
      (knows_covers (known_at table i r) _ (offsets_after (from ∷ earlier) r) knows
      (passed_covers (source_of from.instr from.flow r) (known_at table found.0) (offsets_after earlier)
      (λ q below. covered p earlier from before found.0 found.1 q below)
      (λ s is. source_within from.instr from.flow r s (well_formed points found.0 from has found.1) lt is)))

  exact_known : (c : CodePoint) (r : ℕ) (s : Known) → Contains points.points c → IsJustified points.points c r s
      → ((walk : List CodePoint) → FrameWalk points.points c.point.proc_entry walk c → Covers s (offsets_after walk r))
      → IsOffset points.points c r (offset_known s)
  exact_known c r Unmet there is covers = λ o h. let walk = has_walk points c has there in covers walk.0 walk.1
  exact_known c r (Offset o) there is covers = covers
  exact_known c r Nothing there (one walk walked none) covers = λ o h. let some = h walk walked in cc
  exact_known c r Nothing there (two v w m n walked other is is' apart) covers =
      λ o h. let first = h v walked in let second = h w other in apart (cc)

  pub settled : AreOffsets points.points (map offset_known table)
  settled =
      record {
        size = length-map table offset_known ∙ are.justified.size;
        exact = λ i c r at lt.
            let within : 32 * i + r < length table = (let below = slice_get_within points.points i c at in omega (arith, are.justified.size)) in
            subst (IsOffset points.points c r) (sym (get_or-map offset_known table (32 * i + r) Unmet None within))
            (exact_known c r (known_at table i r) (item_there points.points i c at) (are.justified.each i c r at lt)
            (λ walk walked. covered c.point.proc_entry walk c walked i at r lt));
      }
