-- Code has points, or is refused for its flow.
use Rattle.std.proofs.Common.{◌≡◌, ◌≢◌, ◌<◌, ℕ, ◌+◌, List, [], ◌∷◌, length, nat_eq, Option, None, Some, AllPairs, inl, inr, refl, ap, sym, subst₂, arith}
use Rattle.std.specs.List.{IsDistinct, dedup}
use Rattle.std.specs.List.Sorted.{IsSorted}
use Rattle.std.specs.Map.{keys_of}
use Rattle.std.proofs.lemmas.List.{get_or-map}
use Rattle.std.proofs.lemmas.Map.Entries.{length-keys_of}
use Rattle.std.proofs.lemmas.Map.Made.{IsDistinct-from_AllPairs}
use Rattle.elf_image.specs.declared.image.Image.{Image}
use Rattle.flow_points.specs.Flows.{Fetches, fetches_of}
use Rattle.flow_points.specs.Walks.{most_points, start}
use Rattle.flow_points.specs.Refusals.{IsFlowRefusal, IsRefusal, bad_point, too_many}
use Rattle.flow_points.specs.Sites.{AreAllSites}
use Rattle.flow_points.specs.Causes.{codes_of, first_cause_of, same_point}
use Rattle.flow_points.specs.PointLists.{ArePoints, FlowPoints, IsBefore, entries_of, point_cmp}
use Rattle.flow_points.specs.declared.code_points.Point.{Point}
use Rattle.flow_points.proofs.AllReached.{not_too_many}
use Rattle.flow_points.proofs.CausesFound.{first_is}
use Rattle.flow_points.proofs.Comparing.{behind_of}
use Rattle.flow_points.proofs.Recovered.{are_points}
use Rattle.flow_points.proofs.SamePoint.{tells}
use Rattle.refusals.specs.declared.flow.FlowRefusal.{FlowRefusal}
use Rattle.refusals.specs.declared.flow.FlowRefusal.TheVariants.{TooManyPoints}
use Rattle.analyser_core.specs.Accepted.{HasPoints}
use Rattle.never_neither.proofs.Searching.{all_sites}
use Rattle.never_neither.proofs.Missing.{AreApart}
use Rattle.never_neither.proofs.SitesThere.{Site}
use Rattle.never_neither.proofs.Sorting.{IsSortedOf, sort}

before_other : (p q : Point) → IsBefore p q → p ≢ q
before_other p q (inl less) e = let same = ap (λ (r : Point). r.proc_entry) e in omega (arith, less, same)
before_other p q (inr less) e = let same = ap (λ (r : Point). r.address) e in omega (arith, less.1, same)

some_item : {X : Type 0} (xs : List X) → 0 < length xs → X
some_item [] some = absurd (omega (arith, some))
some_item (x ∷ xs) some = x

-- what holds of the points of entries holds of their list, and the other way round
module _ (R : Point → Point → Type 0) (es : List (Point × Site)) where
  to_keys : AllPairs (λ (d e : Point × Site). R d.0 e.0) es → AllPairs R (keys_of es)
  to_keys pairs i j d less within =
      let inside : j < length es = omega (arith, within, length-keys_of es) in
      let c = some_item es (omega (arith, inside)) in
      subst₂ R (sym (get_or-map (λ (e : Point × Site). e.0) es i c d (omega (arith, less, inside))))
      (sym (get_or-map (λ (e : Point × Site). e.0) es j c d inside)) (pairs i j c less inside)

  from_keys : AllPairs R (keys_of es) → AllPairs (λ (d e : Point × Site). R d.0 e.0) es
  from_keys pairs i j d less within =
      subst₂ R (get_or-map (λ (e : Point × Site). e.0) es i d d.0 (omega (arith, less, within)))
      (get_or-map (λ (e : Point × Site). e.0) es j d d.0 within)
      (pairs i j d.0 less (omega (arith, within, length-keys_of es)))

module _ (fetches : Fetches) (entry : ℕ) (all : List (Point × Site)) (found : AreAllSites fetches entry all) (apart : AreApart all) where
  points_of : first_cause_of all (start entry) ≡ None → (points : FlowPoints) × ArePoints fetches entry points
  points_of good =
      let s : IsSortedOf all = sort all (from_keys (λ p q. p ≢ q) all apart) in
      let up : AllPairs IsBefore (keys_of s.sorted) = to_keys IsBefore s.sorted s.up in
      let sorted : IsSorted point_cmp (keys_of s.sorted) =
      λ k d low below. behind_of _ _ (up k (k + 1) d (omega arith) below) in
      let distinct : IsDistinct same_point (keys_of s.sorted) =
      IsDistinct-from_AllPairs tells (keys_of s.sorted) (λ i j d less within. before_other _ _ (up i j d less within)) in
      (_, are_points fetches entry all found good s.sorted s.moved (codes_of s.sorted) (dedup nat_eq (entries_of (codes_of s.sorted))) sorted distinct refl refl)

  pub refused_or_points : ((refusal : FlowRefusal) → IsRefusal fetches entry refusal → ⊥)
      → ((points : FlowPoints) → ArePoints fetches entry points → ⊥) → ⊥
  refused_or_points unrefused none = by (first_cause_of all (start entry)) refl
    where
      by : (o : Option FlowRefusal) → first_cause_of all (start entry) ≡ o → ⊥
      by None is = let points = points_of is in none points.0 points.1
      by (Some cause) is =
          unrefused cause (bad_point (not_too_many fetches entry all found) (first_is fetches entry all found cause is))

pub points_found : (image : Image) → ((refusal : FlowRefusal) → IsFlowRefusal image refusal → ⊥)
    → ((points : FlowPoints) → HasPoints image points → ⊥) → ⊥
points_found image unrefused none =
    all_sites (fetches_of image) image.entry (λ more. unrefused (TooManyPoints most_points) (too_many more refl))
    (λ all found apart. refused_or_points (fetches_of image) image.entry all found apart unrefused
    (λ points are. none points (record { accepted = unrefused; are = are })))
