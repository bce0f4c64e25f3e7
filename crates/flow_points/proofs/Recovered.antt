-- The list of points that a finished search gives.
use Rattle.std.proofs.Common.{◌≡◌, ℕ, nat_eq, List, length, None, Result, Ok, Err, All, Contains, refl, sym, ap, subst, ◌∙◌, arith}
use Rattle.std.specs.List.{IsDistinct, dedup}
use Rattle.std.specs.List.Sorted.{IsPermutation, IsSorted}
use Rattle.std.specs.Map.{keys_of}
use Rattle.std.proofs.lemmas.List.{length-map}
use Rattle.std.proofs.lemmas.List.Elements.{All-contains, All-contains_itself, All-map, All-weaker}
use Rattle.std.proofs.lemmas.List.Sorted.{All-permutation, Contains-permutation, IsPermutation-map, length_permutation}
use Rattle.std.proofs.lemmas.Map.Entries.{length-keys_of}
use Rattle.flow_points.specs.Walks.{FlowWalk, start}
use Rattle.flow_points.specs.Refusals.{IsRefusal, bad_point, there, too_many}
use Rattle.flow_points.specs.Flows.{Fetches, IsCode}
use Rattle.flow_points.specs.Sites.{AreAllSites, IsSite}
use Rattle.flow_points.specs.Causes.{codes_of, first_cause_of, same_point}
use Rattle.flow_points.specs.PointLists.{ArePoints, entries_of, places_of, point_cmp}
use Rattle.flow_points.specs.declared.code_points.Point.{Point}
use Rattle.flow_points.specs.declared.code_points.CodePoint.{CodePoint}
use Rattle.flow_points.specs.declared.code_points.Site.{Site}
use Rattle.refusals.specs.declared.flow.FlowRefusal.{FlowRefusal}
use Rattle.flow_points.proofs.AllReached.{all_reached, not_too_many}
use Rattle.flow_points.proofs.Ascent.{ascending}
use Rattle.flow_points.proofs.CausesFound.{none_bad}
use Rattle.flow_points.proofs.CodesFound.{IsGood, codes_good, codes_places}
use Rattle.flow_points.proofs.Lists.{Contains-map}
use Rattle.flow_points.proofs.SiteFacts.{site_cause, site_code}

module _ (fetches : Fetches) (entry : ℕ) (found : List (Point × Site)) (all : AreAllSites fetches entry found)
    (good : first_cause_of found (start entry) ≡ None) where
  pub no_refusal : (refusal : FlowRefusal) → IsRefusal fetches entry refusal → ⊥
  no_refusal refusal (too_many more is) = not_too_many fetches entry found all more
  no_refusal refusal (bad_point few first) = none_bad fetches entry found all good first.at refusal first.reached first.bad

  is_good : (e : Point × Site) → Contains found e → IsGood fetches e
  is_good e at = by e.1.code refl
    where
      site : IsSite fetches e.0 e.1
      site = All-contains (λ (d : Point × Site). IsSite fetches d.0 d.1) found e all.sites.sites at

      by : (r : Result CodePoint FlowRefusal) → e.1.code ≡ r → IsGood fetches e
      by (Ok c) is = let code = site_code fetches e.0 e.1 c site is in record { code = c; is = is; place = code.0; good = code.1 }
      by (Err cause) is =
          absurd (none_bad fetches entry found all good e.0 cause
          (All-contains (λ (d : Point × Site). FlowWalk fetches entry d.0) found e all.sites.reached at)
          (there (site_cause fetches e.0 e.1 cause site is)))

  module _ (sorted : List (Point × Site)) (moved : IsPermutation found sorted) where
    all_good : All (IsGood fetches) sorted
    all_good = All-permutation (IsGood fetches) found sorted moved (All-weaker (Contains found) (IsGood fetches) is_good found (All-contains_itself found))

    places : places_of (codes_of sorted) ≡ keys_of sorted
    places = codes_places fetches sorted all_good

    pub are_points : (points : List CodePoint) (procedures : List ℕ) → IsSorted point_cmp (keys_of sorted)
        → IsDistinct same_point (keys_of sorted) → points ≡ codes_of sorted → procedures ≡ dedup nat_eq (entries_of points)
        → ArePoints fetches entry (record { entry = entry; points = points; procedures = procedures })
    are_points points procedures up distinct are procs =
        let same : places_of points ≡ keys_of sorted = ap places_of are ∙ places in
        let walks = All-map (FlowWalk fetches entry) (λ (e : Point × Site). e.0) sorted
        (All-permutation (λ (e : Point × Site). FlowWalk fetches entry e.0) found sorted moved all.sites.reached) in
        record {
          entry_is = refl;
          all = λ p walk. subst (λ (ps : List Point). Contains ps p) (sym same)
              (Contains-permutation (keys_of found) (keys_of sorted) p (IsPermutation-map (λ (e : Point × Site). e.0) found sorted moved)
              (all_reached fetches entry found all p walk));
          only = All-weaker (Contains points) (λ c. FlowWalk fetches entry c.point)
              (λ c at. All-contains (FlowWalk fetches entry) (keys_of sorted) c.point walks
              (subst (λ (ps : List Point). Contains ps c.point) same (Contains-map (λ (d : CodePoint). d.point) points c at)))
              points (All-contains_itself points);
          code = subst (All (IsCode fetches)) (sym are) (codes_good fetches sorted all_good);
          ascending = ascending points (subst (IsSorted point_cmp) (sym same) up) (subst (IsDistinct same_point) (sym same) distinct);
          few = let below = all.sites.few in
              omega (arith, length-map points (λ (c : CodePoint). c.point), ap length same, length-keys_of sorted, length_permutation found sorted moved);
          procedures_are = procs;
        }
