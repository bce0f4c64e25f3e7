-- The causes that a finished search has found are those there are.
use Rattle.std.proofs.Common.{◌≡◌, ◌≤◌, ℕ, List, [], ◌∷◌, map, Option, None, Some, Result, Ok, Err, Contains, refl, sym, ap, subst, ◌∙◌, arith}
use Rattle.std.proofs.lemmas.List.Elements.{All-contains, Contains-append_right, Contains-get_or}
use Rattle.flow_points.specs.Walks.{FlowWalk, at_start, by_flow, start}
use Rattle.flow_points.specs.Refusals.{HasCause, IsFirstCause, into_pair, there}
use Rattle.flow_points.specs.Flows.{Fetches}
use Rattle.flow_points.specs.Sites.{AreAllSites}
use Rattle.flow_points.specs.Causes.{cause_in, cause_of, flow_cause, first_cause_of, pair_cause}
use Rattle.flow_points.specs.declared.code_points.Point.{Point}
use Rattle.flow_points.specs.declared.code_points.CodePoint.{CodePoint}
use Rattle.flow_points.specs.declared.code_points.Flow.{Flow}
use Rattle.flow_points.specs.declared.code_points.Site.{Site}
use Rattle.refusals.specs.declared.flow.FlowRefusal.{FlowRefusal}
use Rattle.flow_points.proofs.AllReached.{all_reached, code_of, entry_of, is_site, not_both}
use Rattle.flow_points.proofs.Candidates.{candidates, is_cause, pair_found}
use Rattle.flow_points.proofs.Entering.{flow_cause_has}
use Rattle.flow_points.proofs.Lists.{Contains-map}
use Rattle.flow_points.proofs.OneOutcome.{judged_once}
use Rattle.flow_points.proofs.Ranks.{NotBefore, rank, rank_number, rank_address}
use Rattle.flow_points.proofs.SiteFacts.{site_cause, site_code, site_flow}
use Rattle.flow_points.proofs.Soonest.{soonest_first, soonest_none, soonest_there}

module _ (fetches : Fetches) (entry : ℕ) (entries : List (Point × Site)) (all : AreAllSites fetches entry entries) where
  in_map : (p : Point) (s : Site) (c : FlowRefusal) → Contains entries (p, s) → cause_of entries s ≡ Some c → Contains (candidates entries entry) (Some c)
  in_map p s c there' e =
      Contains-append_right (pair_cause entries (start entry) ∷ []) (map (λ d. cause_of entries d.1) entries) (Some c)
      (subst (Contains (map (λ (d : Point × Site). cause_of entries d.1) entries)) e
      (Contains-map (λ (d : Point × Site). cause_of entries d.1) entries (p, s) there'))

  -- for each cause some candidate is no later
  caused : (p : Point) (c : FlowRefusal) → FlowWalk fetches entry p → HasCause fetches entry p c
      → (d : FlowRefusal) × Contains (candidates entries entry) (Some d) × (rank d ≤ rank c)
  caused p c walk (there judged) =
      let found = entry_of entries p (all_reached fetches entry entries all p walk) in
      let is = is_site fetches entry entries p found.0 all.sites found.2 in
      let offered = by found.0 found.2 (λ code e. not_both fetches p.address code.flow c (site_flow fetches p found.0 code is e) judged)
      (λ cause e. judged_once fetches p.address (Err cause) (Err c) (site_cause fetches p found.0 cause is e) judged) found.0.code refl in
      (c, offered, omega arith)
    where
      by : (s : Site) → Contains entries (p, s) → ((code : CodePoint) → s.code ≡ Ok code → ⊥)
          → ((cause : FlowRefusal) → s.code ≡ Err cause → (let x : Result Flow FlowRefusal = Err cause in x ≡ Err c))
          → (r : Result CodePoint FlowRefusal) → s.code ≡ r → Contains (candidates entries entry) (Some c)
      by s at no_code same (Ok code) e = absurd (no_code code e)
      by s at no_code same (Err cause) e =
          let one = same cause e in
          let is : cause ≡ c = cc in
          in_map p s c at (ap (cause_in entries) e ∙ ap Some is)
  caused p c walk (into_pair (at_start e) half is) =
      let found = pair_found fetches entry entries all p walk half in (
        c,
        subst (Contains (candidates entries entry)) (ap (pair_cause entries) (sym e) ∙ found ∙ ap Some (sym is))
            (Contains-get_or (candidates entries entry) 0 None (omega arith)),
        omega arith,
      )
  caused p c walk (into_pair (by_flow from flow before has enters) half is) =
      let found = entry_of entries from (all_reached fetches entry entries all from before) in
      let site = is_site fetches entry entries from found.0 all.sites found.2 in
      let code = code_of fetches from found.0 flow site has in
      let same = (site_code fetches from found.0 code.0 site code.1).0 in
      let later = flow_cause_has entries from flow p c enters (pair_found fetches entry entries all p walk half ∙ ap Some (sym is)) in (
        later.cause,
        in_map from found.0 later.cause found.2 (ap (cause_in entries) code.1 ∙ (λ i. flow_cause entries (same i) (code.2 i)) ∙ later.is),
        later.low,
      )

  least : (c : FlowRefusal) → first_cause_of entries (start entry) ≡ Some c → (p : Point) (o : FlowRefusal) → FlowWalk fetches entry p
      → HasCause fetches entry p o → rank c ≤ rank o
  least c e p o walk h =
      let first = soonest_first (pair_cause entries (start entry)) (map (λ d. cause_of entries d.1) entries) c e in
      let (d, offered, low) = caused p o walk h in
      let below : rank c ≤ rank d = All-contains (NotBefore c) (candidates entries entry) (Some d) first offered in
      omega arith

  pub first_is : (c : FlowRefusal) → first_cause_of entries (start entry) ≡ Some c → IsFirstCause fetches entry c
  first_is c e =
      let found = is_cause fetches entry entries all c (soonest_there (pair_cause entries (start entry)) (map (λ d. cause_of entries d.1) entries) c e) in
      record {
        at = found.0;
        reached = found.1;
        bad = found.2;
        least_address = λ p o walk h. rank_address c o (least c e p o walk h);
        least_number = λ p o walk h. rank_number c o (least c e p o walk h);
      }

  pub none_bad : first_cause_of entries (start entry) ≡ None → (p : Point) (c : FlowRefusal) → FlowWalk fetches entry p → HasCause fetches entry p c → ⊥
  none_bad e p c walk h =
      let none = soonest_none (pair_cause entries (start entry)) (map (λ d. cause_of entries d.1) entries) e in
      let (d, offered, low) = caused p c walk h in
      let no = All-contains (λ (o : Option FlowRefusal). o ≡ None) (candidates entries entry) (Some d) none offered in
      cc
