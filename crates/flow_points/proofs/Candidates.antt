-- What a finished search offers as causes: the one that the start has, and the one that each entry has. Each is a cause.
use Rattle.std.proofs.Common.{◌≡◌, ℕ, List, ◌∷◌, map, Bool, true, false, Option, None, Some, option_and_then, Result, Ok, Err, Contains, refl, sym, ap, subst, ◌∙◌, inl, inr, if◌then◌else◌}
use Rattle.std.specs.Map.{lookup}
use Rattle.std.proofs.lemmas.List.Elements.{All-contains}
use Rattle.std.proofs.lemmas.Map.Views.{Contains-from_lookup}
use Rattle.flow_points.specs.Flows.{Fetches, IsSecondHalf, Judged}
use Rattle.flow_points.specs.Walks.{FlowWalk, at_start, begin, by_flow, onward, start}
use Rattle.flow_points.specs.Refusals.{HasCause, into_pair, there}
use Rattle.flow_points.specs.Sites.{AreAllSites, IsSite}
use Rattle.flow_points.specs.Causes.{cause_in, cause_of, flow_cause, pair_cause, same_point}
use Rattle.flow_points.specs.declared.code_points.Point.{Point}
use Rattle.flow_points.specs.declared.code_points.CodePoint.{CodePoint}
use Rattle.flow_points.specs.declared.code_points.Site.{Site}
use Rattle.refusals.specs.declared.flow.FlowRefusal.{FlowRefusal}
use Rattle.refusals.specs.declared.flow.FlowRefusal.TheVariants.{IntoPair}
use Rattle.flow_points.proofs.AllReached.{all_reached, entry_of, is_site}
use Rattle.flow_points.proofs.Entering.{EntersPair, flow_cause_is}
use Rattle.flow_points.proofs.Lists.{cons_cases, from_map}
use Rattle.flow_points.proofs.SamePoint.{same}
use Rattle.flow_points.proofs.SiteFacts.{site_cause, site_code, site_flow}

abbrev pub candidates : List (Point × Site) → ℕ → List (Option FlowRefusal)
candidates entries entry = pair_cause entries (start entry) ∷ map (λ e. cause_of entries e.1) entries

module _ (fetches : Fetches) (entry : ℕ) (entries : List (Point × Site)) (all : AreAllSites fetches entry entries) where
  pair_is : (p : Point) (c : FlowRefusal) → pair_cause entries p ≡ Some c → IsSecondHalf fetches p.address × (c ≡ IntoPair p.address)
  pair_is p c = by (lookup (same_point p) entries) (λ s e. (entry_at s e).half.0)
    where
      entry_at : (s : Site) → lookup (same_point p) entries ≡ Some s → IsSite fetches p s
      entry_at s e = is_site fetches entry entries p s all.sites (Contains-from_lookup same p s entries e)

      by : (o : Option Site) → ((s : Site) → o ≡ Some s → s.ends_pair ≡ true → IsSecondHalf fetches p.address)
          → option_and_then (λ (s : Site). if s.ends_pair then Some (IntoPair p.address) else None) o ≡ Some c
          → IsSecondHalf fetches p.address × (c ≡ IntoPair p.address)
      by None half e = cc
      by (Some s) half e = on s.ends_pair (half s refl) e
        where
          on : (b : Bool) → (b ≡ true → IsSecondHalf fetches p.address) → (if b then Some (IntoPair p.address) else None) ≡ Some c
              → IsSecondHalf fetches p.address × (c ≡ IntoPair p.address)
          on true h d = (h refl, cc)
          on false h d = cc

  pub pair_found : (p : Point) → FlowWalk fetches entry p → IsSecondHalf fetches p.address → pair_cause entries p ≡ Some (IntoPair p.address)
  pair_found p walk half =
      let found = entry_of entries p (all_reached fetches entry entries all p walk) in
      let ends = (is_site fetches entry entries p found.0 all.sites found.2).half.1 half in
      ap (option_and_then (λ (s : Site). if s.ends_pair then Some (IntoPair p.address) else None)) found.1
      ∙ ap (λ (b : Bool). if b then Some (IntoPair p.address) else None) ends

  -- each candidate is a cause
  pub is_cause : (c : FlowRefusal) → Contains (candidates entries entry) (Some c) → (p : Point) × FlowWalk fetches entry p × HasCause fetches entry p c
  is_cause c h =
      elim (cons_cases _ _ (Some c) h) [
        | inl e ↦ let half = pair_is (start entry) c e in (start entry, begin (start entry) refl, into_pair (at_start refl) half.0 half.1)
        | inr k ↦ let found = from_map (λ (e : Point × Site). cause_of entries e.1) entries (Some c) k in
            of_entry found.0.0 found.0.1 found.1 found.2
      ]
    where
      of_pair : (p : Point) (s : Site) (code : CodePoint) → Contains entries (p, s) → s.code ≡ Ok code → EntersPair entries p code.flow c
          → (q : Point) × FlowWalk fetches entry q × HasCause fetches entry q c
      of_pair p s code there' is pair =
          let walk = All-contains (λ (d : Point × Site). FlowWalk fetches entry d.0) entries (p, s) all.sites.reached there' in
          let has = site_flow fetches p s code (is_site fetches entry entries p s all.sites there') is in
          let half = pair_is pair.to c pair.cause in
          (pair.to, onward p pair.to code.flow walk has pair.reached, into_pair (by_flow p code.flow walk has pair.enters) half.0 half.1)

      of_entry : (p : Point) (s : Site) → Contains entries (p, s) → cause_of entries s ≡ Some c
          → (q : Point) × FlowWalk fetches entry q × HasCause fetches entry q c
      of_entry p s there' = by s.code refl
        where
          by : (r : Result CodePoint FlowRefusal) → s.code ≡ r → cause_in entries r ≡ Some c
              → (q : Point) × FlowWalk fetches entry q × HasCause fetches entry q c
          by (Ok code) is e =
              let same = (site_code fetches p s code (is_site fetches entry entries p s all.sites there') is).0 in
              of_pair p s code there' is (flow_cause_is entries p code.flow c (ap (λ (q : Point). flow_cause entries q code.flow) (sym same) ∙ e))
          by (Err cause) is e =
              let same : cause ≡ c = cc in (
                p,
                All-contains (λ (d : Point × Site). FlowWalk fetches entry d.0) entries (p, s) all.sites.reached there',
                there (subst (λ (x : FlowRefusal). Judged fetches p.address (Err x)) same
                    (site_cause fetches p s cause (is_site fetches entry entries p s all.sites there') is)),
              )
