-- What a finished search has found.
use Rattle.std.proofs.Common.{◌≡◌, ℕ, List, true, Option, Some, Result, Ok, Err, IfOk, All, Contains, is_some, refl, sym, subst, arith}
use Rattle.std.specs.Map.{keys_of, lookup}
use Rattle.std.proofs.lemmas.List.Elements.{All-contains}
use Rattle.std.proofs.lemmas.Map.Entries.{length-keys_of}
use Rattle.std.proofs.lemmas.Map.Made.{IsDistinct-from_AllPairs, length-le_from_is_member}
use Rattle.std.proofs.lemmas.Map.Views.{Contains-from_any, Contains-from_lookup, IsSome-lookup_from_Contains, list_any-from_Contains}
use Rattle.flow_points.specs.Flows.{Fetches, HasFlow, Judged}
use Rattle.flow_points.specs.Walks.{FlowWalk, HasMoreThan, begin, most_points, onward, successors_of}
use Rattle.flow_points.specs.Sites.{AreAllSites, AreSites, HasSite, HasSuccessors, IsSite}
use Rattle.flow_points.specs.Causes.{same_point}
use Rattle.flow_points.specs.declared.code_points.Point.{Point}
use Rattle.flow_points.specs.declared.code_points.CodePoint.{CodePoint}
use Rattle.flow_points.specs.declared.code_points.Flow.{Flow}
use Rattle.flow_points.specs.declared.code_points.Site.{Site}
use Rattle.refusals.specs.declared.flow.FlowRefusal.{FlowRefusal}
use Rattle.flow_points.proofs.OneOutcome.{judged_once, same_flow}
use Rattle.flow_points.proofs.SamePoint.{laws, same, tells}
use Rattle.flow_points.proofs.SiteFacts.{site_cause, site_flow}

some_value : {X : Type 0} (o : Option X) → is_some o ≡ true → (x : X) × (o ≡ Some x)
some_value (Some x) e = (x, refl)
some_value o e = cc

-- the entry of a point that was found
pub entry_of : (entries : List (Point × Site)) (p : Point) → HasSite entries p
    → (s : Site) × (lookup (same_point p) entries ≡ Some s) × Contains entries (p, s)
entry_of entries p there =
    let found = some_value (lookup (same_point p) entries) (IsSome-lookup_from_Contains laws p entries there) in
    (found.0, found.1, Contains-from_lookup same p found.0 entries found.1)

pub is_site : (fetches : Fetches) (entry : ℕ) (entries : List (Point × Site)) (p : Point) (s : Site)
    → AreSites fetches entry entries → Contains entries (p, s) → IsSite fetches p s
is_site fetches entry entries p s are there = All-contains (λ (e : Point × Site). IsSite fetches e.0 e.1) entries (p, s) are.sites there

pub not_both : (fetches : Fetches) (a : ℕ) (f : Flow) (cause : FlowRefusal) → HasFlow fetches a f → Judged fetches a (Err cause) → ⊥
not_both fetches a f cause h k = let e = judged_once fetches a (Ok f) (Err cause) h k in cc

-- the code of a point that was found, where it has a flow
pub code_of : (fetches : Fetches) (p : Point) (s : Site) (flow : Flow) → IsSite fetches p s → HasFlow fetches p.address flow
    → (c : CodePoint) × (s.code ≡ Ok c) × (c.flow ≡ flow)
code_of fetches p s flow is has = by s.code refl
  where
    by : (r : Result CodePoint FlowRefusal) → s.code ≡ r → (c : CodePoint) × (s.code ≡ Ok c) × (c.flow ≡ flow)
    by (Ok c) e = (c, e, same_flow c.flow flow (judged_once fetches p.address (Ok c.flow) (Ok flow) (site_flow fetches p s c is e) has))
    by (Err cause) e = absurd (not_both fetches p.address flow cause has (site_cause fetches p s cause is e))

goes_on : (entries : List (Point × Site)) (p : Point) (s : Site) (c : CodePoint) → s.code ≡ Ok c
    → HasSuccessors entries (Some (p, s)) → All (HasSite entries) (successors_of p.proc_entry c.flow)
goes_on entries p s c e h = subst (λ (r : Result CodePoint FlowRefusal). IfOk r (λ d. All (HasSite entries) (successors_of p.proc_entry d.flow))) e h

-- every point was found
pub all_reached : (fetches : Fetches) (entry : ℕ) (entries : List (Point × Site)) → AreAllSites fetches entry entries
    → (p : Point) → FlowWalk fetches entry p → HasSite entries p
all_reached fetches entry entries all p (begin to e) = subst (HasSite entries) (sym e) all.begins
all_reached fetches entry entries all p (onward from to flow walk has goes) =
    let found = entry_of entries from (all_reached fetches entry entries all from walk) in
    let code = code_of fetches from found.0 flow (is_site fetches entry entries from found.0 all.sites found.2) has in
    let next = goes_on entries from found.0 code.0 code.1
    (All-contains (λ (e : Point × Site). HasSuccessors entries (Some e)) entries (from, found.0) all.closed found.2) in
    All-contains (HasSite entries) (successors_of from.proc_entry code.0.flow) to next
    (subst (λ (f : Flow). Contains (successors_of from.proc_entry f) to) (sym code.2) goes)

-- and so there aren't too many
pub not_too_many : (fetches : Fetches) (entry : ℕ) (entries : List (Point × Site)) → AreAllSites fetches entry entries
    → HasMoreThan fetches entry most_points → ⊥
not_too_many fetches entry entries all more =
    let few = length-le_from_is_member laws more.points (keys_of entries)
    (IsDistinct-from_AllPairs tells more.points more.apart)
    (λ p h. list_any-from_Contains laws p (keys_of entries)
    (all_reached fetches entry entries all p (All-contains (FlowWalk fetches entry) more.points p more.reached (Contains-from_any same p more.points h)))) in
    let below = all.sites.few in
    let above = more.more in
    absurd (omega (arith, length-keys_of entries))
