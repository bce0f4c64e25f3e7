-- Points that walks reach and that a search has not found yet.
use Rattle.std.proofs.Common.{◌≡◌, ◌≢◌, ℕ, ◌+◌, ◌≤◌, List, ◌∷◌, length, true, false, Bool, inl, inr, ◌⊎◌, Result, Ok, Err, Some, IfOk, All, AllPairs, Contains, refl, sym, subst, arith}
use Rattle.std.specs.List.{list_any}
use Rattle.std.specs.Map.{keys_of}
use Rattle.std.proofs.lemmas.List.Elements.{All-cons, All-contains_itself, All-map, All-weaker}
use Rattle.std.proofs.lemmas.List.Kept.{AllPairs-cons}
use Rattle.std.proofs.lemmas.Map.Entries.{length-keys_of}
use Rattle.std.proofs.lemmas.Map.Views.{Contains-from_any, list_any-from_Contains}
use Rattle.flow_points.specs.Flows.{Fetches}
use Rattle.flow_points.specs.Walks.{FlowWalk, HasMoreThan, begin, most_points, onward, start, successors_of}
use Rattle.flow_points.specs.Sites.{AreAllSites, AreSites, HasSite, HasSuccessors, IsSite}
use Rattle.flow_points.specs.Causes.{same_point}
use Rattle.flow_points.specs.declared.code_points.Point.{Point}
use Rattle.flow_points.specs.declared.code_points.CodePoint.{CodePoint}
use Rattle.flow_points.proofs.SamePoint.{laws, same}
use Rattle.flow_points.proofs.SiteFacts.{site_flow}
use Rattle.refusals.specs.declared.flow.FlowRefusal.{FlowRefusal}
use Rattle.never_neither.proofs.SitesThere.{Site}

there_or_not : (entries : List (Point × Site)) (p : Point) → HasSite entries p ⊎ (HasSite entries p → ⊥)
there_or_not entries p = by (list_any (same_point p) (keys_of entries)) refl
  where
    by : (b : Bool) → list_any (same_point p) (keys_of entries) ≡ b → HasSite entries p ⊎ (HasSite entries p → ⊥)
    by true is = inl (Contains-from_any same p (keys_of entries) is)
    by false is = inr (λ there. let found = list_any-from_Contains laws p (keys_of entries) there in cc)

abbrev pub AreApart : List (Point × Site) → Type 0
AreApart entries = AllPairs (λ p q. p ≢ q) (keys_of entries)

module _ (fetches : Fetches) (entry : ℕ) where
  -- a point that wasn't found
  pub record IsMissing (entries : List (Point × Site)) : Type 0 where
    pub at : Point
    pub reached : FlowWalk fetches entry at
    pub new : HasSite entries at → ⊥

  module _ (entries : List (Point × Site)) (sites : AreSites fetches entry entries) where
    found : (IsMissing entries → ⊥) → (p : Point) → FlowWalk fetches entry p → HasSite entries p
    found none p walk =
        elim (there_or_not entries p) [
          | inl there ↦ there
          | inr new ↦ absurd (none (record { at = p; reached = walk; new = new }))
        ]

    goes_on : (IsMissing entries → ⊥) → (e : Point × Site) → FlowWalk fetches entry e.0 × IsSite fetches e.0 e.1 → HasSuccessors entries (Some e)
    goes_on none e (walk, is) = by e.1.code refl
      where
        Behind : Result CodePoint FlowRefusal → Type 0
        Behind r = IfOk r (λ c. All (HasSite entries) (successors_of e.0.proc_entry c.flow))

        by : (r : Result CodePoint FlowRefusal) → e.1.code ≡ r → Behind e.1.code
        by (Ok c) code =
            subst Behind (sym code) (All-weaker (Contains (successors_of e.0.proc_entry c.flow)) (HasSite entries)
            (λ to goes. found none to (onward e.0 to c.flow walk (site_flow fetches e.0 e.1 c is code) goes))
            (successors_of e.0.proc_entry c.flow) (All-contains_itself (successors_of e.0.proc_entry c.flow)))
        by (Err cause) code = subst Behind (sym code) tt

    pub all_found : (IsMissing entries → ⊥) → AreAllSites fetches entry entries
    all_found none = record {
      sites = sites;
      begins = found none (start entry) (begin (start entry) refl);
      closed = λ k d within. goes_on none _ (sites.reached k d within, sites.sites k d within);
    }

    module _ (apart : AreApart entries) (more : IsMissing entries) where
      others : All (λ q. more.at ≢ q) (keys_of entries)
      others = All-weaker (Contains (keys_of entries)) (λ q. more.at ≢ q)
          (λ q there is. more.new (subst (Contains (keys_of entries)) (sym is) there)) (keys_of entries) (All-contains_itself (keys_of entries))

      pub too_many : most_points ≡ length entries → HasMoreThan fetches entry most_points
      too_many full = record {
        points = more.at ∷ keys_of entries;
        reached = All-cons (FlowWalk fetches entry) more.at (keys_of entries) more.reached
            (All-map (FlowWalk fetches entry) (λ (e : Point × Site). e.0) entries sites.reached);
        apart = AllPairs-cons (λ p q. p ≢ q) more.at (keys_of entries) others apart;
        more = omega (arith, full, length-keys_of entries);
      }

      pub apart_more : (s : Site) → AreApart ((more.at, s) ∷ entries)
      apart_more s = AllPairs-cons (λ p q. p ≢ q) more.at (keys_of entries) others apart

      pub sites_more : (s : Site) → IsSite fetches more.at s → length entries + 1 ≤ most_points → AreSites fetches entry ((more.at, s) ∷ entries)
      sites_more s is few = record {
        reached = All-cons (λ (e : Point × Site). FlowWalk fetches entry e.0) (more.at, s) entries more.reached sites.reached;
        sites = All-cons (λ (e : Point × Site). IsSite fetches e.0 e.1) (more.at, s) entries is sites.sites;
        few = omega (arith, few);
      }
