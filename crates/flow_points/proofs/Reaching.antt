-- What the search for points keeps.
use Rattle.std.proofs.Common.{◌≡◌, ◌≢◌, ℕ, List, [], ◌∷◌, ◌++◌, length, false, is_some, Result, Ok, Err, OnOk, All, Contains, refl, sym, ap, subst, ◌∙◌, arith, length-append}
use Rattle.std.specs.List.{IsDistinct}
use Rattle.std.specs.Map.{keys_of, lookup}
use Rattle.std.proofs.lemmas.List.Elements.{All-map, All-push, Contains-append_left, Contains-get_or, Contains-push}
use Rattle.std.proofs.lemmas.List.Quantifiers.{all_pairs_push}
use Rattle.std.proofs.lemmas.Map.Entries.{length-keys_of}
use Rattle.std.proofs.lemmas.Map.Made.{AllPairs-from_IsDistinct}
use Rattle.std.proofs.lemmas.Map.Views.{IsSome-lookup_from_Contains}
use Rattle.flow_points.specs.Flows.{Fetches, HasFlow}
use Rattle.flow_points.specs.Walks.{FlowWalk, HasMoreThan, most_points, onward, successors_of}
use Rattle.flow_points.specs.Sites.{Adds, AreSites, HasSite, IsSite}
use Rattle.flow_points.specs.Causes.{same_point}
use Rattle.flow_points.specs.declared.code_points.Point.{Point}
use Rattle.flow_points.specs.declared.code_points.Site.{Site}
use Rattle.flow_points.specs.declared.code_points.Flow.{Flow}
use Rattle.flow_points.proofs.SamePoint.{laws, tells}
use Rattle.flow_points.proofs.Lists.{all_one, all_two}

pub reached_by : (fetches : Fetches) (entry : ℕ) (from to : Point) (flow is : Flow) → FlowWalk fetches entry from
    → HasFlow fetches from.address flow → flow ≡ is → Contains (successors_of from.proc_entry is) to → FlowWalk fetches entry to
reached_by fetches entry from to flow is walk has e there =
    onward from to is walk (subst (λ (f : Flow). HasFlow fetches from.address f) e has) there

pub keys_added : (old more : List (Point × Site)) → keys_of (old ++ more) ≡ keys_of old ++ keys_of more
keys_added [] more = refl
keys_added (e ∷ old) more = ap (λ ks. e.0 ∷ ks) (keys_added old more)

pub still_there : (old new more : List (Point × Site)) (p : Point) → new ≡ old ++ more → HasSite old p → HasSite new p
still_there old new more p e h =
    subst (λ ks. Contains ks p) (sym (ap keys_of e ∙ keys_added old more)) (Contains-append_left (keys_of old) (keys_of more) p h)

pub new_there : (old new : List (Point × Site)) (p : Point) (s : Site) → new ≡ old ++ (p, s) ∷ [] → HasSite new p
new_there old new p s e =
    subst (λ ks. Contains ks p) (sym (ap keys_of e ∙ keys_added old ((p, s) ∷ []))) (Contains-push (keys_of old) p)

pub one_more : (fetches : Fetches) (entry : ℕ) (old new : List (Point × Site)) (p : Point) (s : Site)
    → AreSites fetches entry old → (length old ≡ most_points → ⊥) → FlowWalk fetches entry p → IsSite fetches p s
    → new ≡ old ++ (p, s) ∷ [] → Adds fetches entry old new
one_more fetches entry old new p s are room walk is e =
    record {
      more = (p, s) ∷ [];
      after = e;
      sites = subst (AreSites fetches entry) (sym e) (record {
        reached = All-push (λ d. FlowWalk fetches entry d.0) old (p, s) are.reached walk;
        sites = All-push (λ d. IsSite fetches d.0 d.1) old (p, s) are.sites is;
        few = let below = are.few in omega (arith, length-append old ((p, s) ∷ []));
      });
    }

pub ok_always : {T E P : Type 0} (r : Result T E) → P → OnOk r P
ok_always (Ok x) h = h
ok_always (Err e) h = tt

on_ok : {T E A B : Type 0} (r : Result T E) → (A → B) → OnOk r A → OnOk r B
on_ok (Ok x) f h = f h
on_ok (Err e) f h = tt

pub one_there : {T E : Type 0} (r : Result T E) (new : List (Point × Site)) (p : ℕ) (flow is : Flow) (x : Point) → flow ≡ is
    → successors_of p is ≡ x ∷ [] → OnOk r (HasSite new x) → OnOk r (All (HasSite new) (successors_of p flow))
one_there r new p flow is x e s =
    on_ok r (λ h. subst (All (HasSite new)) (sym (ap (successors_of p) e ∙ s)) (all_one (HasSite new) x h))

pub two_there : {T E : Type 0} (r : Result T E) (fetches : Fetches) (entry : ℕ) (mid new : List (Point × Site)) (p : ℕ)
    (flow is : Flow) (x y : Point) → flow ≡ is → successors_of p is ≡ x ∷ y ∷ [] → HasSite mid x
    → Adds fetches entry mid new → OnOk r (HasSite new y) → OnOk r (All (HasSite new) (successors_of p flow))
two_there r fetches entry mid new p flow is x y e s there adds =
    on_ok r (λ h. subst (All (HasSite new)) (sym (ap (successors_of p) e ∙ s))
    (all_two (HasSite new) x y (still_there mid new adds.more x adds.after there) h))

-- a point that isn't there where there are as many as may be
pub more_points : (fetches : Fetches) (entry : ℕ) (entries : List (Point × Site)) (p : Point)
    → AreSites fetches entry entries → IsDistinct same_point (keys_of entries)
    → is_some (lookup (same_point p) entries) ≡ false → length entries ≡ most_points → FlowWalk fetches entry p
    → HasMoreThan fetches entry most_points
more_points fetches entry entries p are apart absent full walk =
    record {
      points = keys_of entries ++ p ∷ [];
      reached = All-push (FlowWalk fetches entry) (keys_of entries) p (All-map (FlowWalk fetches entry) (λ (e : Point × Site). e.0) entries are.reached) walk;
      apart = all_pairs_push (λ q r. q ≢ r) (keys_of entries) p (AllPairs-from_IsDistinct tells (keys_of entries) apart)
          (λ k d lt e. let there : HasSite entries p = subst (Contains (keys_of entries)) e (Contains-get_or (keys_of entries) k d lt) in
          let found = IsSome-lookup_from_Contains laws p entries there in cc);
      more = omega (arith, length-append (keys_of entries) (p ∷ []), length-keys_of entries);
    }
