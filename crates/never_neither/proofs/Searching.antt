-- The points that walks reach are found, or are too many.
use Rattle.std.proofs.Common.{◌≡◌, ℕ, zero, suc, ◌+◌, List, [], ◌∷◌, length, inl, inr, refl, arith}
use Rattle.std.proofs.lemmas.List.Elements.{All-nil}
use Rattle.flow_points.specs.Flows.{Fetches}
use Rattle.flow_points.specs.Walks.{FlowWalk, HasMoreThan, most_points}
use Rattle.flow_points.specs.Sites.{AreAllSites, AreSites, IsSite}
use Rattle.flow_points.specs.declared.code_points.Point.{Point}
use Rattle.never_neither.proofs.Deciding.{decide}
use Rattle.never_neither.proofs.Missing.{AreApart, IsMissing, all_found, apart_more, sites_more, too_many}
use Rattle.never_neither.proofs.SitesThere.{Site, site_there}

module _ (fetches : Fetches) (entry : ℕ) where
  search : (room : ℕ) (entries : List (Point × Site)) → AreSites fetches entry entries → AreApart entries
      → most_points ≡ length entries + room → (HasMoreThan fetches entry most_points → ⊥)
      → ((all : List (Point × Site)) → AreAllSites fetches entry all → AreApart all → ⊥) → ⊥
  search zero entries sites apart full few none =
      decide (IsMissing fetches entry entries) (λ d. elim d [
        | inl more ↦ few (too_many fetches entry entries sites apart more (omega (arith, full)))
        | inr all ↦ none entries (all_found fetches entry entries sites all) apart
      ])
  search (suc room) entries sites apart full few none =
      decide (IsMissing fetches entry entries) (λ d. elim d [
        | inl more ↦
            site_there fetches more.at (λ s is.
            search room ((more.at, s) ∷ entries) (sites_more fetches entry entries sites apart more s is (omega (arith, full)))
            (apart_more fetches entry entries sites apart more s) (omega (arith, full)) few none)
        | inr all ↦ none entries (all_found fetches entry entries sites all) apart
      ])

  pub all_sites : (HasMoreThan fetches entry most_points → ⊥)
      → ((all : List (Point × Site)) → AreAllSites fetches entry all → AreApart all → ⊥) → ⊥
  all_sites few none =
      search most_points [] (record {
        reached = All-nil (λ (e : Point × Site). FlowWalk fetches entry e.0);
        sites = All-nil (λ (e : Point × Site). IsSite fetches e.0 e.1);
        few = omega arith;
      }) (λ i j d less within. absurd (omega (arith, within))) refl few none
