-- Offers that are taken in turn.
use Rattle.std.proofs.Common.{◌≡◌, ℕ, ◌<◌, ◌+◌, ◌⊎◌, inl, inr, List, [], ◌∷◌, Contains, All, length, take, get_or, ap, sym, subst}
use Rattle.std.proofs.lemmas.List.Elements.{All-contains}
use Rattle.row_modules.specs.Modules.{AreRows}
use Rattle.row_engine.specs.Growth.{Offered}
use Rattle.row_engine.proofs.Members.{first_in, only_in, taken_in, now_taken, earlier_or_now}
use Rattle.reach_modules.specs.declared.Offer.{Offer}
use Rattle.reach_modules.specs.Offers.{offer, IsListed, IsOffer}

pub offered_rows : (n : ℕ) (offers : List Offer) → All (IsOffer n) offers → (u : ℕ) → AreRows 17 (IsListed offers u)
offered_rows n offers all u m h = (All-contains (IsOffer n) offers (offer u m) all h).row

-- the loop over offers, at the next one
module _ (n : ℕ) (offers : List Offer) (good : All (IsOffer n) offers) (i : ℕ) (x : Offer) (below : i < length offers) (is : x ≡ get_or offers i x) where
  x_in : Contains offers x
  x_in = taken_in offers (i + 1) x (now_taken offers i x below is)

  pub to_node : x.node < n
  to_node = (All-contains (IsOffer n) offers x good x_in).below

  pub offer_less : (u : ℕ) (v : List ℕ) → Offered 17 x.node (x.row ∷ []) u v → IsListed offers u v
  offer_less u v h = let e = h.0 in let f = only_in x.row v h.2 in rw (e, f) x_in

  pub offer_either : (u : ℕ) (v : List ℕ) → IsListed (take (i + 1) offers) u v → IsListed (take i offers) u v ⊎ Offered 17 x.node (x.row ∷ []) u v
  offer_either u v h = elim (earlier_or_now offers i x below is (offer u v) h) [
    | inl k ↦ inl k
    | inr e ↦
        let to : u ≡ x.node = ap (λ (o : Offer). o.node) e in
        let row : v ≡ x.row = ap (λ (o : Offer). o.row) e in
        inr (to, offered_rows n offers good u v (taken_in offers (i + 1) (offer u v) h), subst (Contains (x.row ∷ [])) (sym row) (first_in x.row []))
  ]
