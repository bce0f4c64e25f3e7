-- Tables over the 32 registers: what each register that the items set has there, and what every other one has.
use Rattle.std.proofs.Common.{◌≡◌, ◌∙◌, ℕ, ◌<◌, ◌⊎◌, inl, inr, List, [], ◌∷◌, ◌++◌}
use Rattle.std.proofs.Common.{length, get_or, replicate, slice_set, get_or-set_same, get_or-set_other, sym, ap, subst, arith}
use Rattle.std.proofs.lemmas.List.{get_or-replicate}
use Rattle.std.proofs.lemmas.List.Elements.{All-push, Contains-append_left, Contains-get_or, Contains-push, Contains-push_cases}
use Rattle.std.proofs.lemmas.List.Quantifiers.{all_pairs_push}
use Rattle.start_registers.specs.Settings.{IsSet, IsSettingList, Sets}
use Rattle.start_registers.proofs.ItemsSet.{one_setting}

pub record IsTable {X : Type 0} (f : ℕ → X) (d : X) (items : List (List ℕ)) (xs : List X) : Type 0 where
  pub named : (r w : ℕ) → IsSet items r w → get_or xs r d ≡ f w
  pub others : (r : ℕ) → r < 32 → ((w : ℕ) → IsSet items r w → ⊥) → get_or xs r d ≡ d

none_set : (r w : ℕ) → IsSet [] r w → ⊥
none_set r w set = let below : set.there.0 < 0 = set.there.1 in absurd (omega arith)

pub table_start : {X : Type 0} (f : ℕ → X) (d : X) → IsTable f d [] (replicate 32 d)
table_start f d = record {
  named = λ r w set. absurd (none_set r w set);
  others = λ r small none. get_or-replicate 32 r d d small;
}

module _ (front : List (List ℕ)) (item : List ℕ) (r w : ℕ) (sets : Sets item r w)
    (fresh : (v : ℕ) → IsSet front r v → ⊥) where
  last : IsSet (front ++ item ∷ []) r w
  last = record { item = item; there = Contains-push front item; sets = sets }

  earlier : (q v : ℕ) → IsSet front q v → IsSet (front ++ item ∷ []) q v
  earlier q v set = record {
    item = set.item;
    there = Contains-append_left front (item ∷ []) set.item set.there;
    sets = set.sets;
  }

  cases : (q v : ℕ) → IsSet (front ++ item ∷ []) q v → IsSet front q v ⊎ Sets item q v
  cases q v set =
      elim (Contains-push_cases front item set.item set.there) [
        | inl before ↦ inl (record { item = set.item; there = before; sets = set.sets })
        | inr same ↦ inr (subst (λ (t : List ℕ). Sets t q v) (sym same) set.sets)
      ]

  pub table_push : {X : Type 0} (f : ℕ → X) (d : X) (xs : List X) → IsTable f d front xs → r < length xs
      → IsTable f d (front ++ item ∷ []) (slice_set xs r (f w))
  table_push f d xs table within = record {
    named = λ q v set.
        elim (cases q v set) [
          | inl before ↦
              get_or-set_other xs r q (f w) d (λ same. fresh v (subst (λ (n : ℕ). IsSet front n v) same before))
              ∙ table.named q v before
          | inr here ↦
              let one = one_setting item q r v w here sets in
              ap (λ (n : ℕ). get_or (slice_set xs r (f w)) n d) one.0 ∙ get_or-set_same xs r (f w) d within ∙ ap f (sym one.1)
        ];
    others = λ q small none.
        get_or-set_other xs r q (f w) d
        (λ same. none w (subst (λ (n : ℕ). IsSet (front ++ item ∷ []) n w) (sym same) last))
        ∙ table.others q small (λ v before. none v (earlier q v before));
  }

  -- no earlier item sets the register of the last one
  apart : (k : ℕ) (d : List ℕ) → k < length front → (q u v : ℕ) → Sets (get_or front k d) q u → Sets item q v → ⊥
  apart k d within q u v before here =
      let one = one_setting item q r v w here sets in
      fresh u (record {
        item = get_or front k d;
        there = Contains-get_or front k d within;
        sets = subst (λ (n : ℕ). Sets (get_or front k d) n u) one.0 before;
      })

  pub list_push : IsSettingList front → IsSettingList (front ++ item ∷ [])
  list_push list = record {
    each = All-push (λ item. (q : ℕ) × (v : ℕ) × Sets item q v) front item list.each (r, w, sets);
    once = all_pairs_push (λ a b. (q u v : ℕ) → Sets a q u → Sets b q v → ⊥) front item list.once apart;
  }
