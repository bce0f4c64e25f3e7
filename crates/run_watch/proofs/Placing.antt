-- An instruction is put at its place among others whose addresses ascend.
use Rattle.std.proofs.Common.{◌≡◌, ◌⊎◌, ℕ, ◌+◌, ◌-◌, ◌<◌, ◌≤◌, false, List, length, get_or, Ok, Err, All, AllPairs, Contains, sym, subst, ap, ◌∙◌, refl, inl, inr, arith}
use Rattle.std.specs.Ordering.{nat_cmp, is_lt, MatchOrdering}
use Rattle.std.specs.declared.cmp.Ordering.TheVariants.{Greater}
use Rattle.std.specs.Cmp.{ranks, nat_cmp_is}
use Rattle.std.specs.List.{insert}
use Rattle.std.specs.List.Sorted.{IsBinarySearchResult, IsSortedBy}
use Rattle.std.proofs.lemmas.Bool.{cases_lt}
use Rattle.std.proofs.lemmas.Cmp.{nat_cmp_total}
use Rattle.std.proofs.lemmas.List.{get_or_default}
use Rattle.std.proofs.lemmas.List.Elements.{All-contains_itself}
use Rattle.std.proofs.lemmas.List.Edits.{get_or-insert_at, get_or-insert_below, get_or-insert_above, length-insert}
use Rattle.std.proofs.lemmas.List.Sorted.{searchable_from_sorted}
use Rattle.run_watch.specs.declared.places.CodeAt.{CodeAt}
use Rattle.run_watch.specs.Runs.{IsPut}

-- where an item of the list with the new one stood
data Stood (code : List CodeAt) (at : CodeAt) (i k : ℕ) (d : CodeAt) : Type 0 where
  below : k < i → k < length code → get_or (insert code i at) k d ≡ get_or code k d → Stood code at i k d
  there : k ≡ i → get_or (insert code i at) k d ≡ at → Stood code at i k d
  above : (j : ℕ) → k ≡ j + 1 → i ≤ j → j < length code → get_or (insert code i at) k d ≡ get_or code j d → Stood code at i k d

stood : (code : List CodeAt) (at : CodeAt) (i k : ℕ) (d : CodeAt) → i ≤ length code → k < length code + 1 → Stood code at i k d
stood code at i k d room within =
    elim (cases_lt k i) [
      | inl low ↦ below low (omega arith) (get_or-insert_below code i at d k low room)
      | inr high ↦ elim (cases_lt i k) [
        | inr up ↦ let e : k ≡ i = omega arith in
            there e (subst (λ n. get_or (insert code i at) n d ≡ at) (sym e) (get_or-insert_at code i at d room))
        | inl up ↦ let j : ℕ = k - 1 in let e : k ≡ j + 1 = omega arith in
            above j e (omega arith) (omega arith)
            (subst (λ n. get_or (insert code i at) n d ≡ get_or code j d) (sym e) (get_or-insert_above code i at d j (omega arith) room))
      ]
    ]

-- what the search says of the place
record IsPlace (code : List CodeAt) (a i : ℕ) : Type 0 where
  pub lower : (k : ℕ) (d : CodeAt) → k < i → (get_or code k d).address < a
  pub higher : (k : ℕ) (d : CodeAt) → i ≤ k → k < length code → a < (get_or code k d).address

not_less : (a b : ℕ) → b < a → is_lt (nat_cmp a b) ≡ false
not_less a b h = subst (λ o. is_lt o ≡ false) (nat_cmp_is a b Greater h) refl

place_of : (code : List CodeAt) (a i : ℕ) → AllPairs (λ x y. x.address < y.address) code
    → IsBinarySearchResult (λ c. nat_cmp c.address a) code (Err i) → IsPlace code a i
place_of code a i up found =
    let sorted : IsSortedBy (λ (x : CodeAt) (y : CodeAt). is_lt (nat_cmp x.address y.address)) code =
    λ k d low below. not_less (get_or code (k + 1) d).address (get_or code k d).address (up k (k + 1) d (omega arith) below) in
    let parts = found (searchable_from_sorted nat_cmp_total (λ (c : CodeAt). c.address) code a sorted) in
    record {
      lower = λ k d low. subst (λ o. MatchOrdering o ((get_or code k d).address < a) ((get_or code k d).address ≡ a) (a < (get_or code k d).address))
          (parts.0 k d (omega arith) low) (ranks (get_or code k d).address a);
      higher = λ k d low below. subst (λ o. MatchOrdering o ((get_or code k d).address < a) ((get_or code k d).address ≡ a) (a < (get_or code k d).address))
          (parts.1 k d low below) (ranks (get_or code k d).address a);
    }

below_by : (x y u v : CodeAt) → x ≡ u → y ≡ v → u.address < v.address → x.address < y.address
below_by x y u v e f h =
    let k : x.address ≡ u.address = ap (λ (c : CodeAt). c.address) e in
    let l : y.address ≡ v.address = ap (λ (c : CodeAt). c.address) f in
    omega (arith, k, l, h)

in_order : (code : List CodeAt) (at : CodeAt) (i p q : ℕ) (d : CodeAt) → AllPairs (λ x y. x.address < y.address) code
    → IsPlace code at.address i → p < q → Stood code at i p d → Stood code at i q d
    → (get_or (insert code i at) p d).address < (get_or (insert code i at) q d).address
in_order code at i p q d up place lt (below l w e) (below m v f) = below_by _ _ _ _ e f (up p q d lt v)
in_order code at i p q d up place lt (below l w e) (there m f) = below_by _ _ _ _ e f (place.lower p d l)
in_order code at i p q d up place lt (below l w e) (above k js m v f) = below_by _ _ _ _ e f (up p k d (omega (arith, l, m)) v)
in_order code at i p q d up place lt (there l e) (below m v f) = absurd (omega (arith, lt, l, m))
in_order code at i p q d up place lt (there l e) (there m f) = absurd (omega (arith, lt, l, m))
in_order code at i p q d up place lt (there l e) (above k js m v f) = below_by _ _ _ _ e f (place.higher k d m v)
in_order code at i p q d up place lt (above j is l w e) (below m v f) = absurd (omega (arith, lt, is, l, m))
in_order code at i p q d up place lt (above j is l w e) (there m f) = absurd (omega (arith, lt, is, l, m))
in_order code at i p q d up place lt (above j is l w e) (above k js m v f) = below_by _ _ _ _ e f (up j k d (omega (arith, lt, is, js)) v)

was_there : (code : List CodeAt) (at : CodeAt) (i k : ℕ) (d : CodeAt) → Stood code at i k d
    → Contains code (get_or (insert code i at) k d) ⊎ (get_or (insert code i at) k d ≡ at)
was_there code at i k d (below l w e) = inl (subst (λ x. Contains code x) (sym e) (All-contains_itself code k d w))
was_there code at i k d (there l e) = inr e
was_there code at i k d (above j is l w e) = inl (subst (λ x. Contains code x) (sym e) (All-contains_itself code j d w))

still_there : (code : List CodeAt) (at : CodeAt) (i : ℕ) → i ≤ length code → All (λ x. Contains (insert code i at) x) code
still_there code at i room =
    λ k d within.
    let long : length (insert code i at) ≡ length code + 1 = length-insert code i at room in
    let x : CodeAt = get_or code k d in
    elim (cases_lt k i) [
      | inl low ↦ (k, omega (arith, long, within), get_or-insert_below code i at x k low room ∙ get_or_default code k x d within)
      | inr high ↦ (k + 1, omega (arith, long, within), get_or-insert_above code i at x k high room ∙ get_or_default code k x d within)
    ]

-- it is put there
pub placed : (code : List CodeAt) (at : CodeAt) (i : ℕ) → i ≤ length code → AllPairs (λ x y. x.address < y.address) code
    → IsBinarySearchResult (λ c. nat_cmp c.address at.address) code (Err i) → IsPut code at (insert code i at)
placed code at i room up found =
    let long : length (insert code i at) ≡ length code + 1 = length-insert code i at room in
    record {
      kept = still_there code at i room;
      there = at;
      among = (i, omega (arith, long, room), get_or-insert_at code i at at room);
      its_address = refl;
      only = λ k d within. was_there code at i k d (stood code at i k d room (omega (arith, long, within)));
      ascending = λ p q d lt within. in_order code at i p q d up (place_of code at.address i up found) lt
          (stood code at i p d room (omega (arith, long, within, lt))) (stood code at i q d room (omega (arith, long, within)));
    }

-- one of its address was there
pub found_there : (code : List CodeAt) (at : CodeAt) (i : ℕ) → i < length code → AllPairs (λ x y. x.address < y.address) code
    → IsBinarySearchResult (λ c. nat_cmp c.address at.address) code (Ok i) → IsPut code at code
found_there code at i within up found =
    let there : CodeAt = get_or code i at in
    record {
      kept = All-contains_itself code;
      there = there;
      among = (i, within, get_or_default code i there at within);
      its_address = subst (λ o. MatchOrdering o (there.address < at.address) (there.address ≡ at.address) (at.address < there.address))
          (found at) (ranks there.address at.address);
      only = λ k d inside. inl (All-contains_itself code k d inside);
      ascending = up;
    }
