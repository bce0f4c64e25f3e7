-- Lists of sets, one after the other, and the sets of a program.
use Rattle.std.proofs.Common.{◌≡◌, ℕ, suc, ◌+◌, ◌<◌, ◌≤◌, ◌↔◌, List, [], ◌∷◌, ◌++◌, length, get_or, take, map, All, AllPairs, refl, ap, sym, ◌∙◌, arith, bit_and, bit_or}
use Rattle.std.proofs.lemmas.List.Elements.{All-head, All-tail, All-nil, All-cons, All-push, All-take, All-map, All-contains, All-from_get_or, Contains-push}
use Rattle.std.proofs.lemmas.List.{get_or-map, get_or-take, length-map, length-take, take_more, take_all}
use Rattle.affine_prog.specs.declared.Proc.{Proc}
use Rattle.std.proofs.lemmas.List.Quantifiers.{all_pairs_push}
use Rattle.affine_prog.specs.Programs.{AreDisjoint}
use Rattle.affine_prog.proofs.Sets.{union_apart, parts_apart}

All-map_back : {X : Type 0} (P : ℕ → Type 0) (f : X → ℕ) (xs : List X) → All P (map f xs) → All (λ x. P (f x)) xs
All-map_back P f [] all = λ k d h. absurd (omega arith)
All-map_back P f (x ∷ xs) all = All-cons (λ x. P (f x)) x xs (All-head P (f x) (map f xs) all) (All-map_back P f xs (All-tail P (f x) (map f xs) all))

-- the sets of a program are below a number where the registers and each procedure's slots are
pub sets_below : (n r : ℕ) (procs : List Proc) → r < n → All (λ proc. proc.slots < n) procs → All (λ s. s < n) (r ∷ map (λ proc. proc.slots) procs)
sets_below n r procs first rest =
    All-cons (λ s. s < n) r (map (λ proc. proc.slots) procs) first (All-map (λ s. s < n) (λ proc. proc.slots) procs rest)

pub slots_below : (n r : ℕ) (procs : List Proc) → All (λ s. s < n) (r ∷ map (λ proc. proc.slots) procs) → All (λ proc. proc.slots < n) procs
slots_below n r procs all =
    All-map_back (λ s. s < n) (λ proc. proc.slots) procs (All-tail (λ s. s < n) r (map (λ proc. proc.slots) procs) all)

take_front : (xs : List ℕ) (s : ℕ) → take (length xs) (xs ++ s ∷ []) ≡ xs
take_front [] s = refl
take_front (x ∷ xs) s = ap (λ ys. x ∷ ys) (take_front xs s)

-- what has been taken is the union of disjoint sets
pub record IsUnion (sets : List ℕ) (taken : ℕ) : Type 0 where
  pub disjoint : AllPairs AreDisjoint sets
  pub apart : (t : ℕ) → (bit_and taken t ≡ 0) ↔ All (λ s. bit_and s t ≡ 0) sets

pub IsUnion-push : (sets : List ℕ) (taken s : ℕ) → IsUnion sets taken → bit_and taken s ≡ 0 → IsUnion (sets ++ s ∷ []) (bit_or taken s)
IsUnion-push sets taken s u new = record {
  disjoint = all_pairs_push AreDisjoint sets s u.disjoint ((u.apart s).0 new);
  apart = λ t. (
    λ e. let p = parts_apart taken s t e in All-push (λ x. bit_and x t ≡ 0) sets s ((u.apart t).0 p.0) p.1,
    λ all. union_apart taken s t
        ((u.apart t).1 (let h = All-take (λ x. bit_and x t ≡ 0) (length sets) (sets ++ s ∷ []) all in rw take_front at h))
        (All-contains (λ x. bit_and x t ≡ 0) (sets ++ s ∷ []) s all (Contains-push sets s)),
  );
}

-- of disjoint sets, each before a place shares nothing with the one there
earlier_apart : (sets : List ℕ) (k : ℕ) → AllPairs AreDisjoint sets → k < length sets → All (λ s. bit_and s (get_or sets k 0) ≡ 0) (take k sets)
earlier_apart sets k pairs within =
    All-from_get_or (λ s. bit_and s (get_or sets k 0) ≡ 0) (take k sets) 0 (λ i h.
    let before : i < k = omega (arith, length-take k sets) in
    let e = get_or-take k sets i 0 before in rw e (pairs i k 0 before within))

-- the next procedure's slots, where the items are those of the list of procedures
module _ (r taken k : ℕ) (d : Proc) (items procs : List Proc) (same : items ≡ procs) (within : k < length items) where
  next_slots : get_or (map (λ proc. proc.slots) procs) k 0 ≡ (get_or items k d).slots
  next_slots = ap (λ xs. get_or (map (λ proc. proc.slots) xs) k 0) (sym same) ∙ get_or-map (λ proc. proc.slots) items k d 0 within

  in_range : k < length (map (λ proc. proc.slots) procs)
  in_range = let e = ap length same in omega (arith, length-map procs (λ proc. proc.slots))

  pub union_more : IsUnion (r ∷ take k (map (λ proc. proc.slots) procs)) taken → bit_and taken (get_or items k d).slots ≡ 0
      → IsUnion (r ∷ take (k + 1) (map (λ proc. proc.slots) procs)) (bit_or taken (get_or items k d).slots)
  union_more u new =
      let e = take_more (map (λ proc. proc.slots) procs) k 0 in_range ∙ ap (λ s. take k (map (λ proc. proc.slots) procs) ++ s ∷ []) next_slots in
      rw e (IsUnion-push (r ∷ take k (map (λ proc. proc.slots) procs)) taken (get_or items k d).slots u new)

  pub union_apart_next : IsUnion (r ∷ take k (map (λ proc. proc.slots) procs)) taken → AllPairs AreDisjoint (r ∷ map (λ proc. proc.slots) procs)
      → bit_and taken (get_or items k d).slots ≡ 0
  union_apart_next u pairs =
      (u.apart (get_or items k d).slots).1
      (rw next_slots at (earlier_apart (r ∷ map (λ proc. proc.slots) procs) (suc k) pairs (let h = in_range in omega arith)))

-- the first union, and the last
pub union_of_one : (r : ℕ) → IsUnion (r ∷ []) r
union_of_one r = record {
  disjoint = λ i j d before within. absurd (omega arith);
  apart = λ t. (λ e. All-cons (λ s. bit_and s t ≡ 0) r [] e (All-nil (λ s. bit_and s t ≡ 0)), λ all. All-head (λ s. bit_and s t ≡ 0) r [] all);
}

pub union_of_all : (r taken k : ℕ) (sets : List ℕ) → length sets ≤ k → IsUnion (r ∷ take k sets) taken → AllPairs AreDisjoint (r ∷ sets)
union_of_all r taken k sets past u = let e = take_all k sets past in let d = u.disjoint in rw e at d
