-- Where no slot and no instruction is near a store, the store changes none of their bytes.
use Rattle.std.proofs.Common.{◌≡◌, ℕ, ◌<◌, Bool, true, false, cond, ◌&&◌, ◌||◌, not, List, [], ◌∷◌, map, filter, find, All, slice_index_or, None, Some, refl, sym, ◌∙◌, ap, lit<}
use Rattle.std.specs.List.{list_any}
use Rattle.std.proofs.lemmas.List.Folds.{list_any_none, list_any-append}
use Rattle.rv_step.specs.declared.records.StoreRec.{StoreRec}
use Rattle.run_watch.specs.declared.places.CodeAt.{CodeAt}
use Rattle.run_watch.specs.Slots.{Slots, live, byte_at, IsApart, IsOff}
use Rattle.run_watch.specs.Judges.{changed_bytes, is_changed, places, is_writable, holds_kept, holds_code}

abbrev Agree : (ℕ → Bool) → (ℕ → Bool) → List ℕ → Type 0
Agree p q [] = Unit {0}
Agree p q (k ∷ ks) = (p k ≡ q k) × Agree p q ks

found_alike : (p q r : ℕ → Bool) (f : ℕ → ℕ) (ks : List ℕ) → Agree (λ k. p (f k)) (λ k. q (f k)) ks
    → find p (map f (filter r ks)) ≡ find q (map f (filter r ks))
found_alike p q r f [] h = refl
found_alike p q r f (k ∷ ks) (same, h) =
    elim (r k) as (λ v. find p (map f (cond v (k ∷ filter r ks) (filter r ks))) ≡ find q (map f (cond v (k ∷ filter r ks) (filter r ks)))) [
      | true ↦ ap (λ b. cond b (Some (f k)) (find p (map f (filter r ks)))) same
          ∙ ap (λ o. cond (q (f k)) (Some (f k)) o) (found_alike p q r f ks h)
      | false ↦ found_alike p q r f ks h
    ]

never_found : (xs : List ℕ) → find (λ x. false) xs ≡ None
never_found [] = refl
never_found (x ∷ xs) = never_found xs

-- tests that agree on the 8 bytes from the store on
alike : (p q : ℕ → Bool) (store : StoreRec) → ((k : ℕ) → k < 8 → p (byte_at store.address k) ≡ q (byte_at store.address k))
    → find p (changed_bytes store) ≡ find q (changed_bytes store)
alike p q store h =
    found_alike p q (is_changed store) (byte_at store.address) places
    (h 0 (lit< tt), (h 1 (lit< tt), (h 2 (lit< tt), (h 3 (lit< tt), (h 4 (lit< tt), (h 5 (lit< tt), (h 6 (lit< tt), (h 7 (lit< tt), tt))))))))

pub kept_among_last : (slots : Slots) (depth writable : ℕ) (store : StoreRec) → All (IsApart store.address) slots.earlier
    → find (λ a. list_any (holds_kept depth writable a) slots.last) (changed_bytes store)
    ≡ find (λ a. list_any (holds_kept depth writable a) (live slots)) (changed_bytes store)
kept_among_last slots depth writable store apart = alike _ _ store (λ k within.
    let p = holds_kept depth writable (byte_at store.address k) in
    sym (list_any-append p slots.earlier slots.last
    ∙ ap (λ b. b || list_any p slots.last) (list_any_none p slots.earlier (λ i d inside.
    let slot = slice_index_or slots.earlier i d in
    ap (λ b. b && not (is_writable depth writable slot)) (apart i d inside k within)))))

pub none_kept : (slots : Slots) (depth writable : ℕ) (store : StoreRec) → All (IsApart store.address) slots.earlier
    → ((k : ℕ) → k < 8 → list_any (holds_kept depth writable (byte_at store.address k)) slots.last ≡ false)
    → find (λ a. list_any (holds_kept depth writable a) (live slots)) (changed_bytes store) ≡ None
none_kept slots depth writable store apart none =
    sym (kept_among_last slots depth writable store apart)
    ∙ alike (λ a. list_any (holds_kept depth writable a) slots.last) (λ a. false) store none
    ∙ never_found (changed_bytes store)

pub no_code_changed : (code : List CodeAt) (store : StoreRec) → All (IsOff store.address) code
    → None ≡ find (λ a. list_any (holds_code a) code) (changed_bytes store)
no_code_changed code store off = sym (never_found (changed_bytes store)) ∙ sym (alike (λ a. list_any (holds_code a) code) (λ a. false) store (λ k within.
    list_any_none (holds_code (byte_at store.address k)) code (λ i d inside. off i d inside k within)))
