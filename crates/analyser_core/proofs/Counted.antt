-- Rows and placements, counted over the nodes: heads by their numbers, and merged nodes one by one.
use Rattle.std.proofs.Common.{◌≡◌, ◌≢◌, ℕ, zero, suc, ◌+◌, ◌-◌, ◌<◌, ◌≤◌, inl, inr, List, [], ◌∷◌, length, take, slice_index, slice_index_or, refl, ap, subst, ◌∙◌, arith}
use Rattle.std.specs.Prelude.{Option, None, Some, sum_by}
use Rattle.std.specs.List.Sorted.{IsStrictlyIncreasing}
use Rattle.std.proofs.lemmas.Bool.{cases_eq, cases_lt}
use Rattle.std.proofs.lemmas.List.Kept.{AllPairs-from_increasing}
use Rattle.std.proofs.lemmas.List.Sums.{sum_by-cons, sum_by_more, sum_by-take-le}
use Rattle.affine_prog.specs.Spans.{rows_at}
use Rattle.block_program.specs.Numbers.{IsNumber}
use Rattle.analyser_core.specs.States.{merged_part, states_by}

-- sums over the first items only rise
pub sums_rise : {X : Type 0} (f : X → ℕ) (xs : List X) (i j : ℕ) → i ≤ j → sum_by f (take i xs) ≤ sum_by f (take j xs)
sums_rise f [] i j at_most = let a = sum_by-take-le f [] i in omega arith
sums_rise f (x ∷ xs) zero j at_most = omega arith
sums_rise f (x ∷ xs) (suc i) zero at_most = absurd (omega arith)
sums_rise f (x ∷ xs) (suc i) (suc j) at_most =
    let a = sum_by-cons f x (take i xs) in let b = sum_by-cons f x (take j xs) in let h = sums_rise f xs i j (omega arith) in omega arith

-- the numbers of heads rise with the heads
pub numbers_rise : (heads : List ℕ) → IsStrictlyIncreasing heads → (u v i j : ℕ) → u < v → IsNumber heads u i → IsNumber heads v j → i < j
numbers_rise heads order u v i j before one other =
    let apart = AllPairs-from_increasing heads order in
    elim (cases_lt i j) [
      | inl h ↦ h
      | inr past ↦ elim (cases_eq i j) [
        | inl same ↦ let e = ap (slice_index heads) same in absurd (omega (arith, e, one.is, other.is))
        | inr differ ↦ let lower : j < i = omega (arith, differ) in let h = apart j i 0 lower one.within in absurd (omega (arith, h, one.is, other.is))
      ]
    ]

one_more : {X : Type 0} (f : X → ℕ) (xs : List X) (k : ℕ) (d : X) → k < length xs → sum_by f (take (suc k) xs) ≡ sum_by f (take k xs) + f (slice_index_or xs k d)
one_more f xs k d below =
    let e : k + 1 ≡ suc k = omega arith in
    subst (λ (i : ℕ). sum_by f (take i xs) ≡ sum_by f (take k xs) + f (slice_index_or xs k d)) e (sum_by_more f xs k d below)

-- heads and merged nodes are no more than all nodes
module _ (heads : List ℕ) (order : IsStrictlyIncreasing heads) (numbers : List (Option ℕ)) where
  abbrev AreBelow : ℕ → ℕ → Type 0
  AreBelow n c = (i : ℕ) → i < c → slice_index heads i < n

  abbrev HaveNoHeads : ℕ → Type 0
  HaveNoHeads n = (v : ℕ) → v < n → slice_index_or numbers v None ≡ None → (i : ℕ) → i < length heads → slice_index heads i ≢ v

  count_node : (n c : ℕ) → suc n ≤ length numbers → c ≤ length heads → AreBelow (suc n) c → HaveNoHeads (suc n)
      → ((d : ℕ) → d ≤ length heads → AreBelow n d → d + sum_by merged_part (take n numbers) ≤ n)
      → (o : Option ℕ) → slice_index_or numbers n None ≡ o → c + sum_by merged_part (take (suc n) numbers) ≤ suc n
  count_node n c within few below merged lower None none =
      let h = lower c few (λ i i_below. let b = below i i_below in let ne = merged n (omega arith) none i (omega arith) in omega (arith, ne)) in
      let part = ap merged_part none in omega (arith, one_more merged_part numbers n None (omega arith), part, h)
  count_node n c within few below merged lower (Some j) some =
      let h = lower (c - 1) (omega arith) (λ i i_below.
      let b = below (c - 1) (omega arith) in let r = AllPairs-from_increasing heads order i (c - 1) 0 i_below (omega arith) in omega arith) in
      let part = ap merged_part some in omega (arith, one_more merged_part numbers n None (omega arith), part, h)

  pub count_nodes : (n c : ℕ) → n ≤ length numbers → c ≤ length heads → ((i : ℕ) → i < c → slice_index heads i < n)
      → ((v : ℕ) → v < n → slice_index_or numbers v None ≡ None → (i : ℕ) → i < length heads → slice_index heads i ≢ v)
      → c + sum_by merged_part (take n numbers) ≤ n
  count_nodes zero zero within few below merged = omega arith
  count_nodes zero (suc c) within few below merged = let h = below 0 (omega arith) in absurd (omega arith)
  count_nodes (suc n) c within few below merged =
      count_node n c within few below merged (λ d d_few d_below. count_nodes n d (omega arith) d_few d_below (λ v v_below. merged v (omega arith)))
      (slice_index_or numbers n None) refl

-- the rows of lists for all nodes are those at heads, and those at merged nodes
module _ (numbers : List (Option ℕ)) (lists reached merged : List (List (List ℕ))) where
  abbrev AreAlike : ℕ → Type 0
  AreAlike n = (v : ℕ) → v < n → length (rows_at lists v) ≡ length (states_by reached (rows_at merged v) (slice_index_or numbers v None))

  abbrev AreNumberedBelow : ℕ → ℕ → Type 0
  AreNumberedBelow n c = (v i : ℕ) → v < n → slice_index_or numbers v None ≡ Some i → i < c

  abbrev NumbersRise : ℕ → Type 0
  NumbersRise n = (u v i j : ℕ) → u < v → v < n → slice_index_or numbers u None ≡ Some i → slice_index_or numbers v None ≡ Some j → i < j

  count_row : (n c : ℕ) → suc n ≤ length lists → suc n ≤ length merged → c ≤ length reached → AreAlike (suc n) → AreNumberedBelow (suc n) c → NumbersRise (suc n)
      → ((d : ℕ) → d ≤ length reached → AreNumberedBelow n d → sum_by length (take n lists) ≤ sum_by length (take d reached) + sum_by length (take n merged))
      → (o : Option ℕ) → slice_index_or numbers n None ≡ o → sum_by length (take (suc n) lists) ≤ sum_by length (take c reached) + sum_by length (take (suc n) merged)
  count_row n c all all_merged few same within rise lower None none =
      let e = same n (omega arith) ∙ ap (λ (o : Option ℕ). length (states_by reached (rows_at merged n) o)) none in
      let h = lower c few (λ v i below. within v i (omega arith)) in
      omega (arith, one_more length lists n [] (omega arith), one_more length merged n [] (omega arith), e, h)
  count_row n c all all_merged few same within rise lower (Some j) some =
      let e = same n (omega arith) ∙ ap (λ (o : Option ℕ). length (states_by reached (rows_at merged n) o)) some in
      let j_below = within n j (omega arith) some in
      let h = lower j (omega arith) (λ v i below is. rise v n i j below (omega arith) is some) in
      let part = sums_rise length reached (suc j) c (omega arith) in
      omega (arith, one_more length lists n [] (omega arith), one_more length merged n [] (omega arith), one_more length reached j [] (omega arith), e, h, part)

  pub count_rows : (n c : ℕ) → n ≤ length lists → n ≤ length merged → c ≤ length reached
      → ((v : ℕ) → v < n → length (rows_at lists v) ≡ length (states_by reached (rows_at merged v) (slice_index_or numbers v None)))
      → ((v i : ℕ) → v < n → slice_index_or numbers v None ≡ Some i → i < c)
      → ((u v i j : ℕ) → u < v → v < n → slice_index_or numbers u None ≡ Some i → slice_index_or numbers v None ≡ Some j → i < j)
      → sum_by length (take n lists) ≤ sum_by length (take c reached) + sum_by length (take n merged)
  count_rows zero c all all_merged few same within rise = omega arith
  count_rows (suc n) c all all_merged few same within rise =
      count_row n c all all_merged few same within rise
      (λ d d_few d_within. count_rows n d (omega arith) (omega arith) d_few (λ v below. same v (omega arith)) d_within (λ u v i j before below. rise u v i j before (omega arith)))
      (slice_index_or numbers n None) refl
