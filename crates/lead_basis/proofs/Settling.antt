-- A relation of the later rows of a basis becomes one of one row more.
use Rattle.std.proofs.Common.{◌≡◌, ℕ, zero, suc, ◌+◌, ◌-◌, ◌*◌, ◌/◌, ◌^◌, ◌<◌, ◌≤◌, inl, inr, List, ◌∷◌, length, get_or, take, drop, set, subst, slice_index, replicate, All, Contains, eqb, refl, ap, ap₂, sym, ◌∙◌, arith, get_or-set_same, get_or-set_other, mod-lt}
use Rattle.std.proofs.Math.Nat.{mod-add-mod, mod-eq_of_lt, lt_of_mul-lt-mul_right}
use Rattle.std.proofs.lemmas.Bool.{cases_eq, cases_lt, cond-true, cond-false, eq-eqb, ne_eqb}
use Rattle.std.proofs.lemmas.Nat.{pow_pos, shl-shr}
use Rattle.std.proofs.Math.Seq.{drop-cons}
use Rattle.std.proofs.lemmas.List.Elements.{All-contains, Contains-get_or, Contains-append_right}
use Rattle.std.proofs.lemmas.List.{take-append-drop}
use Rattle.word_rows.specs.Words.{word}
use Rattle.word_rows.specs.Rows.{words_of, times, dot_sum, dot, lead, pivot, IsRow}
use Rattle.word_rows.proofs.Laws.{get_or-zeros, dot_sum-unit, get_or_before_lead, IsRow-zeros, IsRow-set}
use Rattle.row_modules.specs.Modules.{AreRows}
use Rattle.row_modules.specs.Bases.{Leads, IsLeadingBasis}
use Rattle.row_modules.proofs.Laws.{first_or_later, vanishes_on_module, dot_at_multiple}
use Rattle.lead_basis.proofs.Powers.{factor_of_zero}
use Rattle.lead_basis.proofs.Leading.{basis_rows}
use Rattle.lead_basis.proofs.Places.{basis_after}
use Rattle.lead_basis.proofs.Reached.{basis_reached}
use Rattle.lead_basis.specs.Relations.{pivot_at, closing_word, bound, settled, IsRelation}
use Rattle.lead_basis.proofs.Overlaps.{dot_at_one, dot_set}
use Rattle.lead_basis.proofs.Pivots.{pivot_here, pivot_there, no_pivot, whole, closing_zero, closing_power, closes, bound_some, power_of_member}

-- a word at one position is a relation of rows that don't lead before it
pub relation_start : (n j w : ℕ) (rows : List (List ℕ)) → j < n → w < 2 ^ 64 → IsLeadingBasis n rows → All (λ r. j ≤ lead r) rows → ((v : List ℕ) → Contains rows v → lead v ≡ j → word (w * pivot v) ≡ 0) → IsRelation n rows j w (set (replicate n 0) j w)
relation_start n j w rows below small basis later closing =
    let z = IsRow-zeros n in
    let l = z.width in
    let e : word w ≡ w = mod-eq_of_lt small in record {
      is_row = word_row e (IsRow-set n j w (replicate n 0) z);
      vanishes = λ v h.
          let product = dot_sum-unit w n j v below in
          let from : j ≤ lead v = All-contains (λ r. j ≤ lead r) rows v later h in
          elim (cases_eq (lead v) j) [
            | inl i ↦ ap word (product ∙ ap (λ (k : ℕ). w * get_or v k 0) (sym i)) ∙ closing v h i
            | inr other ↦
                let nothing : w * get_or v j 0 ≡ 0 = rw (get_or_before_lead v j (omega arith)) (omega arith) in
                ap word (product ∙ nothing)
          ];
      after = λ k lt. get_or-set_other (replicate n 0) j k w 0 (λ i. omega arith) ∙ get_or-zeros n k;
      at = get_or-set_same (replicate n 0) j w 0 (omega arith);
      below = λ k lt.
          let o = get_or-set_other (replicate n 0) j k w 0 (λ i. omega arith) ∙ get_or-zeros n k in
          let c = bound_some n rows k basis in omega arith;
    }
  where
    word_row : word w ≡ w → IsRow n (set (replicate n 0) j (word w)) → IsRow n (set (replicate n 0) j w)
    word_row e r = rw (← e) r

-- the word that settles a sum s: with s = q * 2^t, it is 2^(64-t) - q
record Word (s t : ℕ) : Type 0 where
  value : ℕ
  is : (2 ^ 64 - s) / 2 ^ t ≡ value
  fills : s + value * 2 ^ t ≡ 2 ^ 64
  below : value < 2 ^ (64 - t)

settling : (s t : ℕ) → t < 64 → s < 2 ^ 64 → 0 < s → s ≡ (s / 2 ^ t) * 2 ^ t → Word s t
settling s t small below some even =
    let q = s / 2 ^ t in
    let w = whole t small in
    let lt : (s / 2 ^ t) * 2 ^ t < 2 ^ (64 - t) * 2 ^ t = omega arith in
    let less : s / 2 ^ t < 2 ^ (64 - t) = lt_of_mul-lt-mul_right (2 ^ t) lt in
    let d = 2 ^ (64 - t) - s / 2 ^ t in
    let sum : s / 2 ^ t + (2 ^ (64 - t) - s / 2 ^ t) ≡ 2 ^ (64 - t) = omega arith in
    let product = ap (λ (x : ℕ). x * 2 ^ t) sum in
    let split : (s / 2 ^ t + (2 ^ (64 - t) - s / 2 ^ t)) * 2 ^ t ≡ (s / 2 ^ t) * 2 ^ t + (2 ^ (64 - t) - s / 2 ^ t) * 2 ^ t = mul_split (s / 2 ^ t) (2 ^ (64 - t) - s / 2 ^ t) (2 ^ t) in
    let fills : s + (2 ^ (64 - t) - s / 2 ^ t) * 2 ^ t ≡ 2 ^ 64 = omega arith in
    let left : 2 ^ 64 - s ≡ (2 ^ (64 - t) - s / 2 ^ t) * 2 ^ t = omega arith in
    let q_some : 0 < s / 2 ^ t = positive (s / 2 ^ t) (2 ^ t) s even some in
    record {
      value = 2 ^ (64 - t) - s / 2 ^ t;
      is = ap (λ (x : ℕ). x / 2 ^ t) left ∙ shl-shr (2 ^ (64 - t) - s / 2 ^ t) t;
      fills = fills;
      below = omega arith;
    }
  where
    mul_split : (a b c : ℕ) → (a + b) * c ≡ a * c + b * c
    mul_split a b c = omega arith

    positive : (a b s : ℕ) → s ≡ a * b → 0 < s → 0 < a
    positive zero b s e p = let z : 0 * b ≡ 0 = omega arith in absurd (omega arith)
    positive (suc a) b s e p = omega arith

module _ (n j w : ℕ) (b : List ℕ) (rest : List (List ℕ)) (c : List ℕ) (leads : Leads n b rest) (are : AreRows n (Contains rest)) (inside : j < n) (closing : lead b ≡ j → word (w * pivot b) ≡ 0) (r : IsRelation n rest j w c) where
  nothing_there : pivot_at rest (lead b) ≡ 0
  nothing_there = no_pivot rest (lead b) leads.later

  zero_there : lead b < j → slice_index c (lead b) ≡ 0
  zero_there lt = let h = r.below (lead b) lt in let e = closing_zero (pivot_at rest (lead b)) nothing_there in omega arith

  bound_here : bound (b ∷ rest) (lead b) ≡ 2 ^ (64 - leads.power)
  bound_here = closing_power (pivot_at (b ∷ rest) (lead b)) leads.power leads.small (pivot_here b rest (lead b) refl ∙ leads.is_pivot)

  bound_there : (k : ℕ) → (lead b ≡ k → ⊥) → bound (b ∷ rest) k ≡ bound rest k
  bound_there k ne = ap closing_word (pivot_there b rest k ne)

  -- the sum of products is 0 already
  kept : dot c b ≡ 0 → IsRelation n (b ∷ rest) j w c
  kept z = record {
    is_row = r.is_row;
    vanishes = λ v h. elim (first_or_later b rest v h) [ inl e ↦ ap (λ (x : List ℕ). dot c x) e ∙ z | inr m ↦ r.vanishes v m ];
    after = r.after;
    at = r.at;
    below = λ k lt. elim (cases_eq (lead b) k) [
      | inl e ↦
          let o = zero_there (let x : lead b < j = omega arith in x) in
          let p = pow_pos (64 - leads.power) in
          let h : slice_index c (lead b) < bound (b ∷ rest) (lead b) = let g = bound_here in omega arith in
          rw (← e) h
      | inr ne ↦ let e = bound_there k ne in let h = r.below k lt in omega arith
    ];
  }

  -- it isn't only where b leads before j
  leads_before : (dot c b ≡ 0 → ⊥) → lead b < j
  leads_before ne = elim (cases_lt (lead b) j) [
    | inl lt ↦ lt
    | inr ge ↦
        let one = dot_at_one j c b (λ k other. elim (cases_lt k j) [
          | inl before ↦ let z = get_or_before_lead b k (omega arith) in rw z (omega arith)
          | inr later ↦ let z = r.after k (omega arith) in rw z (omega arith)
        ]) in
        elim (cases_eq (lead b) j) [
          | inl e ↦
              let here : get_or c j 0 * get_or b j 0 ≡ w * pivot b = ap₂ (λ (x y : ℕ). x * y) r.at (ap (λ (k : ℕ). get_or b k 0) (sym e)) in
              absurd (ne (ap word (one ∙ here) ∙ closing e))
          | inr other ↦
              let z = get_or_before_lead b j (omega arith) in
              let none : get_or c j 0 * get_or b j 0 ≡ 0 = rw z (omega arith) in
              absurd (ne (ap word (one ∙ none)))
        ]
  ]

  -- the pivot divides the sum
  even : dot c b ≡ (dot c b / 2 ^ leads.power) * 2 ^ leads.power
  even =
      let small = leads.small in
      let v = vanishes_on_module n (Contains rest) are c r.vanishes (words_of (times (2 ^ (64 - leads.power)) b)) leads.closing in
      let e : dot c b * 2 ^ (64 - leads.power) ≡ 2 ^ (64 - leads.power) * dot c b = swapped (dot c b) (2 ^ (64 - leads.power)) in
      factor_of_zero (dot c b) leads.power (64 - leads.power) (omega arith) (ap word e ∙ sym (dot_at_multiple c (2 ^ (64 - leads.power)) b) ∙ v)
    where
      swapped : (x y : ℕ) → x * y ≡ y * x
      swapped x y = omega arith

  changed : (dot c b ≡ 0 → ⊥) → IsRelation n (b ∷ rest) j w (set c (lead b) ((2 ^ 64 - dot c b) / pivot b))
  changed ne =
      let lt = leads_before ne in
      let q = lead b in
      let range : dot c b < 2 ^ 64 = mod-lt (dot_sum c b) (pow_pos 64) in
      let some : 0 < dot c b = elim (cases_lt 0 (dot c b)) [ inl h ↦ h | inr h ↦ absurd (ne (omega arith)) ] in
      let x = settling (dot c b) leads.power leads.small range some even in
      let is : (2 ^ 64 - dot c b) / pivot b ≡ x.value = ap (λ (p : ℕ). (2 ^ 64 - dot c b) / p) leads.is_pivot ∙ x.is in
      rw is (filled lt x)
    where
      filled : lead b < j → (x : Word (dot c b) leads.power) → IsRelation n (b ∷ rest) j w (set c (lead b) x.value)
      filled lt x =
          let wide = r.is_row.width in
          let none = zero_there lt in
          let power_le : x.value < 2 ^ 64 = let a = whole leads.power leads.small in let b = x.below in let p = pow_pos leads.power in below_whole x.value (2 ^ (64 - leads.power)) (2 ^ leads.power) (2 ^ 64) a b p in
          let word_is : word x.value ≡ x.value = mod-eq_of_lt power_le in
          let set_row : IsRow n (set c (lead b) (word x.value)) = IsRow-set n (lead b) x.value c r.is_row in
          let at_set = get_or-set_same c (lead b) x.value 0 (omega arith) in
          record {
            is_row = row_again word_is set_row;
            vanishes = λ v h. elim (first_or_later b rest v h) [
              | inl e ↦ ap (λ (y : List ℕ). dot (set c (lead b) x.value) y) e ∙ at_b x none (omega arith)
              | inr m ↦
                  let later : lead b < lead v = All-contains (λ y. lead b < lead y) rest v leads.later m in
                  at_later x none (omega arith) v (get_or_before_lead v (lead b) later) ∙ r.vanishes v m
            ];
            after = λ k past. get_or-set_other c (lead b) k x.value 0 (λ e. omega arith) ∙ r.after k past;
            at = get_or-set_other c (lead b) j x.value 0 (λ e. omega arith) ∙ r.at;
            below = λ k before. elim (cases_eq (lead b) k) [
              | inl e ↦
                  let h : slice_index (set c (lead b) x.value) (lead b) < bound (b ∷ rest) (lead b) = let g = bound_here in let y = x.below in omega arith in
                  moved k e h
              | inr other ↦ let e = bound_there k other in let h = r.below k before in let o = get_or-set_other c (lead b) k x.value 0 (λ i. other (sym i)) in omega arith
            ];
          }
        where
          below_whole : (v a p m : ℕ) → m ≡ a * p → v < a → 0 < p → v < m
          below_whole v a zero m e h pos = absurd (omega arith)
          below_whole v a (suc p) m e h pos = let s : a * suc p ≡ a * p + a = omega arith in omega arith

          row_again : word x.value ≡ x.value → IsRow n (set c (lead b) (word x.value)) → IsRow n (set c (lead b) x.value)
          row_again e p = rw (← e) p

          moved : (k : ℕ) → lead b ≡ k → slice_index (set c (lead b) x.value) (lead b) < bound (b ∷ rest) (lead b) → slice_index (set c (lead b) x.value) k < bound (b ∷ rest) k
          moved k e h = rw (← e) h

          at_later : (x : Word (dot c b) leads.power) → slice_index c (lead b) ≡ 0 → lead b < length c → (v : List ℕ) → slice_index v (lead b) ≡ 0 → dot (set c (lead b) x.value) v ≡ dot c v
          at_later x none below v z =
              let s = dot_set c v (lead b) x.value below in
              let f : get_or c (lead b) 0 * get_or v (lead b) 0 ≡ 0 = rw z (omega arith) in
              let g : x.value * get_or v (lead b) 0 ≡ 0 = rw z (omega arith) in
              let e : dot_sum (set c (lead b) x.value) v ≡ dot_sum c v = omega arith in ap word e

          at_b : (x : Word (dot c b) leads.power) → slice_index c (lead b) ≡ 0 → lead b < length c → dot (set c (lead b) x.value) b ≡ 0
          at_b x none below =
              let s = dot_set c b (lead b) x.value below in
              let f : get_or c (lead b) 0 * get_or b (lead b) 0 ≡ 0 = rw none (omega arith) in
              let g : x.value * get_or b (lead b) 0 ≡ x.value * 2 ^ leads.power = ap (λ (y : ℕ). x.value * y) leads.is_pivot in
              let e : dot_sum (set c (lead b) x.value) b ≡ dot_sum c b + x.value * 2 ^ leads.power = omega arith in
              ap word e ∙ sym (mod-add-mod (dot_sum c b) (2 ^ 64) (x.value * 2 ^ leads.power)) ∙ ap word x.fills

  pub relation_more : IsRelation n (b ∷ rest) j w (settled c b)
  relation_more = elim (cases_eq (dot c b) 0) [
    | inl z ↦ let e = cond-true (eqb (dot c b) 0) c (set c (lead b) ((2 ^ 64 - dot c b) / pivot b)) (eq-eqb (dot c b) 0 z) in rw e (kept z)
    | inr ne ↦ let e = cond-false (eqb (dot c b) 0) c (set c (lead b) ((2 ^ 64 - dot c b) / pivot b)) (ne_eqb (dot c b) 0 ne) in rw e (changed ne)
  ]

-- the next earlier row of a basis
pub relation_step : (n i j w : ℕ) (rows : List (List ℕ)) (row c : List ℕ) → IsLeadingBasis n rows → i < length rows → j < n → w ≡ bound rows j → row ≡ get_or rows i row → IsRelation n (drop (suc i) rows) j w c → IsRelation n (drop i rows) j w (settled c row)
relation_step n i j w rows row c basis below inside is_word is r =
    let b = basis_after n rows i row below (basis_reached n 0 i rows (omega arith) (omega arith) basis) in
    let leads = subst (λ (x : List ℕ). Leads n x (drop (suc i) rows)) (sym is) b.0 in
    let there = subst (λ (x : List ℕ). Contains rows x) (sym is) (Contains-get_or rows i row below) in
    let more = relation_more n j w row (drop (suc i) rows) c leads (basis_rows n (drop (suc i) rows) b.1) inside
    (λ e. ap (λ (x : ℕ). word (x * pivot row)) is_word ∙ closes n rows row j basis there e leads.power leads.small leads.is_pivot) r in
    let cut : drop i rows ≡ row ∷ drop (suc i) rows = drop-cons rows i row below ∙ ap (λ (x : List ℕ). x ∷ drop (suc i) rows) (sym is) in
    rw cut more

-- the start, before the rows of a basis that lead before the position
pub relation_from : (n at j w : ℕ) (rows : List (List ℕ)) → IsLeadingBasis n rows → at ≤ length rows → j < n → w < 2 ^ 64 → w ≡ bound rows j → All (λ r. j ≤ lead r) (drop at rows) → IsRelation n (drop at rows) j w (set (replicate n 0) j w)
relation_from n at j w rows basis within below small is_word later =
    relation_start n j w (drop at rows) below small (basis_reached n 0 at rows (omega arith) within basis) later (λ v h e.
    let there : Contains rows v = subst (λ (x : List (List ℕ)). Contains x v) (take-append-drop at rows) (Contains-append_right (take at rows) (drop at rows) v h) in
    let p = power_of_member n rows v basis there in
    ap (λ (x : ℕ). word (x * pivot v)) is_word ∙ closes n rows v j basis there e p.0 p.1 p.2)
