-- The pivots of a basis, by position.
use Rattle.std.proofs.Common.{◌≡◌, ℕ, zero, suc, ◌+◌, ◌-◌, ◌*◌, ◌/◌, ◌^◌, ◌<◌, ◌≤◌, ◌⊎◌, inl, inr, List, [], ◌∷◌, length, get_or, drop, subst, All, Contains, add-one, drop_of_length-le, eqb, refl, ap, ap₂, sym, ◌∙◌, arith}
use Rattle.std.proofs.Math.Nat.{mul-mod_right}
use Rattle.std.proofs.lemmas.Bool.{cases_eq, cases_lt, cond-true, cond-false, eq-eqb, ne_eqb}
use Rattle.std.proofs.lemmas.Nat.{pow_pos, pow-add, shl-shr}
use Rattle.std.proofs.lemmas.List.Elements.{All-nil, All-cons, All-head, All-tail, All-weaker, All-contains}
use Rattle.std.proofs.Math.Seq.{drop-cons}
use Rattle.word_rows.specs.Words.{word}
use Rattle.word_rows.specs.Rows.{lead, pivot}
use Rattle.row_modules.specs.Bases.{IsLeadingBasis}
use Rattle.row_modules.proofs.Laws.{contains_first, contains_later, first_or_later, nothing_contained}
use Rattle.lead_basis.proofs.Places.{basis_after}
use Rattle.lead_basis.proofs.Reached.{basis_reached}
use Rattle.lead_basis.specs.Relations.{pivot_at, pivot_first, place_after, closing_word, bound}

pub pivot_here : (row : List ℕ) (rest : List (List ℕ)) (j : ℕ) → lead row ≡ j → pivot_at (row ∷ rest) j ≡ pivot row
pivot_here row rest j e = cond-true (eqb (lead row) j) (pivot row) (pivot_at rest j) (eq-eqb (lead row) j e)

pub pivot_there : (row : List ℕ) (rest : List (List ℕ)) (j : ℕ) → (lead row ≡ j → ⊥) → pivot_at (row ∷ rest) j ≡ pivot_at rest j
pivot_there row rest j ne = cond-false (eqb (lead row) j) (pivot row) (pivot_at rest j) (ne_eqb (lead row) j ne)

-- rows that lead later have no pivot here
pub no_pivot : (rows : List (List ℕ)) (j : ℕ) → All (λ r. j < lead r) rows → pivot_at rows j ≡ 0
no_pivot [] j later = refl
no_pivot (row ∷ rest) j later =
    let h : j < lead row = All-head (λ r. j < lead r) row rest later in
    pivot_there row rest j (λ e. omega arith) ∙ no_pivot rest j (All-tail (λ r. j < lead r) row rest later)

-- the row that leads at a position
pub record LeadsAt (rows : List (List ℕ)) (j : ℕ) : Type 0 where
  pub row : List ℕ
  pub member : Contains rows row
  pub here : lead row ≡ j
  pub power : ℕ
  pub small : power < 64
  pub is_pivot : pivot row ≡ 2 ^ power
  pub same : pivot_at rows j ≡ 2 ^ power

pub found : (n : ℕ) (rows : List (List ℕ)) (j : ℕ) → IsLeadingBasis n rows → (pivot_at rows j ≡ 0) ⊎ LeadsAt rows j
found n [] j b = inl refl
found n (row ∷ rest) j b = elim (cases_eq (lead row) j) [
  | inl e ↦ inr (record {
    row = row;
    member = contains_first row rest;
    here = e;
    power = b.0.power;
    small = b.0.small;
    is_pivot = b.0.is_pivot;
    same = pivot_here row rest j e ∙ b.0.is_pivot;
  })
  | inr ne ↦ elim (found n rest j b.1) [
    | inl z ↦ inl (pivot_there row rest j ne ∙ z)
    | inr f ↦ inr (record {
      row = f.row;
      member = contains_later row rest f.row f.member;
      here = f.here;
      power = f.power;
      small = f.small;
      is_pivot = f.is_pivot;
      same = pivot_there row rest j ne ∙ f.same;
    })
  ]
]

-- the pivot at the lead of a row is the row's
pub pivot_of_member : (n : ℕ) (rows : List (List ℕ)) (b : List ℕ) → IsLeadingBasis n rows → Contains rows b → pivot_at rows (lead b) ≡ pivot b
pivot_of_member n [] b basis (i, below, e) = absurd (omega arith)
pivot_of_member n (row ∷ rest) b basis (zero, below, e) = pivot_here row rest (lead b) (ap lead e) ∙ ap pivot e
pivot_of_member n (row ∷ rest) b basis (suc i, below, e) =
    let m : Contains rest b = (i, omega arith, e) in
    let later : lead row < lead b = All-contains (λ r. lead row < lead r) rest b basis.0.later m in
    pivot_there row rest (lead b) (λ h. omega arith) ∙ pivot_of_member n rest b basis.1 m

-- what closes a pivot
pub whole : (t : ℕ) → t < 64 → 2 ^ 64 ≡ 2 ^ (64 - t) * 2 ^ t
whole t small = ap (λ (k : ℕ). 2 ^ k) (let e : 64 ≡ (64 - t) + t = omega arith in e) ∙ pow-add 2 (64 - t) t

pub closing_zero : (p : ℕ) → p ≡ 0 → closing_word p ≡ 1
closing_zero p z = cond-true (eqb p 0) 1 (2 ^ 64 / p) (eq-eqb p 0 z)

pub closing_power : (p t : ℕ) → t < 64 → p ≡ 2 ^ t → closing_word p ≡ 2 ^ (64 - t)
closing_power p t small e =
    let s = pow_pos t in
    cond-false (eqb p 0) 1 (2 ^ 64 / p) (ne_eqb p 0 (λ z. omega (arith, z, e, s)))
    ∙ ap (λ (x : ℕ). 2 ^ 64 / x) e ∙ ap (λ (x : ℕ). x / 2 ^ t) (whole t small) ∙ shl-shr (2 ^ (64 - t)) t

pub closes : (n : ℕ) (rows : List (List ℕ)) (b : List ℕ) (j : ℕ) → IsLeadingBasis n rows → Contains rows b → lead b ≡ j → (t : ℕ) → t < 64 → pivot b ≡ 2 ^ t → word (bound rows j * pivot b) ≡ 0
closes n rows b j basis m e t small is =
    let p : pivot_at rows j ≡ 2 ^ t = ap (λ (k : ℕ). pivot_at rows k) (sym e) ∙ pivot_of_member n rows b basis m ∙ is in
    let c = closing_power (pivot_at rows j) t small p in
    let w : bound rows j * pivot b ≡ 2 ^ 64 * 1 = ap₂ (λ (x y : ℕ). x * y) c is ∙ sym (whole t small) ∙ (let o : 2 ^ 64 ≡ 2 ^ 64 * 1 = omega arith in o) in
    ap word w ∙ mul-mod_right (2 ^ 64) 1

pub bound_some : (n : ℕ) (rows : List (List ℕ)) (j : ℕ) → IsLeadingBasis n rows → 0 < bound rows j
bound_some n rows j basis = elim (found n rows j basis) [
  | inl z ↦ let e = closing_zero (pivot_at rows j) z in omega arith
  | inr f ↦ let e = closing_power (pivot_at rows j) f.power f.small f.same in let p = pow_pos (64 - f.power) in omega arith
]

pub power_of_member : (n : ℕ) (rows : List (List ℕ)) (b : List ℕ) → IsLeadingBasis n rows → Contains rows b → (t : ℕ) × (t < 64) × (pivot b ≡ 2 ^ t)
power_of_member n [] b basis m = absurd (nothing_contained b m)
power_of_member n (row ∷ rest) b basis m = elim (first_or_later row rest b m) [
  | inl e ↦ (basis.0.power, basis.0.small, ap pivot e ∙ basis.0.is_pivot)
  | inr later ↦ power_of_member n rest b basis.1 later
]

-- the rows before a place lead before position j, and no row from there on does
pub record Passed (rows : List (List ℕ)) (j at : ℕ) : Type 0 where
  pub within : at ≤ length rows
  pub later : All (λ r. j ≤ lead r) (drop at rows)
  pub same : (k : ℕ) → j ≤ k → pivot_at rows k ≡ pivot_at (drop at rows) k

pub passed_none : (rows : List (List ℕ)) → Passed rows 0 0
passed_none rows = record { within = omega arith; later = λ i d lt. omega arith; same = λ k le. refl }

module _ (n : ℕ) (rows : List (List ℕ)) (j at : ℕ) (basis : IsLeadingBasis n rows) (p : Passed rows j at) where
  -- no row leads at j
  kept : pivot_at (drop at rows) j ≡ 0 → pivot_first (drop at rows) j ≡ 0 → All (λ r. suc j ≤ lead r) (drop at rows) → (pivot_first (drop at rows) j ≡ pivot_at rows j) × Passed rows (suc j) (place_after at (pivot_first (drop at rows) j))
  kept none first later =
      let e = cond-true (eqb (pivot_first (drop at rows) j) 0) at (at + 1) (eq-eqb (pivot_first (drop at rows) j) 0 first) in (
        first ∙ sym (p.same j (omega arith) ∙ none),
        rw e (record { within = p.within; later = later; same = λ k le. p.same k (omega arith) }),
      )

  pub passed_more : (pivot_first (drop at rows) j ≡ pivot_at rows j) × Passed rows (suc j) (place_after at (pivot_first (drop at rows) j))
  passed_more = elim (cases_lt at (length rows)) [
    | inl below ↦
        let b = basis_after n rows at [] below (basis_reached n 0 at rows (omega arith) p.within basis) in
        let cut : drop at rows ≡ get_or rows at [] ∷ drop (suc at) rows = drop-cons rows at [] below in
        let row = get_or rows at [] in
        let from : j ≤ lead (get_or rows at []) = All-head (λ r. j ≤ lead r) (get_or rows at []) (drop (suc at) rows) (subst (λ (x : List (List ℕ)). All (λ r. j ≤ lead r) x) cut p.later) in
        elim (cases_eq (lead (get_or rows at [])) j) [
          | inl e ↦
              let first : pivot_first (drop at rows) j ≡ pivot (get_or rows at []) = ap (λ (x : List (List ℕ)). pivot_first x j) cut ∙ cond-true (eqb (lead (get_or rows at [])) j) (pivot (get_or rows at [])) 0 (eq-eqb (lead (get_or rows at [])) j e) in
              let here : pivot_at (drop at rows) j ≡ pivot (get_or rows at []) = ap (λ (x : List (List ℕ)). pivot_at x j) cut ∙ pivot_here (get_or rows at []) (drop (suc at) rows) j e in
              let some = pow_pos b.0.power in
              let is = b.0.is_pivot in
              let next : place_after at (pivot_first (drop at rows) j) ≡ suc at =
              cond-false (eqb (pivot_first (drop at rows) j) 0) at (at + 1) (ne_eqb (pivot_first (drop at rows) j) 0 (λ z. omega arith)) ∙ add-one at in (
                first ∙ sym (p.same j (omega arith) ∙ here),
                rw next (record {
                  within = omega arith;
                  later = All-weaker (λ r. lead (get_or rows at []) < lead r) (λ r. suc j ≤ lead r) (λ r h. omega arith) (drop (suc at) rows) b.0.later;
                  same = λ k le.
                      p.same k (omega arith) ∙ ap (λ (x : List (List ℕ)). pivot_at x k) cut ∙ pivot_there (get_or rows at []) (drop (suc at) rows) k (λ i. omega arith);
                }),
              )
          | inr other ↦
              let later : All (λ r. suc j ≤ lead r) (get_or rows at [] ∷ drop (suc at) rows) =
              All-cons (λ r. suc j ≤ lead r) (get_or rows at []) (drop (suc at) rows) (omega arith)
              (All-weaker (λ r. lead (get_or rows at []) < lead r) (λ r. suc j ≤ lead r) (λ r h. omega arith) (drop (suc at) rows) b.0.later) in
              let all : All (λ r. suc j ≤ lead r) (drop at rows) = rw cut later in
              kept (no_pivot (drop at rows) j (All-weaker (λ r. suc j ≤ lead r) (λ r. j < lead r) (λ r h. omega arith) (drop at rows) all))
              (ap (λ (x : List (List ℕ)). pivot_first x j) cut ∙ cond-false (eqb (lead (get_or rows at [])) j) (pivot (get_or rows at [])) 0 (ne_eqb (lead (get_or rows at [])) j other)) all
        ]
    | inr past ↦
        let none : drop at rows ≡ [] = drop_of_length-le rows {i = at} past in
        kept (ap (λ (x : List (List ℕ)). pivot_at x j) none) (ap (λ (x : List (List ℕ)). pivot_first x j) none) (rw none (All-nil (λ r. suc j ≤ lead r)))
  ]

pub passed_on : (n : ℕ) (rows other : List (List ℕ)) (j at value next : ℕ) → IsLeadingBasis n rows → other ≡ rows → value ≡ pivot_first (drop at other) j → next ≡ place_after at value → Passed rows j at → (value ≡ pivot_at rows j) × Passed rows (suc j) next
passed_on n rows other j at value next basis same is next_is p =
    let first : value ≡ pivot_first (drop at rows) j = is ∙ ap (λ (x : List (List ℕ)). pivot_first (drop at x) j) same in
    let q = passed_more n rows j at basis p in
    let to : next ≡ place_after at (pivot_first (drop at rows) j) = next_is ∙ ap (λ (x : ℕ). place_after at x) first in (first ∙ q.0, rw to q.1)
