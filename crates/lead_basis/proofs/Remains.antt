-- Remainders by a leading-position basis: there is one, and it is zero exactly for the members.
use Rattle.std.proofs.Common.{◌≡◌, ℕ, ◌+◌, ◌-◌, ◌*◌, ◌^◌, ◌<◌, List, [], ◌∷◌, All, Contains, slice_index, replicate, refl, ap, sym, ◌∙◌, arith, mod-lt}
use Rattle.std.proofs.lemmas.Nat.{pow_pos}
use Rattle.std.proofs.lemmas.List.Elements.{All-nil, All-cons, All-head, All-tail}
use Rattle.word_rows.specs.Words.{word}
use Rattle.word_rows.specs.Rows.{words_of, plus, lead, pivot, IsRow}
use Rattle.word_rows.proofs.Laws.{get_or-zeros, IsRow-zeros, times-one}
use Rattle.row_modules.specs.Modules.{IsCombination, none, more}
use Rattle.row_modules.specs.Bases.{IsLeadingBasis}
use Rattle.row_modules.proofs.Laws.{zeros-plus, plus_zeros, combination_is_row, combination_sum}
use Rattle.row_modules.proofs.Laws.{nothing_contained}
use Rattle.lead_basis.specs.Remainders.{IsRemainder}
use Rattle.lead_basis.proofs.Powers.{no_multiple}
use Rattle.lead_basis.proofs.Positions.{index_of_sum, index_of_word, take_back}
use Rattle.lead_basis.proofs.Leading.{basis_rows, pivot_divides, drop_first}

pub empty_span : (n : ℕ) (v : List ℕ) → IsCombination n (Contains []) v → v ≡ replicate n 0
empty_span n v (none v' e) = e
empty_span n w (more c v row w' m p e) = absurd (nothing_contained row p)

abbrev pub IsBelow : List ℕ → List (List ℕ) → Type 0
IsBelow v rows = All (λ r. slice_index v (lead r) < pivot r) rows

-- two rows that are below the pivots and differ by a member are equal
pub same_remainder : (n : ℕ) (rows : List (List ℕ)) (v w u : List ℕ) → IsLeadingBasis n rows → IsRow n v → IsRow n w → IsBelow v rows → IsBelow w rows → IsCombination n (Contains rows) u → v ≡ words_of (plus 1 w u) → v ≡ w
same_remainder n [] v w u b p q below_v below_w m e =
    e ∙ ap (λ (x : List ℕ). words_of (plus 1 w x)) (empty_span n u m) ∙ plus_zeros n 1 w q
same_remainder n (row ∷ rest) v w u b p q below_v below_w m e =
    let leads = b.0 in
    let rows = basis_rows n rest b.1 in
    let small = leads.small in
    let t = leads.power in
    let d = pivot_divides n row rest leads rows u m in
    let r = combination_is_row n (Contains (row ∷ rest)) (basis_rows n (row ∷ rest) b) u m in
    let P = λ (x : List ℕ) (y : List ℕ). slice_index x (lead y) < pivot y in
    let lv : slice_index v (lead row) < 2 ^ leads.power = let h = All-head (λ y. slice_index v (lead y) < pivot y) row rest below_v in let i = leads.is_pivot in omega arith in
    let lw : slice_index w (lead row) < 2 ^ leads.power = let h = All-head (λ y. slice_index w (lead y) < pivot y) row rest below_w in let i = leads.is_pivot in omega arith in
    let range : slice_index u (lead row) < 2 ^ 64 = let x = index_of_word n u (lead row) r in let y : word (slice_index u (lead row)) < 2 ^ 64 = mod-lt (slice_index u (lead row)) (pow_pos 64) in omega arith in
    let sum : slice_index v (lead row) ≡ word (slice_index w (lead row) + d.0 * 2 ^ leads.power) =
    ap (λ (x : List ℕ). slice_index x (lead row)) e ∙ index_of_sum n 1 w u (lead row) q r
    ∙ ap word (let z : slice_index w (lead row) + 1 * slice_index u (lead row) ≡ slice_index w (lead row) + d.0 * 2 ^ leads.power = omega (arith, d.1) in z) in
    let none_left : d.0 * 2 ^ leads.power ≡ 0 = no_multiple (slice_index v (lead row)) (slice_index w (lead row)) d.0 (64 - leads.power) leads.power (omega arith) lv lw (omega (arith, d.1, range)) sum in
    let later = drop_first n row rest leads rows u m (d.1 ∙ none_left) in
    same_remainder n rest v w u b.1 p q (All-tail (λ y. slice_index v (lead y) < pivot y) row rest below_v) (All-tail (λ y. slice_index w (lead y) < pivot y) row rest below_w) later e

zeros_below : (n : ℕ) (rows : List (List ℕ)) → IsLeadingBasis n rows → IsBelow (replicate n 0) rows
zeros_below n [] b = All-nil (λ y. slice_index (replicate n 0) (lead y) < pivot y)
zeros_below n (row ∷ rest) b =
    let e = get_or-zeros n (lead row) in
    let p = b.0.is_pivot in
    let s = pow_pos b.0.power in
    let here : slice_index (replicate n 0) (lead row) < pivot row = omega (arith, e, p, s) in
    All-cons (λ y. slice_index (replicate n 0) (lead y) < pivot y) row rest here (zeros_below n rest b.1)

-- a row is a member exactly where its remainder is zero
pub member_from_zero : (n : ℕ) (rows : List (List ℕ)) (row rest : List ℕ) → IsLeadingBasis n rows → IsRemainder n rows row rest → rest ≡ replicate n 0 → IsCombination n (Contains rows) row
member_from_zero n rows row rest b r z =
    let w = combination_is_row n (Contains rows) (basis_rows n rows b) r.taken r.combination in
    let e : r.taken ≡ row =
    sym (zeros-plus n 1 r.taken w.width ∙ ap words_of (times-one r.taken) ∙ w.words)
    ∙ ap (λ (x : List ℕ). words_of (plus 1 x r.taken)) (sym z) ∙ sym r.is in
    rw (← e) r.combination

-- what is left of a member is a member
pub rest_of_member : (n : ℕ) (rows : List (List ℕ)) (row rest : List ℕ) → IsLeadingBasis n rows → IsRemainder n rows row rest → IsCombination n (Contains rows) row → IsCombination n (Contains rows) rest
rest_of_member n rows row rest b r m =
    let wide = basis_rows n rows b in
    let w = combination_is_row n (Contains rows) wide r.taken r.combination in
    let e = ap (λ (x : List ℕ). words_of (plus (2 ^ 64 - 1) x r.taken)) r.is ∙ take_back n (2 ^ 64 - 1) 1 rest r.taken r.is_row w refl in
    rw (← e) (combination_sum n (Contains rows) wide (2 ^ 64 - 1) row r.taken m r.combination)

pub zero_from_member : (n : ℕ) (rows : List (List ℕ)) (row rest : List ℕ) → IsLeadingBasis n rows → IsRemainder n rows row rest → IsCombination n (Contains rows) row → rest ≡ replicate n 0
zero_from_member n rows row rest b r m =
    same_remainder n rows rest (replicate n 0) rest b r.is_row (IsRow-zeros n) r.below (zeros_below n rows b) (rest_of_member n rows row rest b r m)
    (sym (zeros-plus n 1 rest r.is_row.width ∙ ap words_of (times-one rest) ∙ r.is_row.words))
