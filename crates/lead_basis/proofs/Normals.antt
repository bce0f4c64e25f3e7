-- Rows whose pivot is made a power of two.
use Rattle.std.proofs.Common.{refl, ◌≡◌, ℕ, ◌*◌, ◌^◌, ◌<◌, List, slice_index, ap, sym, ◌∙◌, arith}
use Rattle.std.proofs.Math.Nat.{mod-eq_of_lt}
use Rattle.std.proofs.lemmas.Nat.{pow_pos, pow_below, mul-mod_second}
use Rattle.word_rows.specs.Words.{word}
use Rattle.word_rows.specs.Rows.{words_of, times, lead, IsRow}
use Rattle.word_rows.proofs.Laws.{get_or_at_lead, IsWord-get_or, has_inverse, has_odd_part, get_or_before_lead, lead_from_index, words_of-times, words_of-times_factor, times-times, times-one, IsRow-times}
use Rattle.lead_basis.specs.Remainders.{IsNormal}
use Rattle.lead_basis.proofs.Positions.{index_of_multiple}

module _ (n : ℕ) (row own : List ℕ) (t odd inverse : ℕ) (row_is : IsRow n row) (inside : lead row < n) (product : slice_index row (lead row) ≡ 2 ^ t * odd) (small : t < 64) (inverts : word (odd * inverse) ≡ 1) (is : own ≡ words_of (times inverse row)) where
  at_lead : slice_index own (lead row) ≡ 2 ^ t
  at_lead =
      let e : inverse * (2 ^ t * odd) ≡ 2 ^ t * (odd * inverse) = omega arith in
      let one : 2 ^ t * 1 ≡ 2 ^ t = omega arith in
      ap (λ (x : List ℕ). slice_index x (lead row)) is ∙ index_of_multiple inverse row (lead row) ∙ ap (λ (x : ℕ). word (inverse * x)) product ∙ ap word e
      ∙ sym (mul-mod_second (2 ^ t) (odd * inverse) (2 ^ 64)) ∙ ap (λ (x : ℕ). word (2 ^ t * x)) inverts ∙ ap word one ∙ mod-eq_of_lt (pow_below t 64 small)

  before_lead : (k : ℕ) → k < lead row → slice_index own k ≡ 0
  before_lead k before =
      ap (λ (x : List ℕ). slice_index x k) is ∙ index_of_multiple inverse row k ∙ ap (λ (x : ℕ). word (inverse * x)) (get_or_before_lead row k before)
      ∙ ap word (let z : inverse * 0 ≡ 0 = omega arith in z)

  own_is_row : IsRow n own
  own_is_row = rw is (IsRow-times n inverse row row_is)

  same : lead own ≡ lead row
  same =
      let w = own_is_row.width in
      let p = pow_pos t in
      let a = at_lead in
      lead_from_index own (lead row) (omega arith) (λ z. omega (arith, z, a, p)) before_lead

  pub normal_of : IsNormal n row own
  normal_of = record {
    is_row = own_is_row;
    same_lead = same;
    power = t;
    small = small;
    is_pivot = ap (λ (k : ℕ). slice_index own k) same ∙ at_lead;
    factor = inverse;
    is = is;
    inverse = odd;
    back = sym (
        ap (λ (x : List ℕ). words_of (times odd x)) is ∙ words_of-times odd (times inverse row) ∙ ap words_of (times-times odd inverse row)
        ∙ sym (words_of-times_factor (odd * inverse) row) ∙ ap (λ (x : ℕ). words_of (times x row)) inverts ∙ ap words_of (times-one row) ∙ row_is.words
        );
  }

-- each row that isn't zero has such a multiple
pub has_normal : (n : ℕ) (row : List ℕ) → IsRow n row → lead row < n → (own : List ℕ) × IsNormal n row own
has_normal n row is inside =
    let w = is.width in
    let part = has_odd_part (slice_index row (lead row)) (get_or_at_lead row (omega arith)) (IsWord-get_or n row is (lead row)) in
    let inverse = has_inverse part.odd part.is_odd in (
      words_of (times inverse.0 row),
      normal_of n row (words_of (times inverse.0 row)) part.power part.odd inverse.0 is inside part.product part.small inverse.1 refl,
    )
