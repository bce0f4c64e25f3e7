-- What annihilates the multiples by 2^32 of a set, and what holds on the set modulo 2^32.
use Rattle.std.proofs.Common.{◌≡◌, ◌↔◌, ℕ, zero, suc, ◌*◌, ◌^◌, List, ◌∷◌, map, Contains, IsTrue, replicate, refl, ap, ap₂, sym, ◌∙◌, arith}
use Rattle.std.proofs.Math.Nat.{mul-mod_right}
use Rattle.word_rows.specs.Rows.{words_of, plus, times, dot, unit}
use Rattle.row_modules.specs.Modules.{AreRows, IsCombination, none, more, SameModule}
use Rattle.row_modules.specs.Bases.{IsLeadingBasis, IsReduced}
use Rattle.row_modules.specs.Forms.{Annihilates}
use Rattle.row_modules.specs.Positions.{has, IsRowOn}
use Rattle.row_modules.proofs.Laws.{dot_at_multiple, plus_zeros, generator, module_multiple, rows_on_are_module, unit_on}
use Rattle.word_rows.proofs.Laws.{dot-times, IsRow-zeros}
use Rattle.relation_solver.specs.Zero.{HasZeroAlone}
use Rattle.lead_basis.proofs.Laws.{basis_rows, turned, same_annihilators}
use Rattle.narrow_solver.specs.Narrow.{narrow, narrowed, scaled, kept, NarrowHolds, IsNarrowZero}
use Rattle.narrow_solver.specs.Answers.{IsNarrowAnswer}
use Rattle.narrow_solver.proofs.Narrowing.{narrow_word, scaled_word, scaled_is, unscaled, divided}
use Rattle.narrow_solver.proofs.Scaling.{narrow_is_row, narrow_rows, mapped_from, mapped_rows, scaled_member}
use Rattle.narrow_solver.proofs.Keeping.{kept_within}
use Rattle.narrow_solver.proofs.Full.{column, column_is, IsFull}
use Rattle.narrow_solver.proofs.KeptBasis.{full_twin, kept_is_basis, kept_is_reduced}

no_multiple : (x : ℕ) → 2 ^ 32 * x ≡ 0 → x ≡ 0
no_multiple x e = omega arith

-- a form is 0 on 2^32 times a row exactly where its value on the row is a multiple of 2^32
pub scaled_annihilates : (a v : List ℕ) → (dot a (scaled v) ≡ 0) ↔ (narrow (dot a v) ≡ 0)
scaled_annihilates a v =
    let e : dot a (scaled v) ≡ 2 ^ 32 * narrow (dot a v) = dot_at_multiple a (2 ^ 32) v ∙ scaled_word (dot a v) in (
      λ z. no_multiple (narrow (dot a v)) (sym e ∙ z),
      λ z. e ∙ ap (λ (x : ℕ). 2 ^ 32 * x) z,
    )

pub scaled_form : (a v : List ℕ) → (dot (scaled a) v ≡ 0) ↔ (narrow (dot a v) ≡ 0)
scaled_form a v =
    let e : dot (scaled a) v ≡ 2 ^ 32 * narrow (dot a v) = dot-times (2 ^ 32) a v ∙ scaled_word (dot a v) in (
      λ z. no_multiple (narrow (dot a v)) (sym e ∙ z),
      λ z. e ∙ ap (λ (x : ℕ). 2 ^ 32 * x) z,
    )

-- 2^32 times a form is 0 on 2^32 times a row
pub scaled_twice : (a v : List ℕ) → dot (scaled a) (scaled v) ≡ 0
scaled_twice a v =
    (scaled_annihilates (scaled a) v).1 (ap narrow (dot-times (2 ^ 32) a v) ∙ narrow_word (2 ^ 32 * dot a v) ∙ mul-mod_right (2 ^ 32) (dot a v))

-- a zero set spans zero
zeros_span : (n : ℕ) (P : List ℕ → Type 0) → ((v : List ℕ) → P v → v ≡ replicate n 0) → (v : List ℕ) → IsCombination n P v → v ≡ replicate n 0
zeros_span n P h v (none v' e) = e
zeros_span n P h w (more c v row w' m p e) =
    e ∙ ap₂ (λ (x y : List ℕ). words_of (plus c x y)) (zeros_span n P h v m) (h row p) ∙ plus_zeros n c (replicate n 0) (IsRow-zeros n)

unscaled_zeros : (n : ℕ) → unscaled (replicate n 0) ≡ replicate n 0
unscaled_zeros zero = refl
unscaled_zeros (suc n) = ap (λ (x : List ℕ). 0 ∷ x) (unscaled_zeros n)

times_zeros : (n : ℕ) → times (2 ^ 32) (replicate n 0) ≡ replicate n 0
times_zeros zero = refl
times_zeros (suc n) = ap (λ (x : List ℕ). 0 ∷ x) (times_zeros n)

-- 2^32 times a row is zero exactly where the row is 0 modulo 2^32
pub zero_from_scaled : (n : ℕ) (v : List ℕ) → scaled v ≡ replicate n 0 → narrowed v ≡ replicate n 0
zero_from_scaled n v z = sym (divided (narrowed v)) ∙ ap unscaled (sym (scaled_is v) ∙ z) ∙ unscaled_zeros n

pub scaled_zero : (n : ℕ) (v : List ℕ) → narrowed v ≡ replicate n 0 → scaled v ≡ replicate n 0
scaled_zero n v z = scaled_is v ∙ ap (times (2 ^ 32)) z ∙ times_zeros n

-- a basis of the multiples by 2^32 of the rows of a list
module _ (states wide : List (List ℕ)) (are : AreRows 17 (Contains states)) (same : SameModule 17 (Contains wide) (Contains (map scaled states))) where
  pub zero_alone : HasZeroAlone 17 (Contains wide) ↔ IsNarrowZero 17 (Contains states)
  zero_alone = (
    λ z v m. zero_from_scaled 17 v (z (scaled v) (same.back (scaled v) (scaled_member 17 states are v m))),
    λ z w m. zeros_span 17 (Contains (map scaled states))
        (λ u h. let f = mapped_from states u h in f.is ∙ scaled_zero 17 f.of (z f.of (generator 17 (Contains states) are f.of f.there))) w (same.there w m),
  )

  module _ (s : ℕ) (rows : List (List ℕ)) (b : IsLeadingBasis 17 rows) (r : IsReduced rows) (all : (a : List ℕ) → IsCombination 17 (Contains rows) a ↔ Annihilates s (IsCombination 17 (Contains wide)) a) where
    told : (a : List ℕ) → Annihilates s (Contains (map scaled states)) a ↔ Annihilates s (IsCombination 17 (Contains wide)) a
    told a = same_annihilators (Contains (map scaled states)) (Contains wide) (mapped_rows 17 states are) (turned 17 (Contains wide) (Contains (map scaled states)) same) s a

    of_row : (v : List ℕ) → Contains rows v → Annihilates s (IsCombination 17 (Contains wide)) v
    of_row v h = (all v).0 (generator 17 (Contains rows) (basis_rows 17 rows b) v h)

    full_column : (k : ℕ) → IsTrue (has s k) → Annihilates s (Contains (map scaled states)) (scaled (unit 17 k))
    full_column k seen = record {
      on_visible = module_multiple 17 (IsRowOn 17 s) (rows_on_are_module 17 s) (2 ^ 32) (unit 17 k) (unit_on 17 s k seen);
      vanishes = λ v h. let f = mapped_from states v h in let e = f.is in rw e (scaled_twice (unit 17 k) f.of);
    }

    pub is_full : IsFull 17 s 0 rows
    is_full = record {
      basis = b;
      reduced = r;
      hidden = λ v h. (of_row v h).on_visible.hidden;
      above = λ v h. omega arith;
      full = λ k le lt seen. let e = column_is 17 k in (all (column 17 k)).1 ((told (column 17 k)).0 (rw e (full_column k seen)));
    }

    holds_from : (a v : List ℕ) → Annihilates s (IsCombination 17 (Contains wide)) a → IsCombination 17 (Contains states) v → narrow (dot a v) ≡ 0
    holds_from a v n m = (scaled_annihilates a v).0 (n.vanishes (scaled v) (same.back (scaled v) (scaled_member 17 states are v m)))

    annihilates_from : (a : List ℕ) → NarrowHolds s (IsCombination 17 (Contains states)) a → Annihilates s (Contains (map scaled states)) a
    annihilates_from a h = record {
      on_visible = record { row = narrow_is_row 17 a h.row; hidden = h.hidden };
      vanishes = λ v i.
          let f = mapped_from states v i in
          let e = f.is in
          rw e ((scaled_annihilates a f.of).1 (h.zero_at f.of (generator 17 (Contains states) are f.of f.there)));
    }

    -- the kept rows of the reduced annihilator are the answer
    pub kept_answer : IsNarrowAnswer s (IsCombination 17 (Contains states)) (kept rows)
    kept_answer =
        let basis = kept_is_basis 17 s 0 rows is_full in
        record {
          basis = basis;
          reduced = kept_is_reduced rows r;
          generates = record {
            inside = λ v h.
                let n = of_row v (kept_within rows v h).there in
                record { row = narrow_rows 17 (kept rows) basis v h; hidden = n.on_visible.hidden; zero_at = λ u m. holds_from v u n m };
            all = λ a h.
                let t = full_twin 17 s 0 rows is_full a ((all a).1 ((told a).0 (annihilates_from a h))) in
                record { whole = t.twin; combination = t.combination; is = sym h.row.words ∙ t.same };
          };
        }
