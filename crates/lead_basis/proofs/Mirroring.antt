-- A basis of turned rows, row by row.
use Rattle.std.proofs.Common.{◌≡◌, ℕ, ◌+◌, ◌-◌, ◌<◌, ◌⊎◌, inl, inr, false, List, [], ◌∷◌, ◌++◌, length, get_or, take, reverse, Contains, ap, sym, ◌∙◌, subst, arith}
use Rattle.std.proofs.lemmas.Bool.{cases_Bool}
use Rattle.std.proofs.lemmas.Grind.{same_number_lists}
use Rattle.std.proofs.lemmas.List.{take_more}
use Rattle.std.proofs.lemmas.List.Elements.{Contains-append_left}
use Rattle.word_rows.specs.Words.{word}
use Rattle.word_rows.specs.Rows.{words_of, dot, IsRow}
use Rattle.word_rows.proofs.Laws.{get_or-words_of, length-words_of}
use Rattle.row_modules.specs.Modules.{AreRows, SameModule}
use Rattle.row_modules.specs.Bases.{IsLeadingBasis}
use Rattle.row_modules.specs.Positions.{has, IsRowOn}
use Rattle.row_modules.proofs.Laws.{contains_first, contains_later, first_or_later, nothing_contained, rows_with, generator, vanishes_on_module}
use Rattle.lead_basis.proofs.Positions.{zero_at}
use Rattle.lead_basis.proofs.Leading.{basis_rows}
use Rattle.lead_basis.specs.Mirrors.{masked, mirror, Mirrors}
use Rattle.lead_basis.proofs.Turned.{turned_index, turned_row, length-masked, masked_out, masked_in, dot_mirror}

-- the words turned are a row
masked_row : (s : ℕ) (v : List ℕ) → IsRow 17 v → IsRow 17 (masked s 0 v)
masked_row s v row = record {
  width = length-masked s 0 v ∙ row.width;
  words = same_number_lists (words_of (masked s 0 v)) (masked s 0 v) (length-words_of (masked s 0 v))
      (λ k below. get_or-words_of (masked s 0 v) k ∙ elim (cases_Bool (has s (0 + k))) [
        | inl seen ↦ let e = masked_in s 0 k v seen in ap word e ∙ sym (get_or-words_of v k) ∙ ap (λ (xs : List ℕ). get_or xs k 0) row.words ∙ sym e
        | inr out ↦ let e = masked_out s 0 k v out in ap word e ∙ sym e
      ]);
}

mirror_row : (s : ℕ) (v : List ℕ) → IsRow 17 v → IsRow 17 (mirror s v)
mirror_row s v row = turned_row 17 (masked s 0 v) (masked_row s v row)

mirror_hidden : (s : ℕ) (v : List ℕ) (k : ℕ) → IsRow 17 v → k < 17 → has s k ≡ false → get_or (mirror s v) (16 - k) 0 ≡ 0
mirror_hidden s v k row below out =
    turned_index 17 (masked s 0 v) (16 - k) (masked_row s v row) (omega arith)
    ∙ ap (λ (i : ℕ). get_or (masked s 0 v) i 0) (let e : 17 - 1 - (16 - k) ≡ k = omega arith in e)
    ∙ masked_out s 0 k v (let e : 0 + k ≡ k = omega arith in ap (λ (i : ℕ). has s i) e ∙ out)

pub mirrors_none : (s : ℕ) → Mirrors s [] []
mirrors_none s = record {
  are = λ v h. absurd (nothing_contained v h);
  basis = tt;
  hidden = λ k below out b h. absurd (nothing_contained b h);
  there = λ a on z v h. absurd (nothing_contained v h);
  back = λ a on z v h. absurd (nothing_contained v h);
}

in_pushed : (xs : List (List ℕ)) (row v : List ℕ) → Contains xs v → Contains (xs ++ row ∷ []) v
in_pushed xs row v h = Contains-append_left xs (row ∷ []) v h

last_pushed : (xs : List (List ℕ)) (row : List ℕ) → Contains (xs ++ row ∷ []) row
last_pushed [] row = contains_first row []
last_pushed (x ∷ xs) row = contains_later x (xs ++ row ∷ []) row (last_pushed xs row)

pushed_cases : (xs : List (List ℕ)) (row v : List ℕ) → Contains (xs ++ row ∷ []) v → Contains xs v ⊎ (v ≡ row)
pushed_cases [] row v h = elim (first_or_later row [] v h) [ inl e ↦ inr e | inr k ↦ absurd (nothing_contained v k) ]
pushed_cases (x ∷ xs) row v h = elim (first_or_later x (xs ++ row ∷ []) v h) [
  | inl e ↦ inl (rw e (contains_first x xs))
  | inr k ↦ elim (pushed_cases xs row v k) [ inl i ↦ inl (contains_later x xs v i) | inr e ↦ inr e ]
]

module _ (s : ℕ) (xs old new : List (List ℕ)) (row : List ℕ) (is_row : IsRow 17 row) (basis : IsLeadingBasis 17 new) (same : SameModule 17 (Contains new) (Contains (mirror s row ∷ old))) (m : Mirrors s xs old) where
  wide : AreRows 17 (Contains (mirror s row ∷ old))
  wide = rows_with 17 (mirror s row) old (mirror_row s row is_row) (basis_rows 17 old m.basis)

  own : AreRows 17 (Contains new)
  own = basis_rows 17 new basis

  form : (a : List ℕ) → IsRowOn 17 s a → dot (reverse a) (mirror s row) ≡ dot a row
  form a on = dot_mirror s a row (on.row.width ∙ sym is_row.width) on.hidden

  mirrors_push : Mirrors s (xs ++ row ∷ []) new
  mirrors_push = record {
    are = λ v h. elim (pushed_cases xs row v h) [ inl i ↦ m.are v i | inr e ↦ rw e is_row ];
    basis = basis;
    hidden = λ k below out b h.
        zero_at 17 (16 - k) (Contains (mirror s row ∷ old)) wide
        (λ v i. elim (first_or_later (mirror s row) old v i) [
          | inl e ↦ ap (λ (x : List ℕ). get_or x (16 - k) 0) e ∙ mirror_hidden s row k is_row below out
          | inr o ↦ m.hidden k below out v o
        ]) b (same.there b (generator 17 (Contains new) own b h));
    there = λ a on z b h.
        let old_zero = m.there a on (λ v i. z v (in_pushed xs row v i)) in
        vanishes_on_module 17 (Contains (mirror s row ∷ old)) wide (reverse a)
        (λ v i. elim (first_or_later (mirror s row) old v i) [
          | inl e ↦ ap (λ (x : List ℕ). dot (reverse a) x) e ∙ form a on ∙ z row (last_pushed xs row)
          | inr o ↦ old_zero v o
        ]) b (same.there b (generator 17 (Contains new) own b h));
    back = λ a on z v h.
        let all = vanishes_on_module 17 (Contains new) own (reverse a) z in
        elim (pushed_cases xs row v h) [
          | inl i ↦ m.back a on (λ b o. all b (same.back b (generator 17 (Contains (mirror s row ∷ old)) wide b (contains_later (mirror s row) old b o)))) v i
          | inr e ↦ ap (λ (x : List ℕ). dot a x) e ∙ sym (form a on) ∙ all (mirror s row) (same.back (mirror s row) (generator 17 (Contains (mirror s row ∷ old)) wide (mirror s row) (contains_first (mirror s row) old)))
        ];
  }

pub mirrors_more : (s : ℕ) (rows old new : List (List ℕ)) (row turned : List ℕ) (i : ℕ) → i < length rows → row ≡ get_or rows i row → IsRow 17 row → turned ≡ mirror s row → IsLeadingBasis 17 new → SameModule 17 (Contains new) (Contains (turned ∷ old)) → Mirrors s (take i rows) old → Mirrors s (take (i + 1) rows) new
mirrors_more s rows old new row turned i below is is_row turns basis same m =
    let e : take (i + 1) rows ≡ take i rows ++ row ∷ [] = take_more rows i row below ∙ ap (λ (x : List ℕ). take i rows ++ x ∷ []) (sym is) in
    let same_row = subst (λ (x : List ℕ). SameModule 17 (Contains new) (Contains (x ∷ old))) turns same in
    rw e (mirrors_push s (take i rows) old new row is_row basis same_row m)
