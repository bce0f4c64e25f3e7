-- The assignments of a list, one after the other, where each unknown word is 0.
use Rattle.std.proofs.Common.{◌≡◌, ℕ, suc, ◌+◌, ◌*◌, ◌<◌, ◌≤◌, List, [], ◌∷◌, true, false, length, drop, get_or, replicate, refl, ap, ap₂, sym, ◌∙◌, arith, drop-cons, if◌then◌else◌, ◌==◌}
use Rattle.std.proofs.lemmas.List.{drop_all, length-replicate}
use Rattle.word_rows.specs.Words.{word}
use Rattle.word_rows.specs.Rows.{IsRow}
use Rattle.word_rows.proofs.Laws.{get_or-zeros}
use Rattle.map_modules.specs.Matrices.{assigned}
use Rattle.map_modules.proofs.Lemmas.{IsRow-table, vector_from_index, moved-identity}
use Rattle.affine_prog.specs.declared.Assign.{Assign}
use Rattle.affine_prog.specs.declared.Assign.TheVariants.{Affine, Any}
use Rattle.affine_prog.specs.Assignments.{constant, matrix_of, made}
use Rattle.affine_prog.proofs.Lemmas.{made-cons}

zero_constant : replicate 17 0 ≡ constant 0
zero_constant =
    vector_from_index (replicate 17 0) (λ k. if k == 16 then 0 else 0) (length-replicate {A = ℕ} 17 0)
    (λ i below. get_or-zeros 17 i ∙ elim (i == 16) as (λ b. 0 ≡ word (if b then 0 else 0)) [ true ↦ refl | false ↦ refl ])

pub record MadeSoFar (k : ℕ) (assigns : List Assign) (start new : List ℕ) (i : ℕ) : Type 0 where
  pub row : IsRow (17 * k) new
  pub is : made k (drop i assigns) [] new ≡ made k assigns [] start

pub made_nothing : (k : ℕ) (assigns : List Assign) (start : List ℕ) → IsRow (17 * k) start → MadeSoFar k assigns start start 0
made_nothing k assigns start row = record { row = row; is = refl }

pub made_all : (k : ℕ) (assigns : List Assign) (start new : List ℕ) (i : ℕ) → length assigns ≤ i → MadeSoFar k assigns start new i → new ≡ made k assigns [] start
made_all k assigns start new i end m = sym (moved-identity k new m.row) ∙ ap (λ l. made k l [] new) (sym (drop_all i assigns end)) ∙ m.is

module _ (assigns : List Assign) (i : ℕ) (a : Assign) (below : i < length assigns) (here : a ≡ get_or assigns i a) where
  split : drop i assigns ≡ a ∷ drop (i + 1) assigns
  split =
      let e : suc i ≡ i + 1 = omega arith in
      drop-cons assigns i a below ∙ ap₂ (λ (x : Assign) (n : ℕ). x ∷ drop n assigns) (sym here) e

  module _ (k : ℕ) (start old : List ℕ) (m : MadeSoFar k assigns start old i) where
    pub made_affine : (j at : ℕ) (form new : List ℕ) → a ≡ Affine j form → at ≡ j → new ≡ assigned k old at form → MadeSoFar k assigns start new (i + 1)
    made_affine j at form new is same made_by =
        let s = split ∙ ap (λ (x : Assign). x ∷ drop (i + 1) assigns) is in record {
          row = rw made_by (IsRow-table k _);
          is = ap (λ (x : List ℕ). made k (drop (i + 1) assigns) [] x) (made_by ∙ ap (λ (n : ℕ). assigned k old n form) same)
              ∙ sym (made-cons k old form (matrix_of (drop (i + 1) assigns) []) j)
              ∙ ap (λ l. made k l [] old) (sym s) ∙ m.is;
        }

    pub made_any : (j at : ℕ) (form new : List ℕ) → a ≡ Any j → at ≡ j → form ≡ replicate 17 0 → new ≡ assigned k old at form → MadeSoFar k assigns start new (i + 1)
    made_any j at form new is same zero made_by =
        let s = split ∙ ap (λ (x : Assign). x ∷ drop (i + 1) assigns) is in record {
          row = rw made_by (IsRow-table k _);
          is = ap (λ (x : List ℕ). made k (drop (i + 1) assigns) [] x) (made_by ∙ ap₂ (λ (n : ℕ) (r : List ℕ). assigned k old n r) same (zero ∙ zero_constant))
              ∙ sym (made-cons k old (constant 0) (matrix_of (drop (i + 1) assigns) []) j)
              ∙ ap (λ l. made k l [] old) (sym s) ∙ m.is;
        }
