-- The words of a row up to a position.
use Rattle.std.proofs.Common.{◌≡◌, ◌≢◌, ℕ, suc, ◌+◌, ◌-◌, ◌<◌, ◌≤◌, ◌^◌, ◌==◌, Bool, true, false, cond, List, [], ◌∷◌, ◌++◌, length, take, get_or, set, replicate, refl, sym, ap, subst, ◌∙◌, arith, append-nil, append_assoc}
use Rattle.std.proofs.lemmas.List.{map-append, take_more, length-take-le, set-append_right}
use Rattle.std.proofs.Math.Seq.{take-length}
use Rattle.std.proofs.lemmas.Bool.Decides.{nat_tests}
use Rattle.std.proofs.lemmas.List.Sums.{fold-append}
use Rattle.std.proofs.lemmas.List.Elements.{All-push, All-weaker, All-nil, All-get_or}
use Rattle.std.proofs.lemmas.List.Quantifiers.{all_pairs_push}
use Rattle.proof_text.specs.declared.rows.SparseRow.{SparseRow}
use Rattle.proof_text.specs.declared.rows.WordAt.{WordAt}
use Rattle.proof_text.specs.Sparse.{ArePlaced, AreSparseOf, IsSparse, IsSparseOf, dense, items_of, put_word}

-- the words are those of the row below position i
pub record IsUpTo (n : ℕ) (row : List ℕ) (i : ℕ) (words : List WordAt) : Type 0 where
  pub width : length row ≡ n
  pub sparse : IsSparse i words
  pub dense_is : dense n words ≡ take i row ++ replicate (n - i) 0

abbrev zeros : ℕ → List ℕ
zeros k = replicate k 0

abbrev at : ℕ → ℕ → WordAt
at i w = record { position = i; word = w }

placed_more : (i : ℕ) (words : List WordAt) → ArePlaced i words → ArePlaced (i + 1) words
placed_more i words placed = All-weaker (λ (x : WordAt). x.position < i) (λ x. x.position < i + 1) (λ x lt. omega arith) words placed

one_more : (n i : ℕ) → i < n → zeros (n - i) ≡ 0 ∷ zeros (n - (i + 1))
one_more n i lt = let e : n - i ≡ suc (n - (i + 1)) = omega arith in ap zeros e

module _ (n : ℕ) (row : List ℕ) (i : ℕ) (words : List WordAt) (lt : i < n) (s : IsUpTo n row i words) where
  front : (w : ℕ) → get_or row i 0 ≡ w → take (i + 1) row ≡ take i row ++ w ∷ []
  front w e = take_more row i 0 (let l : length row ≡ n = s.width in omega arith) ∙ ap (λ (x : ℕ). take i row ++ x ∷ []) e

  -- a word that is 0 adds nothing
  none_more : get_or row i 0 ≡ 0 → IsUpTo n row (i + 1) words
  none_more e = record {
    width = s.width;
    sparse = record { rising = s.sparse.rising; placed = placed_more i words s.sparse.placed; words = s.sparse.words };
    dense_is = s.dense_is ∙ ap (λ (r : List ℕ). take i row ++ r) (one_more n i lt)
        ∙ sym (append_assoc (take i row) (0 ∷ []) (zeros (n - (i + 1))))
        ∙ ap (λ (r : List ℕ). r ++ zeros (n - (i + 1))) (sym (front 0 e));
  }

  long : length (take i row) ≡ i
  long = length-take-le i row (let l : length row ≡ n = s.width in let below : i < n = lt in omega arith)

  put : (w : ℕ) → get_or row i 0 ≡ w → dense n (words ++ at i w ∷ []) ≡ take (i + 1) row ++ zeros (n - (i + 1))
  put w e =
      fold-append put_word (zeros n) words (at i w ∷ [])
      ∙ ap (λ (r : List ℕ). set r i w) (s.dense_is ∙ ap (λ (r : List ℕ). take i row ++ r) (one_more n i lt))
      ∙ set-append_right (take i row) (0 ∷ zeros (n - (i + 1))) i i w long (omega arith)
      ∙ ap (λ (k : ℕ). take i row ++ set (0 ∷ zeros (n - (i + 1))) k w) (let z : i - i ≡ 0 = omega arith in z)
      ∙ sym (append_assoc (take i row) (w ∷ []) (zeros (n - (i + 1))))
      ∙ ap (λ (r : List ℕ). r ++ zeros (n - (i + 1))) (sym (front w e))

  -- another word is put behind the others
  some_more : (w : ℕ) → get_or row i 0 ≡ w → w ≢ 0 → w < 2 ^ 64 → IsUpTo n row (i + 1) (words ++ at i w ∷ [])
  some_more w e some small = record {
    width = s.width;
    sparse = record {
      rising = all_pairs_push (λ (a b : WordAt). a.position < b.position) words (at i w) s.sparse.rising (λ k d l. All-get_or (λ (x : WordAt). x.position < i) words k d l s.sparse.placed);
      placed = All-push (λ (x : WordAt). x.position < i + 1) words (at i w) (placed_more i words s.sparse.placed) (omega arith);
      words = All-push (λ (x : WordAt). (1 ≤ x.word) × (x.word < 2 ^ 64)) words (at i w) s.sparse.words ((let o : w ≢ 0 = some in omega arith), small);
    };
    dense_is = put w e;
  }

pub word_more : (n : ℕ) (row : List ℕ) (i : ℕ) (words : List WordAt) (w : ℕ) → i < n → w < 2 ^ 64 → w ≡ get_or row i 0 → IsUpTo n row i words
    → IsUpTo n row (i + 1) (words ++ items_of i w)
word_more n row i words w lt small e s = by (w == 0) refl
  where
    by : (b : Bool) → (w == 0) ≡ b → IsUpTo n row (i + 1) (words ++ cond b [] (at i w ∷ []))
    by true is =
        let z : w ≡ 0 = grind (arith, nat_tests) in
        subst (λ (l : List WordAt). IsUpTo n row (i + 1) l) (sym (append-nil words)) (none_more n row i words lt s (sym e ∙ z))
    by false is = let o : w ≢ 0 = grind (arith, nat_tests) in some_more n row i words lt s w (sym e) o small

pub nothing_yet : (n : ℕ) (row : List ℕ) → length row ≡ n → IsUpTo n row 0 []
nothing_yet n row width = record {
  width = width;
  sparse = record { rising = λ i j d lt le. absurd (omega arith); placed = All-nil (λ (x : WordAt). x.position < 0); words = All-nil (λ (x : WordAt). (1 ≤ x.word) × (x.word < 2 ^ 64)) };
  dense_is = let e : n ≡ n - 0 = omega arith in ap zeros e;
}

pub all_of_it : (n : ℕ) (row : List ℕ) (words : List WordAt) → IsUpTo n row n words → IsSparseOf n row (record { words = words })
all_of_it n row words s = record { is_sparse = s.sparse; dense_is = s.dense_is ∙ end }
  where
    end : take n row ++ zeros (n - n) ≡ row
    end = let z : n - n ≡ 0 = omega arith in ap (λ (k : ℕ). take n row ++ zeros k) z ∙ append-nil (take n row) ∙ subst (λ (k : ℕ). take k row ≡ row) s.width (take-length row)

pub sparse_more : (n : ℕ) (rows : List (List ℕ)) (k : ℕ) (row : List ℕ) (sparse : List SparseRow) (s : SparseRow) → k < length rows
    → row ≡ get_or rows k row → IsSparseOf n row s → AreSparseOf n (take k rows) sparse → AreSparseOf n (take (k + 1) rows) (sparse ++ s ∷ [])
sparse_more n rows k row sparse s lt is of so_far = record {
  are_sparse = All-push (λ (x : SparseRow). IsSparse n x.words) sparse s so_far.are_sparse of.is_sparse;
  dense_are = map-append (λ (x : SparseRow). dense n x.words) sparse (s ∷ [])
      ∙ ap (λ (l : List (List ℕ)). l ++ dense n s.words ∷ []) so_far.dense_are
      ∙ ap (λ (r : List ℕ). take k rows ++ r ∷ []) (of.dense_is ∙ is)
      ∙ sym (take_more rows k row lt);
}
