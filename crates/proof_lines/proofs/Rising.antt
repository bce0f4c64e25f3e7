-- Items whose positions rise, one after another and over all pairs.
use Rattle.std.proofs.Common.{ℕ, zero, suc, ◌+◌, ◌<◌, ◌≤◌, ◌^◌, List, [], ◌∷◌, All, AllPairs, get_or, arith}
use Rattle.std.proofs.lemmas.List.Elements.{All-cons, All-head, All-tail, All-nil, All-weaker}
use Rattle.proof_text.specs.declared.rows.WordAt.{WordAt}
use Rattle.proof_text.specs.Sparse.{IsSparse}
use Rattle.proof_lines.specs.Words.{AreItems}

abbrev Rises : WordAt → WordAt → Type 0
Rises a b = a.position < b.position

abbrev IsWord : WordAt → Type 0
IsWord x = (1 ≤ x.word) × (x.word < 2 ^ 64)

abbrev IsFrom : ℕ → WordAt → Type 0
IsFrom least x = least ≤ x.position

abbrev IsPlaced : ℕ → WordAt → Type 0
IsPlaced width x = x.position < width

pairs_cons : (x : WordAt) (xs : List WordAt) → All (Rises x) xs → AllPairs Rises xs → AllPairs Rises (x ∷ xs)
pairs_cons x xs h p zero zero d lt l = absurd (omega arith)
pairs_cons x xs h p zero (suc j) d lt l = h j d (omega arith)
pairs_cons x xs h p (suc i) zero d lt l = absurd (omega arith)
pairs_cons x xs h p (suc i) (suc j) d lt l = p i j d (omega arith) (omega arith)

pub items_from : (least width : ℕ) (items : List WordAt) → AreItems least width items → All (IsFrom least) items
items_from least width [] fit = All-nil (IsFrom least)
items_from least width (x ∷ items) fit =
    All-cons (IsFrom least) x items fit.0.least_is
    (All-weaker (IsFrom (x.position + 1)) (IsFrom least) (λ y h. omega (arith, h, fit.0.least_is)) items (items_from (x.position + 1) width items fit.1))

pub items_sparse : (least width : ℕ) (items : List WordAt) → AreItems least width items → IsSparse width items
items_sparse least width [] fit = record { rising = λ i j d lt l. absurd (omega arith); placed = All-nil (IsPlaced width); words = All-nil IsWord }
items_sparse least width (x ∷ items) fit =
    let rest = items_sparse (x.position + 1) width items fit.1 in
    record {
      rising = pairs_cons x items (All-weaker (IsFrom (x.position + 1)) (Rises x) (λ y h. omega (arith, h)) items (items_from (x.position + 1) width items fit.1)) rest.rising;
      placed = All-cons (IsPlaced width) x items fit.0.within rest.placed;
      words = All-cons IsWord x items (fit.0.some, fit.0.small) rest.words;
    }

pub sparse_items : (least width : ℕ) (items : List WordAt) → IsSparse width items → All (IsFrom least) items → AreItems least width items
sparse_items least width [] s from = tt
sparse_items least width (x ∷ items) s from =
    let word = All-head IsWord x items s.words in (
      record { least_is = All-head (IsFrom least) x items from; within = All-head (IsPlaced width) x items s.placed; some = word.0; small = word.1 },
      sparse_items (x.position + 1) width items
          (record {
            rising = λ i j d lt l. s.rising (suc i) (suc j) d (omega arith) (omega arith);
            placed = All-tail (IsPlaced width) x items s.placed;
            words = All-tail IsWord x items s.words;
          }) (λ k d l. let h : x.position < (get_or items k d).position = s.rising zero (suc k) d (omega arith) (omega arith) in omega arith),
    )
