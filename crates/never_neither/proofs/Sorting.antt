-- Entries with points that are apart, in ascending order.
use Rattle.std.proofs.Common.{◌≡◌, ◌≢◌, ◌<◌, ◌≤◌, suc, List, [], ◌∷◌, inl, inr, ◌⊎◌, All, AllPairs, sym, arith}
use Rattle.std.specs.List.Sorted.{IsPermutation}
use Rattle.std.proofs.lemmas.Bool.{cases_eq, cases_lt}
use Rattle.std.proofs.lemmas.List.Elements.{All-cons, All-head, All-nil, All-tail}
use Rattle.std.proofs.lemmas.List.Kept.{AllPairs-cons}
use Rattle.std.proofs.lemmas.List.Sorted.{All-permutation, IsPermutation-cons, IsPermutation-insert, IsPermutation-refl, IsPermutation-trans}
use Rattle.flow_points.specs.PointLists.{IsBefore}
use Rattle.flow_points.specs.declared.code_points.Point.{Point}
use Rattle.flow_points.proofs.SamePoint.{one_point}

before_or_behind : (p q : Point) → p ≢ q → IsBefore p q ⊎ IsBefore q p
before_or_behind p q apart =
    elim (cases_lt p.proc_entry q.proc_entry) [
      | inl less ↦ inl (inl less)
      | inr past ↦ elim (cases_eq p.proc_entry q.proc_entry) [
        | inl one ↦ elim (cases_lt p.address q.address) [
          | inl less ↦ inl (inr (one, less))
          | inr high ↦ inr (inr (sym one, by one high))
        ]
        | inr other ↦ inr (inl (omega (arith, past, other)))
      ]
    ]
  where
    by : p.proc_entry ≡ q.proc_entry → q.address ≤ p.address → q.address < p.address
    by one high =
        elim (cases_eq p.address q.address) [
          | inl same ↦ absurd (apart (one_point p q one same))
          | inr other ↦ omega (arith, high, other)
        ]

then : (p q r : Point) → IsBefore p q → IsBefore q r → IsBefore p r
then p q r (inl l) (inl m) = inl (omega (arith, l, m))
then p q r (inl l) (inr m) = let e = m.0 in inl (omega (arith, l, e))
then p q r (inr l) (inl m) = let e = l.0 in inl (omega (arith, e, m))
then p q r (inr l) (inr m) = let d = l.0 in let e = m.0 in let a = l.1 in let b = m.1 in inr (omega (arith, d, e), omega (arith, a, b))

module _ {X : Type 0} where
  abbrev pub Ascends : List (Point × X) → Type 0
  Ascends es = AllPairs (λ (d e : Point × X). IsBefore d.0 e.0) es

  later : (e : Point × X) (es : List (Point × X)) → Ascends (e ∷ es) → All (λ (d : Point × X). IsBefore e.0 d.0) es
  later e es up k d within = up 0 (suc k) d (omega arith) (omega (arith, within))

  rest : (R : Point × X → Point × X → Type 0) (e : Point × X) (es : List (Point × X)) → AllPairs R (e ∷ es) → AllPairs R es
  rest R e es up i j d less within = up (suc i) (suc j) d (omega (arith, less)) (omega (arith, within))

  pub record IsSortedOf (es : List (Point × X)) : Type 0 where
    pub sorted : List (Point × X)
    pub moved : IsPermutation es sorted
    pub up : Ascends sorted

  put : (e : Point × X) (es : List (Point × X)) → Ascends es → All (λ (d : Point × X). e.0 ≢ d.0) es → IsSortedOf (e ∷ es)
  put e [] up apart = record {
    sorted = e ∷ [];
    moved = IsPermutation-refl (e ∷ []);
    up = AllPairs-cons (λ (d c : Point × X). IsBefore d.0 c.0) e [] (All-nil (λ (d : Point × X). IsBefore e.0 d.0)) up;
  }
  put e (d ∷ es) up apart =
      let After = λ (f c : Point × X). IsBefore f.0 c.0 in
      let behind = put e es (rest After d es up) (All-tail (λ (c : Point × X). e.0 ≢ c.0) d es apart) in
      elim (before_or_behind e.0 d.0 (All-head (λ (c : Point × X). e.0 ≢ c.0) d es apart)) [
        | inl first ↦ record {
          sorted = e ∷ d ∷ es;
          moved = IsPermutation-refl (e ∷ d ∷ es);
          up = AllPairs-cons After e (d ∷ es) (All-cons (After e) d es first
              (λ k c within. then e.0 d.0 _ first (later d es up k c within))) up;
        }
        | inr second ↦ record {
          sorted = d ∷ behind.sorted;
          moved = IsPermutation-trans (e ∷ d ∷ es) (d ∷ e ∷ es) (d ∷ behind.sorted) (IsPermutation-insert (d ∷ es) 1 e)
              (IsPermutation-cons d (e ∷ es) behind.sorted behind.moved);
          up = AllPairs-cons After d behind.sorted (All-permutation (After d) (e ∷ es) behind.sorted behind.moved
              (All-cons (After d) e es second (later d es up))) behind.up;
        }
      ]

  pub sort : (es : List (Point × X)) → AllPairs (λ (d e : Point × X). d.0 ≢ e.0) es → IsSortedOf es
  sort [] apart = record { sorted = []; moved = IsPermutation-refl []; up = λ i j d less within. absurd (omega (arith, within)) }
  sort (e ∷ es) apart =
      let tail = sort es (rest (λ (d c : Point × X). d.0 ≢ c.0) e es apart) in
      let head : All (λ (d : Point × X). e.0 ≢ d.0) es = λ k d within. apart 0 (suc k) d (omega arith) (omega (arith, within)) in
      let all = put e tail.sorted tail.up (All-permutation (λ (d : Point × X). e.0 ≢ d.0) es tail.sorted tail.moved head) in
      record {
        sorted = all.sorted;
        moved = IsPermutation-trans (e ∷ es) (e ∷ tail.sorted) all.sorted (IsPermutation-cons e es tail.sorted tail.moved) all.moved;
        up = all.up;
      }
