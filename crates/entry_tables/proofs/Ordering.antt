-- In lists that ascend strictly, what stands at a place is what is found first.
use Rattle.std.proofs.Common.{◌≡◌, inl, inr, ℕ, zero, suc, ◌<◌, ◌==◌, ◌&&◌, Bool, true, false, List, [], ◌∷◌, slice_get, Some, refl, sym, ap, subst, ◌∙◌, arith}
use Rattle.std.specs.Prelude.{if◌then◌else◌}
use Rattle.std.proofs.lemmas.Bool.{eqb-true}
use Rattle.entry_tables.specs.declared.rows.Told.{Told}
use Rattle.entry_tables.specs.declared.rows.Point.{Point}
use Rattle.entry_tables.specs.Settling.{point_at, told_at, IsBefore, Ascend, AscendTold}

pub some_same : {X : Type 0} {x y : X} → Some x ≡ Some y → x ≡ y
some_same e = cc

both : (a b : Bool) → (a && b) ≡ true → (a ≡ true) × (b ≡ true)
both true b e = (refl, e)
both false b e = cc

same_number : (n : ℕ) → (n == n) ≡ true
same_number n = search arith

goes_before : (x y z : Point) → IsBefore x y → IsBefore y z → IsBefore x z
goes_before x y z (inl a) (inl b) = inl (omega arith)
goes_before x y z (inl a) (inr b) = let e = b.0 in inl (omega arith)
goes_before x y z (inr a) (inl b) = let e = a.0 in inl (omega arith)
goes_before x y z (inr a) (inr b) = let e = a.1 in let f = b.1 in inr (a.0 ∙ b.0, omega arith)

-- two that come one after the other have two places
two_places : (x y : Point) → IsBefore x y → (x.procedure == y.procedure && x.address == y.address) ≡ false
two_places x y before = by (x.procedure == y.procedure && x.address == y.address) refl before
  where
    by : (t : Bool) → (x.procedure == y.procedure && x.address == y.address) ≡ t → IsBefore x y → t ≡ false
    by false e before = refl
    by true e (inl less) =
        let p = eqb-true x.procedure y.procedure (both (x.procedure == y.procedure) (x.address == y.address) e).0 in absurd (omega arith)
    by true e (inr less) =
        let a = eqb-true x.address y.address (both (x.procedure == y.procedure) (x.address == y.address) e).1 in
        let f = less.1 in absurd (omega arith)

before_all : (x : Point) (rest : List Point) → Ascend (x ∷ rest) → (i : ℕ) (q : Point) → slice_get rest i ≡ Some q → IsBefore x q
before_all x [] ascend i q e = cc
before_all x (y ∷ rest) ascend zero q e = subst (IsBefore x) (some_same e) (ascend zero x y refl refl)
before_all x (y ∷ rest) ascend (suc i) q e =
    goes_before x y q (ascend zero x y refl refl) (before_all y rest (λ j v w. ascend (suc j) v w) i q e)

pub first_point : (points : List Point) → Ascend points → (i : ℕ) (q : Point) → slice_get points i ≡ Some q
    → point_at points q.procedure q.address ≡ Some q
first_point [] ascend i q e = cc
first_point (x ∷ rest) ascend zero q e =
    let here : (x.procedure == q.procedure && x.address == q.address) ≡ true =
    ap (λ (y : Point). y.procedure == q.procedure && y.address == q.address) (some_same e) ∙ ap (λ b. b && q.address == q.address) (same_number q.procedure) ∙ same_number q.address in
    ap (λ b. if b then Some x else point_at rest q.procedure q.address) here ∙ e
first_point (x ∷ rest) ascend (suc i) q e =
    ap (λ b. if b then Some x else point_at rest q.procedure q.address) (two_places x q (before_all x rest ascend i q e))
    ∙ first_point rest (λ j v w. ascend (suc j) v w) i q e

less_than_all : (x : Told) (rest : List Told) → AscendTold (x ∷ rest) → (i : ℕ) (k : Told) → slice_get rest i ≡ Some k → x.procedure < k.procedure
less_than_all x [] ascend i k e = cc
less_than_all x (y ∷ rest) ascend zero k e = subst (λ (j : Told). x.procedure < j.procedure) (some_same e) (ascend zero x y refl refl)
less_than_all x (y ∷ rest) ascend (suc i) k e =
    let near = ascend zero x y refl refl in
    let far = less_than_all y rest (λ j v w. ascend (suc j) v w) i k e in omega arith

pub first_told : (procedures : List Told) → AscendTold procedures → (i : ℕ) (k : Told) → slice_get procedures i ≡ Some k
    → told_at procedures k.procedure ≡ Some k
first_told [] ascend i k e = cc
first_told (x ∷ rest) ascend zero k e =
    let here : (x.procedure == k.procedure) ≡ true = ap (λ (y : Told). y.procedure == k.procedure) (some_same e) ∙ same_number k.procedure in
    ap (λ b. if b then Some x else told_at rest k.procedure) here ∙ e
first_told (x ∷ rest) ascend (suc i) k e =
    ap (λ b. if b then Some x else told_at rest k.procedure) (other (x.procedure == k.procedure) refl)
    ∙ first_told rest (λ j v w. ascend (suc j) v w) i k e
  where
    other : (t : Bool) → (x.procedure == k.procedure) ≡ t → t ≡ false
    other false h = refl
    other true h =
        let same = eqb-true x.procedure k.procedure h in
        let less = less_than_all x rest ascend i k e in absurd (omega arith)

-- what is found stands at a place
pub record FoundAt (points : List Point) (p a : ℕ) (q : Point) : Type 0 where
  pub i : ℕ
  pub is : slice_get points i ≡ Some q
  pub procedure : q.procedure ≡ p
  pub address : q.address ≡ a

pub point_found : (points : List Point) (p a : ℕ) (q : Point) → point_at points p a ≡ Some q → FoundAt points p a q
point_found [] p a q e = cc
point_found (x ∷ rest) p a q e = by (point_found rest p a q) (x.procedure == p && x.address == a) refl e
  where
    by : (point_at rest p a ≡ Some q → FoundAt rest p a q) → (t : Bool) → (x.procedure == p && x.address == a) ≡ t
        → (if t then Some x else point_at rest p a) ≡ Some q → FoundAt (x ∷ rest) p a q
    by later true test is =
        let same : x ≡ q = some_same is in
        let parts = both (x.procedure == p) (x.address == a) test in
        record {
          i = 0;
          is = is;
          procedure = ap (λ (y : Point). y.procedure) (sym same) ∙ eqb-true x.procedure p parts.0;
          address = ap (λ (y : Point). y.address) (sym same) ∙ eqb-true x.address a parts.1;
        }
    by later false test is =
        let f = later is in record { i = suc f.i; is = f.is; procedure = f.procedure; address = f.address }
