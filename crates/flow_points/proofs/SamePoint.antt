-- `same_point` tells points apart.
use Rattle.std.proofs.Common.{◌≡◌, Bool, true, false, ◌&&◌, refl, sym, ap, subst, eqb-true, eq-eqb}
use Rattle.std.specs.Cmp.{IsEquivalence}
use Rattle.std.specs.Bool.{Decides}
use Rattle.flow_points.specs.Causes.{same_point}
use Rattle.flow_points.specs.declared.code_points.Point.{Point}

both : (a b : Bool) → (a && b) ≡ true → (a ≡ true) × (b ≡ true)
both true true e = (refl, refl)
both true false e = cc
both false b e = cc

and_both : (a b : Bool) → a ≡ true → b ≡ true → (a && b) ≡ true
and_both true true e f = refl
and_both true false e f = cc
and_both false b e f = cc

same_answer : (a b : Bool) → (a ≡ true → b ≡ true) → (b ≡ true → a ≡ true) → a ≡ b
same_answer true true f g = refl
same_answer true false f g = sym (f refl)
same_answer false true f g = g refl
same_answer false false f g = refl

pub one_point : (p q : Point) → p.proc_entry ≡ q.proc_entry → p.address ≡ q.address → p ≡ q
one_point p q e f = λ i. record { proc_entry = e i; address = f i }

pub same : (p q : Point) → same_point p q ≡ true → p ≡ q
same p q h = let k = both _ _ h in one_point p q (eqb-true _ _ k.0) (eqb-true _ _ k.1)

pub itself : (p : Point) → same_point p p ≡ true
itself p = and_both _ _ (eq-eqb p.proc_entry p.proc_entry refl) (eq-eqb p.address p.address refl)

from_equal : (p q : Point) → p ≡ q → same_point p q ≡ true
from_equal p q e = subst (λ (r : Point). same_point p r ≡ true) e (itself p)

pub laws : IsEquivalence same_point
laws = record {
  refl = itself;
  symm = λ p q. same_answer _ _ (λ h. from_equal q p (sym (same p q h))) (λ h. from_equal p q (sym (same q p h)));
  congr = λ p q r h. ap (λ (s : Point). same_point s r) (same p q h);
}

pub tells : (p q : Point) → Decides (same_point p q) (p ≡ q)
tells p q = (same p q, from_equal p q)
