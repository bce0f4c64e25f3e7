-- How two points compare.
use Rattle.std.proofs.Common.{◌≡◌, ◌≢◌, ◌⊎◌, ℕ, ◌<◌, false, sym, ap, ◌∙◌, inl, inr, arith}
use Rattle.std.specs.Cmp.{IsTotalOrder, nat_cmp_is}
use Rattle.std.specs.Ordering.{is_lt, nat_cmp, ordering_then}
use Rattle.std.specs.declared.cmp.Ordering.{Ordering}
use Rattle.std.specs.declared.cmp.Ordering.TheVariants.{Less, Equal, Greater}
use Rattle.std.proofs.lemmas.Bool.{cases_lt}
use Rattle.std.proofs.lemmas.Cmp.{nat_cmp_total, on_total, then_total}
use Rattle.flow_points.specs.PointLists.{IsBefore, point_cmp}
use Rattle.flow_points.specs.declared.code_points.Point.{Point}
use Rattle.flow_points.proofs.SamePoint.{one_point}

pub total : IsTotalOrder point_cmp
total = then_total (on_total (λ (p : Point). p.proc_entry) nat_cmp_total) (on_total (λ (p : Point). p.address) nat_cmp_total)

compared : (a b : ℕ) → ((a < b) × (nat_cmp a b ≡ Less)) ⊎ (((a ≡ b) × (nat_cmp a b ≡ Equal)) ⊎ ((b < a) × (nat_cmp a b ≡ Greater)))
compared a b =
    elim (cases_lt a b) [
      | inl h ↦ inl (h, sym (nat_cmp_is a b Less h))
      | inr h ↦ elim (cases_lt b a) [
        | inl k ↦ inr (inr (k, sym (nat_cmp_is a b Greater k)))
        | inr k ↦ let e : a ≡ b = omega arith in inr (inl (e, sym (nat_cmp_is a b Equal e)))
      ]
    ]

-- one is before the other, or they are one point
abbrev Compared : Point → Point → Ordering → Type 0
Compared p q o = (IsBefore p q × (o ≡ Less)) ⊎ (((p ≡ q) × (o ≡ Equal)) ⊎ (IsBefore q p × (o ≡ Greater)))

pub points_compared : (p q : Point) → Compared p q (point_cmp p q)
points_compared p q =
    elim (compared p.proc_entry q.proc_entry) [
      | inl a ↦ inl (inl a.0, first a.1)
      | inr a ↦ elim a [
        | inl b ↦ elim (compared p.address q.address) [
          | inl d ↦ inl (inr (b.0, d.0), first b.1 ∙ d.1)
          | inr d ↦ elim d [
            | inl f ↦ inr (inl (one_point p q b.0 f.0, first b.1 ∙ f.1))
            | inr f ↦ inr (inr (inr (sym b.0, f.0), first b.1 ∙ f.1))
          ]
        ]
        | inr b ↦ inr (inr (inl b.0, first b.1))
      ]
    ]
  where
    first : {o : Ordering} → nat_cmp p.proc_entry q.proc_entry ≡ o → point_cmp p q ≡ ordering_then o (nat_cmp p.address q.address)
    first e = ap (λ (x : Ordering). ordering_then x (nat_cmp p.address q.address)) e

pub equal_is : (p q : Point) → point_cmp p q ≡ Equal → p ≡ q
equal_is p q h = elim (points_compared p q) [ inl a ↦ cc | inr a ↦ elim a [ inl b ↦ b.0 | inr b ↦ cc ] ]

-- two points of which the second isn't less, and that differ
pub before_of : (p q : Point) → is_lt (point_cmp q p) ≡ false → p ≢ q → IsBefore p q
before_of p q h ne =
    elim (points_compared q p) [
      | inl a ↦ let less = ap is_lt a.1 in cc
      | inr a ↦ elim a [ inl b ↦ absurd (ne (sym b.0)) | inr b ↦ b.0 ]
    ]

pub behind_of : (p q : Point) → IsBefore p q → is_lt (point_cmp q p) ≡ false
behind_of p q h =
    elim (points_compared q p) [
      | inl a ↦ absurd (apart h a.0)
      | inr a ↦ elim a [ inl b ↦ ap is_lt b.1 | inr b ↦ ap is_lt b.1 ]
    ]
  where
    apart : IsBefore p q → IsBefore q p → ⊥
    apart (inl a) (inl b) = omega arith
    apart (inl a) (inr b) = omega (arith, b.0)
    apart (inr a) (inl b) = omega (arith, a.0)
    apart (inr a) (inr b) = omega (arith, a.1, b.1)
