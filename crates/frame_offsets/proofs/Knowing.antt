-- What is known, as an order: more is known where more was joined.
use Rattle.std.proofs.Common.{◌≡◌, Bool, true, false, eqb, if◌then◌else◌, refl, sym, ap, subst, eq-eqb, eqb-true}
use Rattle.frame_offsets.specs.Tables.{Knows, joined}
use Rattle.frame_offsets.specs.declared.known.Known.{Known}
use Rattle.frame_offsets.specs.declared.known.Known.TheVariants.{Unmet, Offset, Nothing}

pub knows_unmet : (a : Known) → Knows a Unmet
knows_unmet Unmet = refl
knows_unmet (Offset m) = refl
knows_unmet Nothing = refl

nothing_knows : (a : Known) → Knows Nothing a
nothing_knows Unmet = refl
nothing_knows (Offset m) = refl
nothing_knows Nothing = refl

pub knows_self : (a : Known) → Knows a a
knows_self Unmet = refl
knows_self (Offset m) = ap (λ (t : Bool). if t then Offset m else Nothing) (eq-eqb m m refl)
knows_self Nothing = refl

pub knows_trans : (c b a : Known) → Knows c b → Knows b a → Knows c a
knows_trans Unmet b a h k = subst (λ (x : Known). Knows x a) h k
knows_trans (Offset m) Unmet a h k = subst (Knows (Offset m)) (sym k) (knows_unmet (Offset m))
knows_trans (Offset m) (Offset n) a h k = by (eqb m n) refl h
  where
    by : (t : Bool) → eqb m n ≡ t → (if t then Offset m else Nothing) ≡ Offset m → Knows (Offset m) a
    by true e d = subst (λ x. Knows (Offset x) a) (sym (eqb-true m n e)) k
    by false e d = cc
knows_trans (Offset m) Nothing a h k = cc
knows_trans Nothing b a h k = nothing_knows a

pub joined_knows : (a b : Known) → Knows (joined a b) a
joined_knows Unmet b = knows_unmet b
joined_knows (Offset m) Unmet = knows_self (Offset m)
joined_knows (Offset m) (Offset n) = by (eqb m n)
  where
    by : (t : Bool) → Knows (if t then Offset m else Nothing) (Offset m)
    by true = knows_self (Offset m)
    by false = nothing_knows (Offset m)
joined_knows (Offset m) Nothing = refl
joined_knows Nothing Unmet = refl
joined_knows Nothing (Offset n) = refl
joined_knows Nothing Nothing = refl

pub joined_knows_other : (a b : Known) → Knows (joined a b) b
joined_knows_other Unmet b = knows_self b
joined_knows_other (Offset m) Unmet = refl
joined_knows_other (Offset m) (Offset n) = by (eqb m n) refl
  where
    by : (t : Bool) → eqb m n ≡ t → Knows (if t then Offset m else Nothing) (Offset n)
    by true e = subst (λ x. Knows (Offset m) (Offset x)) (eqb-true m n e) (knows_self (Offset m))
    by false e = nothing_knows (Offset n)
joined_knows_other (Offset m) Nothing = refl
joined_knows_other Nothing Unmet = refl
joined_knows_other Nothing (Offset n) = refl
joined_knows_other Nothing Nothing = refl
