-- The soonest of a list of causes.
use Rattle.std.proofs.Common.{◌≡◌, ◌⊎◌, ℕ, ◌+◌, ◌≤◌, Bool, true, false, List, [], ◌∷◌, ◌++◌, take, map, fold, Option, None, Some, slice_get, All, Contains, refl, sym, ap, subst, ◌∙◌, inl, inr, arith, if◌then◌else◌}
use Rattle.std.proofs.lemmas.List.{map-append, take_more}
use Rattle.std.proofs.lemmas.List.Sums.{fold-append}
use Rattle.std.proofs.lemmas.List.Elements.{All-cons, All-head, All-nil, All-tail, Contains-append_right, Contains-get_or}
use Rattle.std.proofs.lemmas.Option.{get_or_from_slice_get, slice_get_within}
use Rattle.flow_points.specs.Causes.{is_sooner, sooner}
use Rattle.refusals.specs.declared.flow.FlowRefusal.{FlowRefusal}
use Rattle.flow_points.proofs.Lists.{cons_cases}
use Rattle.flow_points.proofs.Ranks.{NotBefore, rank, sooner_rank, later_rank}

pub fold_more : {A B X : Type 0} (f : B → A → B) (a : B) (g : X → A) (xs : List X) (i : ℕ) (x : X) → slice_get xs i ≡ Some x
    → fold f a (map g (take (i + 1) xs)) ≡ f (fold f a (map g (take i xs))) (g x)
fold_more f a g xs i x e =
    let more = take_more xs i x (slice_get_within xs i x e) ∙ ap (λ y. take i xs ++ y ∷ []) (get_or_from_slice_get xs i x x e) in
    ap (λ ys. fold f a (map g ys)) more ∙ ap (fold f a) (map-append g (take i xs) (x ∷ [])) ∙ fold-append f a (map g (take i xs)) (g x ∷ [])

-- the sooner one is one of the two, and neither is before what isn't after it
pub is_one : (a b : Option FlowRefusal) (c : FlowRefusal) → sooner a b ≡ Some c → (a ≡ Some c) ⊎ (b ≡ Some c)
is_one None b c e = inr e
is_one (Some a) None c e = inl e
is_one (Some a) (Some b) c e = by (is_sooner a b) e
  where
    by : (t : Bool) → (if t then Some a else Some b) ≡ Some c → (Some a ≡ Some c) ⊎ (Some b ≡ Some c)
    by true d = inl d
    by false d = inr d

-- one of the two is no later than either
pub record IsNoLater (o : Option FlowRefusal) (c : FlowRefusal) : Type 0 where
  pub cause : FlowRefusal
  pub is : o ≡ Some cause
  pub low : rank cause ≤ rank c

pub itself_no_later : (o : Option FlowRefusal) (c : FlowRefusal) → o ≡ Some c → IsNoLater o c
itself_no_later o c e = record { cause = c; is = e; low = omega arith }

pub first_no_later : (a b : Option FlowRefusal) (c : FlowRefusal) → a ≡ Some c → IsNoLater (sooner a b) c
first_no_later None b c e = cc
first_no_later (Some a) None c e = itself_no_later (Some a) c e
first_no_later (Some a) (Some b) c e = by (is_sooner a b) refl
  where
    one : a ≡ c
    one = cc

    by : (t : Bool) → is_sooner a b ≡ t → IsNoLater (if t then Some a else Some b) c
    by true d = itself_no_later (Some a) c e
    by false d = let later = later_rank a b d in let same = ap rank one in record { cause = b; is = refl; low = omega arith }

pub second_no_later : (a b : Option FlowRefusal) (c : FlowRefusal) → b ≡ Some c → IsNoLater (sooner a b) c
second_no_later None b c e = itself_no_later b c e
second_no_later (Some a) None c e = cc
second_no_later (Some a) (Some b) c e = by (is_sooner a b) refl
  where
    one : b ≡ c
    one = cc

    by : (t : Bool) → is_sooner a b ≡ t → IsNoLater (if t then Some a else Some b) c
    by true d = let soon = sooner_rank a b d in let same = ap rank one in record { cause = a; is = refl; low = omega arith }
    by false d = itself_no_later (Some b) c e

not_before_either : (a b : Option FlowRefusal) (c : FlowRefusal) → NotBefore c (sooner a b) → NotBefore c a × NotBefore c b
not_before_either None b c h = (tt, h)
not_before_either (Some a) None c h = (h, tt)
not_before_either (Some a) (Some b) c h = by (is_sooner a b) refl h
  where
    by : (t : Bool) → is_sooner a b ≡ t → NotBefore c (if t then Some a else Some b) → NotBefore c (Some a) × NotBefore c (Some b)
    by true e d = (d, omega (arith, sooner_rank a b e))
    by false e d = (omega (arith, later_rank a b e), d)

no_sooner : (a b : Option FlowRefusal) → sooner a b ≡ None → (a ≡ None) × (b ≡ None)
no_sooner None b e = (refl, e)
no_sooner (Some a) None e = cc
no_sooner (Some a) (Some b) e = by (is_sooner a b) e
  where
    by : (t : Bool) → (if t then Some a else Some b) ≡ None → (Some a ≡ None) × (Some b ≡ None)
    by true d = cc
    by false d = cc

pub soonest_none : (a : Option FlowRefusal) (os : List (Option FlowRefusal)) → fold sooner a os ≡ None → All (λ o. o ≡ None) (a ∷ os)
soonest_none a [] e = All-cons (λ o. o ≡ None) a [] e (All-nil (λ o. o ≡ None))
soonest_none a (o ∷ os) e =
    let rest = soonest_none (sooner a o) os e in
    let two = no_sooner a o (All-head (λ x. x ≡ None) (sooner a o) os rest) in
    All-cons (λ x. x ≡ None) a (o ∷ os) two.0 (All-cons (λ x. x ≡ None) o os two.1 (All-tail (λ x. x ≡ None) (sooner a o) os rest))

pub soonest_first : (a : Option FlowRefusal) (os : List (Option FlowRefusal)) (c : FlowRefusal) → fold sooner a os ≡ Some c
    → All (NotBefore c) (a ∷ os)
soonest_first a [] c e = All-cons (NotBefore c) a [] (subst (NotBefore c) (sym e) (omega arith)) (All-nil (NotBefore c))
soonest_first a (o ∷ os) c e =
    let rest = soonest_first (sooner a o) os c e in
    let two = not_before_either a o c (All-head (NotBefore c) (sooner a o) os rest) in
    All-cons (NotBefore c) a (o ∷ os) two.0 (All-cons (NotBefore c) o os two.1 (All-tail (NotBefore c) (sooner a o) os rest))

pub soonest_there : (a : Option FlowRefusal) (os : List (Option FlowRefusal)) (c : FlowRefusal) → fold sooner a os ≡ Some c
    → Contains (a ∷ os) (Some c)
soonest_there a [] c e = subst (λ o. Contains (a ∷ []) o) e (Contains-get_or (a ∷ []) 0 a (omega arith))
soonest_there a (o ∷ os) c e =
    elim (cons_cases (sooner a o) os (Some c) (soonest_there (sooner a o) os c e)) [
      | inl s ↦ elim (is_one a o c s) [
        | inl f ↦ subst (λ x. Contains (a ∷ o ∷ os) x) f (Contains-get_or (a ∷ o ∷ os) 0 a (omega arith))
        | inr f ↦ subst (λ x. Contains (a ∷ o ∷ os) x) f (Contains-get_or (a ∷ o ∷ os) 1 a (omega arith))
      ]
      | inr k ↦ Contains-append_right (a ∷ o ∷ []) os (Some c) k
    ]
