-- Loops over lists that take each item in turn.
--
--   IsShownTo R i old new   R leads from each of the first i old items to the new one, and the others are the same
use Rattle.std.proofs.Common.{◌≡◌, ℕ, ◌+◌, ◌<◌, ◌≤◌, List, [], ◌∷◌, ◌++◌, length, take, drop, get_or, slice_set, All, zero, suc, sym, ◌∙◌, ap, subst, arith}
use Rattle.std.proofs.lemmas.List.Elements.{All-append}
use Rattle.std.proofs.lemmas.List.{take_all, take_more, drop_more, take_more_set, drop-set-lt}
use Rattle.std.specs.List.{AllZip}

pub record IsShownTo {B : Type 0} (R : B → B → Type 0) (i : ℕ) (old new : List B) : Type 0 where
  pub done : AllZip R (take i old) (take i new)
  pub same : drop i new ≡ drop i old

zip_push : {A B : Type 0} (R : A → B → Type 0) (xs : List A) (ys : List B) (x : A) (y : B)
    → AllZip R xs ys → R x y → AllZip R (xs ++ x ∷ []) (ys ++ y ∷ [])
zip_push R [] [] x y h r = (r, tt)
zip_push R [] (b ∷ ys) x y h r = absurd h
zip_push R (a ∷ xs) [] x y h r = absurd h
zip_push R (a ∷ xs) (b ∷ ys) x y (related, h) r = (related, zip_push R xs ys x y h r)

-- one more item was read
pub read_more : {A B : Type 0} (R : A → B → Type 0) (xs : List A) (ys zs : List B) (i : ℕ) (x : A) (y : B)
    → i < length xs → x ≡ get_or xs i x → AllZip R (take i xs) ys → R x y → zs ≡ ys ++ y ∷ []
    → AllZip R (take (i + 1) xs) zs
read_more R xs ys zs i x y within is h r more =
    let front : take (i + 1) xs ≡ take i xs ++ x ∷ [] = take_more xs i x within ∙ ap (λ z. take i xs ++ z ∷ []) (sym is) in
    subst (λ bs. AllZip R (take (i + 1) xs) bs) (sym more)
    (subst (λ bs. AllZip R bs (ys ++ y ∷ [])) (sym front) (zip_push R (take i xs) ys x y h r))

-- one more item was changed
pub shown_more : {B : Type 0} (R : B → B → Type 0) (i : ℕ) (old now : List B) (d y : B)
    → length now ≡ length old → i < length old → R (get_or now i d) y → IsShownTo R i old now
    → IsShownTo R (i + 1) old (slice_set now i y)
shown_more R i old now d y long within_old r s =
    let within : i < length now = subst (λ n. i < n) (sym long) within_old in
    let tails : get_or now i d ∷ drop (i + 1) now ≡ get_or old i d ∷ drop (i + 1) old =
    sym (drop_more now i d within) ∙ s.same ∙ drop_more old i d within_old in
    let now_is : get_or now i d ≡ get_or old i d = ap (λ xs. get_or xs 0 d) tails in
    record {
      done = subst (λ xs. AllZip R xs (take (i + 1) (slice_set now i y))) (sym (take_more old i d within_old))
          (subst (λ ys. AllZip R (take i old ++ get_or old i d ∷ []) ys) (sym (take_more_set now i y within))
          (zip_push R (take i old) (take i now) (get_or old i d) y s.done (subst (λ x. R x y) now_is r)));
      same = drop-set-lt (i + 1) now i y (omega arith) ∙ ap (λ xs. drop 1 xs) tails;
    }

-- one more item passes
pub all_more : {B : Type 0} (P : B → Type 0) (xs : List B) (i : ℕ) (x : B) → i < length xs → x ≡ get_or xs i x → All P (take i xs) → P x
    → All P (take (i + 1) xs)
all_more {B = B} P xs i x within is all there =
    let front : take (i + 1) xs ≡ take i xs ++ x ∷ [] = take_more xs i x within ∙ ap (λ z. take i xs ++ z ∷ []) (sym is) in
    subst (λ ys. All P ys) (sym front) (All-append P (take i xs) (x ∷ []) all (λ k d below. only k d below))
  where
    only : (k : ℕ) (d : B) → k < 1 → P (get_or (x ∷ []) k d)
    only zero d below = there
    only (suc k) d below = absurd (omega (arith, below))

pub all_taken : {B : Type 0} (P : B → Type 0) (xs : List B) (i : ℕ) → length xs ≤ i → All P (take i xs) → All P xs
all_taken P xs i past all = subst (λ ys. All P ys) (take_all i xs past) all
