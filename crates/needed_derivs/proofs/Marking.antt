-- Marks that are set, one after the other.
use Rattle.std.proofs.Common.{◌≡◌, ◌⊎◌, inl, inr, ℕ, zero, suc, ◌+◌, ◌-◌, ◌<◌, ◌≤◌, Bool, true, List, [], ◌∷◌, All, Contains, drop, length, get_or, set, refl, ap, sym, subst, ◌∙◌, arith}
use Rattle.std.proofs.Math.Seq.{drop-cons}
use Rattle.std.proofs.lemmas.List.{length-set}
use Rattle.needed_derivs.specs.Needed.{IsNumberUpTo}
use Rattle.needed_derivs.specs.Marks.{IsMarked, HasMark, Marks}

set_there : (xs : List Bool) (j : ℕ) → j < length xs → IsMarked (set xs j true) j
set_there [] j below = absurd (omega arith)
set_there (x ∷ xs) zero below = refl
set_there (x ∷ xs) (suc j) below = set_there xs j (omega arith)

set_more : (xs : List Bool) (i j : ℕ) → IsMarked xs j → IsMarked (set xs i true) j
set_more [] i j is = is
set_more (x ∷ xs) zero zero is = refl
set_more (x ∷ xs) zero (suc j) is = is
set_more (x ∷ xs) (suc i) zero is = is
set_more (x ∷ xs) (suc i) (suc j) is = set_more xs i j is

set_only : (xs : List Bool) (i j : ℕ) → IsMarked (set xs i true) j → IsMarked xs j ⊎ (j ≡ i)
set_only [] i j is = inl is
set_only (x ∷ xs) zero zero is = inr refl
set_only (x ∷ xs) zero (suc j) is = inl is
set_only (x ∷ xs) (suc i) zero is = inl is
set_only (x ∷ xs) (suc i) (suc j) is = elim (set_only xs i j is) [ inl h ↦ inl h | inr h ↦ inr (ap suc h) ]

pub contains_first : (x y : ℕ) (xs : List ℕ) → x ≡ y → Contains (x ∷ xs) y
contains_first x y xs e = (0, omega arith, e)

pub contains_rest : (x y : ℕ) (xs : List ℕ) → Contains xs y → Contains (x ∷ xs) y
contains_rest x y xs (k, below, e) = (suc k, omega arith, e)

pub marks_none : (a : List Bool) → Marks [] a a
marks_none a = record { size = refl; more = λ j is. is; marked = λ n c. absurd (no_member n c); only = λ j is. inl is }
  where
    no_member : (n : ℕ) → Contains [] n → ⊥
    no_member n (k, below, e) = absurd (omega arith)

first_marked : (n : ℕ) (rest : List ℕ) (x : List Bool) → HasMark x n → ((m : ℕ) → Contains rest m → HasMark x m) → (m : ℕ) → Contains (n ∷ rest) m → HasMark x m
first_marked n rest x here there m (zero, below, e) = subst (HasMark x) e here
first_marked n rest x here there m (suc k, below, e) = there m (k, omega arith, e)

pub marks_first : (n : ℕ) (rest : List ℕ) (a x : List Bool) → IsNumberUpTo (length a) n → Marks rest (set a (n - 1) true) x → Marks (n ∷ rest) a x
marks_first n rest a x (least, most) m = record {
  size = m.size ∙ length-set a (n - 1) true;
  more = λ j is. m.more j (set_more a (n - 1) j is);
  marked = first_marked n rest x (n - 1, omega (arith, least), m.more (n - 1) (set_there a (n - 1) (omega (arith, least, most)))) m.marked;
  only = λ j is. elim (m.only j is) [
    | inl h ↦ elim (set_only a (n - 1) j h) [ inl g ↦ inl g | inr e ↦ inr (contains_first n (j + 1) rest (omega (arith, least, e))) ]
    | inr c ↦ inr (contains_rest n (j + 1) rest c)
  ];
}

-- what marks those that are left marks all
pub record IsMarkedSo (numbers : List ℕ) (i : ℕ) (old now : List Bool) : Type 0 where
  pub size : length now ≡ length old
  pub rest : (x : List Bool) → Marks (drop i numbers) now x → Marks numbers old x

pub marked_more : (numbers : List ℕ) (i : ℕ) (old now : List Bool) → i < length numbers → All (IsNumberUpTo (length old)) numbers → IsMarkedSo numbers i old now
    → IsMarkedSo numbers (i + 1) old (set now (get_or numbers i 0 - 1) true)
marked_more numbers i old now below within so =
    let n = get_or numbers i 0 in
    let e : suc i ≡ i + 1 = omega arith in
    subst (λ k. IsMarkedSo numbers k old (set now (n - 1) true)) e
    record {
      size = length-set now (n - 1) true ∙ so.size;
      rest = λ x m. so.rest x (subst (λ l. Marks l now x) (sym (drop-cons numbers i 0 below))
          (marks_first n (drop (suc i) numbers) now x (subst (λ l. IsNumberUpTo l n) (sym so.size) (within i 0 below)) m));
    }

drop_all : (xs : List ℕ) (i : ℕ) → length xs ≤ i → drop i xs ≡ []
drop_all [] zero past = refl
drop_all [] (suc i) past = refl
drop_all (x ∷ xs) zero past = absurd (omega arith)
drop_all (x ∷ xs) (suc i) past = drop_all xs i (omega arith)

pub marked_all : (numbers : List ℕ) (i : ℕ) (old now : List Bool) → length numbers ≤ i → IsMarkedSo numbers i old now → Marks numbers old now
marked_all numbers i old now past so = so.rest now (subst (λ l. Marks l now now) (sym (drop_all numbers i past)) (marks_none now))
