-- Marks that are closed from a place on, down to the first.
use Rattle.std.proofs.Common.{◌≡◌, inl, inr, ℕ, zero, suc, ◌+◌, ◌<◌, ◌≤◌, Bool, true, false, List, [], All, Contains, Some, length, get_or, replicate, slice_get, refl, sym, subst, ◌∙◌, arith}
use Rattle.std.proofs.lemmas.Bool.{true≢false, cases_eq}
use Rattle.std.proofs.lemmas.List.{length-replicate}
use Rattle.std.proofs.lemmas.Option.{same_Some, none-some, slice_get-get_or, slice_get_within, get_or_from_slice_get}
use Rattle.refute_path.specs.declared.derivations.Deriv.{Deriv}
use Rattle.needed_derivs.specs.Needed.{IsNumberUpTo, numbers_in, IsNeeded, on_path, named}
use Rattle.needed_derivs.specs.Marks.{IsMarked, HasMark, Marks, named_where, AreMarks}

pub record MarkedFrom (derivs : List Deriv) (path : List ℕ) (marks : List Bool) (k : ℕ) : Type 0 where
  pub size : length marks ≡ length derivs
  pub place : k ≤ length derivs
  pub path_marked : (n : ℕ) → Contains path n → HasMark marks n
  pub closed : (j : ℕ) (d : Deriv) → k ≤ j → IsMarked marks j → slice_get derivs j ≡ Some d → (n : ℕ) → Contains (numbers_in d) n → HasMark marks n
  pub only : (j : ℕ) → IsMarked marks j → IsNeeded derivs path (j + 1)

none_marked : (n j : ℕ) → IsMarked (replicate n false) j → ⊥
none_marked zero j is = none-some true is
none_marked (suc n) zero is = true≢false (sym (same_Some false true is))
none_marked (suc n) (suc j) is = none_marked n j is

pub marked_begin : (derivs : List Deriv) (path : List ℕ) (x : List Bool) → Marks path (replicate (length derivs) false) x → MarkedFrom derivs path x (length derivs)
marked_begin derivs path x m = record {
  size = m.size ∙ length-replicate (length derivs) false;
  place = omega arith;
  path_marked = m.marked;
  closed = λ j d from is at n c. (let h = slice_get_within derivs j d at in absurd (omega (arith, from, h)));
  only = λ j is. elim (m.only j is) [ inl h ↦ absurd (none_marked (length derivs) j h) | inr c ↦ on_path (j + 1) c ];
}

still_marked : (numbers : List ℕ) (a x : List Bool) → Marks numbers a x → (n : ℕ) → HasMark a n → HasMark x n
still_marked numbers a x m n (j, e, is) = (j, e, m.more j is)

nothing_in : (n : ℕ) → Contains [] n → ⊥
nothing_in n (k, below, e) = absurd (omega arith)

number_of_member : (k : ℕ) (xs : List ℕ) (n : ℕ) → All (IsNumberUpTo k) xs → Contains xs n → IsNumberUpTo k n
number_of_member k xs n all (i, below, e) = subst (IsNumberUpTo k) e (all i n below)

module _ (derivs : List Deriv) (path : List ℕ) (a x : List Bool) (k : ℕ) (d : Deriv) (at : slice_get derivs k ≡ Some d) (earlier : All (IsNumberUpTo k) (numbers_in d))
    (from : MarkedFrom derivs path a (k + 1)) where
  private_named : IsMarked a k → Marks (numbers_in d) a x → MarkedFrom derivs path x k
  private_named here m = record {
    size = m.size ∙ from.size;
    place = (let h = slice_get_within derivs k d at in omega arith);
    path_marked = λ n c. still_marked (numbers_in d) a x m n (from.path_marked n c);
    closed = own_closed;
    only = own_only;
  }
    where
      own_closed : (j : ℕ) (e : Deriv) → k ≤ j → IsMarked x j → slice_get derivs j ≡ Some e → (n : ℕ) → Contains (numbers_in e) n → HasMark x n
      own_closed j e least is there n c = elim (cases_eq j k) [
        | inl same ↦ m.marked n (subst (λ (f : Deriv). Contains (numbers_in f) n) (same_Some e d (sym there ∙ subst (λ i. slice_get derivs i ≡ Some d) (sym same) at)) c)
        | inr other ↦ elim (m.only j is) [
          | inl h ↦ still_marked (numbers_in d) a x m n (from.closed j e (omega arith) h there n c)
          | inr g ↦ absurd (let (l, f) = number_of_member k (numbers_in d) (j + 1) earlier g in omega arith)
        ]
      ]

      own_only : (j : ℕ) → IsMarked x j → IsNeeded derivs path (j + 1)
      own_only j is = elim (m.only j is) [ inl h ↦ from.only j h | inr g ↦ named (j + 1) k d (from.only k here) at g ]

  private_same : (IsMarked a k → ⊥) → Marks [] a x → MarkedFrom derivs path x k
  private_same never m = record {
    size = m.size ∙ from.size;
    place = (let h = slice_get_within derivs k d at in omega arith);
    path_marked = λ n c. still_marked [] a x m n (from.path_marked n c);
    closed = own_closed;
    only = λ j is. from.only j (old j is);
  }
    where
      old : (j : ℕ) → IsMarked x j → IsMarked a j
      old j is = elim (m.only j is) [ inl h ↦ h | inr g ↦ absurd (nothing_in (j + 1) g) ]

      own_closed : (j : ℕ) (e : Deriv) → k ≤ j → IsMarked x j → slice_get derivs j ≡ Some e → (n : ℕ) → Contains (numbers_in e) n → HasMark x n
      own_closed j e least is there n c = elim (cases_eq j k) [
        | inl same ↦ absurd (never (subst (IsMarked a) same (old j is)))
        | inr other ↦ still_marked [] a x m n (from.closed j e (omega arith) (old j is) there n c)
      ]

  by_mark : (b : Bool) → get_or a k false ≡ b → Marks (named_where b d) a x → MarkedFrom derivs path x k
  by_mark true e m =
      let within : k < length a = (let h = slice_get_within derivs k d at in omega (arith, h, from.size)) in
      private_named (subst (λ b. slice_get a k ≡ Some b) e (slice_get-get_or a k false within)) m
  by_mark false e m = private_same (λ is. true≢false (sym (get_or_from_slice_get a k true false is) ∙ e)) m

  pub marked_down : Marks (named_where (get_or a k false) d) a x → MarkedFrom derivs path x k
  marked_down m = by_mark (get_or a k false) refl m

pub marked_end : (derivs : List Deriv) (path : List ℕ) (marks : List Bool) (k : ℕ) → k ≤ 0 → MarkedFrom derivs path marks k → AreMarks derivs path marks
marked_end derivs path marks k done from = record {
  size = from.size;
  path_marked = from.path_marked;
  closed = λ j d is at n c. from.closed j d (omega (arith, done)) is at n c;
  only = from.only;
}
