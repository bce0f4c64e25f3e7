-- Watches that see records one after the other.
use Rattle.std.proofs.Common.{◌≡◌, ℕ, ◌≤◌, List, [], ◌∷◌, ◌++◌, Option, refl, subst, sym, ◌∙◌, ap}
use Rattle.std.specs.List.{AllZip}
use Rattle.run_watch.specs.declared.context.Found.{Found}
use Rattle.run_watch.specs.Judges.{judge}
use Rattle.run_watch.specs.Runs.{Sight, HasSeen, verdict}

pub zip_same : {A : Type 0} (R : A → A → Type 0) (xs : List A) → ((x : A) → R x x) → AllZip R xs xs
zip_same R [] h = tt
zip_same R (x ∷ xs) h = (h x, zip_same R xs h)

pub zip_then : {A B C : Type 0} (R : A → B → Type 0) (S : B → C → Type 0) (T : A → C → Type 0) (xs : List A) (ys : List B) (zs : List C)
    → ((x : A) (y : B) (z : C) → R x y → S y z → T x z) → AllZip R xs ys → AllZip S ys zs → AllZip T xs zs
zip_then R S T [] [] [] h a b = tt
zip_then R S T [] [] (z ∷ zs) h a b = absurd b
zip_then R S T [] (y ∷ ys) zs h a b = absurd a
zip_then R S T (x ∷ xs) [] zs h a b = absurd a
zip_then R S T (x ∷ xs) (y ∷ ys) [] h a b = absurd b
zip_then R S T (x ∷ xs) (y ∷ ys) (z ∷ zs) h (r, a) (s, b) = (h x y z r s, zip_then R S T xs ys zs h a b)

-- nothing was seen
pub seen_none : (kind : ℕ) (state : Option Found) → HasSeen [] kind state kind state
seen_none kind state = record { same_kind = refl; judged = λ least most. refl }

pub verdict-append : (kind : ℕ) (xs ys : List Sight) (state : Option Found)
    → verdict kind state (xs ++ ys) ≡ verdict kind (verdict kind state xs) ys
verdict-append kind [] ys state = refl
verdict-append kind (s ∷ xs) ys state = verdict-append kind xs ys (judge kind state s.moment s.told)

-- records in which nothing is found, whether the watch saw them or not
pub seen_quietly : (seen : List Sight) (kind : ℕ) (state : Option Found) → ((k : ℕ) (s : Option Found) → verdict k s seen ≡ s)
    → HasSeen seen kind state kind state
seen_quietly seen kind state silent = record { same_kind = refl; judged = λ least most. sym (silent kind state) }

-- some records were seen, and then others
pub seen_then : (xs ys : List Sight) (k l m : ℕ) (a b c : Option Found)
    → HasSeen xs k a l b → HasSeen ys l b m c → HasSeen (xs ++ ys) k a m c
seen_then xs ys k l m a b c first then_more = record {
  same_kind = then_more.same_kind ∙ first.same_kind;
  judged = λ least most.
      then_more.judged (subst (λ n. 1 ≤ n) (sym first.same_kind) least) (subst (λ n. n ≤ 4) (sym first.same_kind) most)
      ∙ ap (λ n. verdict n b ys) first.same_kind
      ∙ ap (λ state. verdict k state ys) (first.judged least most)
      ∙ sym (verdict-append k xs ys a);
}
