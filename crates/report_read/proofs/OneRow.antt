-- The terms and the constant of a row tell the row.
use Rattle.std.proofs.Common.{◌≡◌, ◌≢◌, ℕ, zero, suc, ◌<◌, ◌≤◌, Bool, true, false, cond, eqb, List, [], ◌∷◌, All, length, drop, get_or, refl, sym, subst, ap, ◌∙◌, arith, inl, inr, ⊎_elim}
use Rattle.std.specs.List.{AllByRecursion, AllPairs}
use Rattle.std.proofs.lemmas.Bool.{cases_eq, cases_lt, eqb-true}
use Rattle.std.proofs.lemmas.List.{get_or_default, same_lists}
use Rattle.std.proofs.lemmas.List.Elements.{All-get_or, All-head, All-tail}
use Rattle.report_text.specs.declared.names.Name.{Name}
use Rattle.report_text.specs.declared.names.Name.TheVariants.{Register}
use Rattle.report_text.specs.Names.{IsName}
use Rattle.report_text.specs.Text.{name_text}
use Rattle.report_lines.specs.NameTexts.{IsAddressed}
use Rattle.report_lines.specs.Terms.{Term}
use Rattle.report_lines.specs.Relations.{IsRowOf, terms_of}
use Rattle.report_lines.proofs.NamesTold.{one_name}
use Rattle.report_read.proofs.LinesThere.{seen_within}
use Rattle.report_read.proofs.RowsAgain.{each_term}

-- names with one text each
pub record AreApart (names : List Name) : Type 0 where
  pub allowed : All IsName names
  pub addressed : All IsAddressed names
  pub distinct : AllPairs (λ (a : Name) b. a ≢ b) names

apart_tail : (name : Name) (names : List Name) → AreApart (name ∷ names) → AreApart names
apart_tail name names apart = record {
  allowed = All-tail IsName name names apart.allowed;
  addressed = All-tail IsAddressed name names apart.addressed;
  distinct = λ i j d lt below. apart.distinct (suc i) (suc j) d (omega arith) (omega arith);
}

not_later : (name : Name) (names : List Name) (row : List ℕ) → AreApart (name ∷ names)
    → AllByRecursion (λ (t : Term). t.1 ≢ name_text name) (terms_of names row)
not_later name names row apart =
    each_term (λ (t : Term). t.1 ≢ name_text name) names row (Register 0) (λ k lt wide some e.
    apart.distinct 0 (suc k) (Register 0) (omega arith) (omega arith)
    (one_name name (get_or names k (Register 0)) (All-head IsName name names apart.allowed) (All-head IsAddressed name names apart.addressed)
    (All-get_or IsName names k (Register 0) lt (All-tail IsName name names apart.allowed))
    (All-get_or IsAddressed names k (Register 0) lt (All-tail IsAddressed name names apart.addressed)) (sym e)))

abbrev first_word : List Term → ℕ
first_word [] = 0
first_word (t ∷ terms) = t.0

words_same : (names : List Name) (xs ys : List ℕ) → AreApart names → length names ≤ length xs → length names ≤ length ys
    → terms_of names xs ≡ terms_of names ys
    → (k : ℕ) → k < length names → get_or xs k 0 ≡ get_or ys k 0
words_same [] xs ys apart wide also e k lt = absurd (omega arith)
words_same (name ∷ names) [] ys apart wide also e k lt = absurd (omega arith)
words_same (name ∷ names) (x ∷ xs) [] apart wide also e k lt = absurd (omega arith)
words_same (name ∷ names) (x ∷ xs) (y ∷ ys) apart wide also e k lt = at_k (words_same names xs ys (apart_tail name names apart) (omega arith) (omega arith)) k lt
  where
    both : (a b : Bool) → eqb x 0 ≡ a → eqb y 0 ≡ b
        → cond a (terms_of names xs) ((x, name_text name) ∷ terms_of names xs) ≡ cond b (terms_of names ys) ((y, name_text name) ∷ terms_of names ys)
        → (x ≡ y) × (terms_of names xs ≡ terms_of names ys)
    both true true p q e = (eqb-true x 0 p ∙ sym (eqb-true y 0 q), e)
    both true false p q e =
        let there = subst (λ (ts : List Term). AllByRecursion (λ (t : Term). t.1 ≢ name_text name) ts) e (not_later name names xs apart) in absurd (there.0 refl)
    both false true p q e =
        let there = subst (λ (ts : List Term). AllByRecursion (λ (t : Term). t.1 ≢ name_text name) ts) (sym e) (not_later name names ys apart) in absurd (there.0 refl)
    both false false p q e = (ap first_word e, ap (drop 1) e)

    at_k : (terms_of names xs ≡ terms_of names ys → (j : ℕ) → j < length names → get_or xs j 0 ≡ get_or ys j 0) → (j : ℕ)
        → j < length (name ∷ names)
        → get_or (x ∷ xs) j 0 ≡ get_or (y ∷ ys) j 0
    at_k later zero less = (both (eqb x 0) (eqb y 0) refl refl e).0
    at_k later (suc j) less = later (both (eqb x 0) (eqb y 0) refl refl e).1 j (omega arith)

module _ (names : List Name) (apart : AreApart names) (few : length names ≤ 16) (p : ℕ) (terms : List Term) (c : ℕ) where
  zero_beyond : (row : List ℕ) → IsRowOf names p terms c row → (k : ℕ) → k < 16 → length names ≤ k → get_or row k 0 ≡ 0
  zero_beyond row is k lt beyond = ⊎_elim (λ e. e) (λ some. absurd (let within = seen_within names p k (is.seen k lt some) in omega arith)) (cases_eq (get_or row k 0) 0)

  pub one_row : (xs ys : List ℕ) → IsRowOf names p terms c xs → IsRowOf names p terms c ys → xs ≡ ys
  one_row xs ys is also = same_lists xs ys (is.is_row.width ∙ sym also.is_row.width) (λ k d lt. at_d k d lt (by k (omega (arith, is.is_row.width))))
    where
      by : (k : ℕ) → k < 17 → get_or xs k 0 ≡ get_or ys k 0
      by k lt = ⊎_elim (λ e. ap (λ (j : ℕ). get_or xs j 0) e ∙ is.constant_is ∙ sym also.constant_is ∙ ap (λ (j : ℕ). get_or ys j 0) (sym e)) (λ ne. below k (omega (arith, ne))) (cases_eq k 16)
        where
          below : (j : ℕ) → j < 16 → get_or xs j 0 ≡ get_or ys j 0
          below j less = elim (cases_lt j (length names)) [
            | inl l ↦ words_same names xs ys apart (omega (arith, few, is.is_row.width)) (omega (arith, few, also.is_row.width)) (is.terms_are ∙ sym also.terms_are) j l
            | inr g ↦ zero_beyond xs is j less g ∙ sym (zero_beyond ys also j less g)
          ]

      at_d : (k d : ℕ) → k < length xs → get_or xs k 0 ≡ get_or ys k 0 → get_or xs k d ≡ get_or ys k d
      at_d k d lt e = get_or_default xs k d 0 lt ∙ e ∙ get_or_default ys k 0 d (omega (arith, lt, is.is_row.width, also.is_row.width))
