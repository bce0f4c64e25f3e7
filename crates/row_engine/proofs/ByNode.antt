-- Lists of numbers by node, made one number after the other.
use Rattle.std.proofs.Common.{◌≡◌, ℕ, zero, suc, ◌<◌, ◌+◌, ◌↔◌, inl, inr, List, [], ◌∷◌, ◌++◌, Contains, length, replicate, get_or, set, length-set, refl, ap, sym, subst, ◌∙◌, arith}
use Rattle.std.proofs.lemmas.Bool.{cases_eq, cases_lt}
use Rattle.std.proofs.lemmas.List.{get_or_default, get_or-set_same, get_or-set_other, length-replicate}
use Rattle.std.proofs.lemmas.List.Elements.{Contains-append_left, Contains-append_right, Contains-append_cases}
use Rattle.affine_prog.specs.declared.Program.{Program}
use Rattle.affine_prog.specs.declared.Edge.{Edge}
use Rattle.affine_prog.specs.declared.Kind.TheVariants.{Do}
use Rattle.affine_prog.specs.Programs.{edge, IsEdgeOf, IsWellFormed}
use Rattle.row_engine.specs.Tables.{edge_at, LeaveFirst}
use Rattle.row_engine.proofs.Members.{nothing_in, first_in, only_in}

abbrev pub AreFirst : (ℕ → ℕ → Type 0) → ℕ → List (List ℕ) → Type 0
AreFirst R n lists = (u k : ℕ) → Contains (get_or lists u []) k ↔ ((k < n) × R u k)

empty_at : (n u : ℕ) → get_or (replicate {A = List ℕ} n []) u [] ≡ []
empty_at zero u = refl
empty_at (suc n) zero = refl
empty_at (suc n) (suc u) = empty_at n u

pub first_none : (R : ℕ → ℕ → Type 0) (n : ℕ) (lists : List (List ℕ)) → lists ≡ replicate n [] → AreFirst R 0 lists
first_none R n lists is u k = (
  λ h. absurd (nothing_in k (subst (λ l. Contains l k) (ap (λ (x : List (List ℕ)). get_or x u []) is ∙ empty_at n u) h)),
  λ h. absurd (let b = h.0 in omega arith),
)

module _ (R : ℕ → ℕ → Type 0) (n : ℕ) (lists : List (List ℕ)) (first : AreFirst R n lists) where
  pub first_skipped : ((u : ℕ) → R u n → ⊥) → AreFirst R (n + 1) lists
  first_skipped none u k = (
    λ h. let i = (first u k).0 h in (let b = i.0 in omega arith, i.1),
    λ h. elim (cases_lt k n) [
      | inl below ↦ (first u k).1 (below, h.1)
      | inr above ↦ let b = h.0 in let e : k ≡ n = omega arith in absurd (none u (subst (R u) e h.1))
    ],
  )

  module _ (v : ℕ) (list more : List ℕ) (within : v < length lists) (is : list ≡ get_or lists v list) (more_is : more ≡ list ++ n ∷ []) (here : R v n) (only : (u : ℕ) → R u n → u ≡ v) where
    own : get_or lists v [] ≡ list
    own = get_or_default lists v [] list within ∙ sym is

    pub first_added : AreFirst R (n + 1) (set lists v more)
    first_added u k = elim (cases_eq u v) [
      | inl e ↦ rw e (
        λ h. elim (Contains-append_cases list (n ∷ []) k (subst (λ l. Contains l k) (get_or-set_same lists v more [] within ∙ more_is) h)) [
          | inl i ↦ let j = (first v k).0 (subst (λ l. Contains l k) (sym own) i) in (let b = j.0 in omega arith, j.1)
          | inr i ↦ let f = only_in n k i in (omega arith, rw f here)
        ],
        λ h. subst (λ l. Contains l k) (sym (get_or-set_same lists v more [] within ∙ more_is)) (elim (cases_lt k n) [
          | inl below ↦ Contains-append_left list (n ∷ []) k (subst (λ l. Contains l k) own ((first v k).1 (below, h.1)))
          | inr above ↦ let b = h.0 in let f : k ≡ n = omega arith in Contains-append_right list (n ∷ []) k (rw f (first_in n []))
        ]),
      )
      | inr other ↦ (
        λ h. let i = (first u k).0 (subst (λ l. Contains l k) (get_or-set_other lists v u more [] other) h) in (let b = i.0 in omega arith, i.1),
        λ h. subst (λ l. Contains l k) (sym (get_or-set_other lists v u more [] other)) (elim (cases_lt k n) [
          | inl below ↦ (first u k).1 (below, h.1)
          | inr above ↦ let b = h.0 in let f : k ≡ n = omega arith in absurd (other (only u (subst (R u) f h.1)))
        ]),
      )
    ]

-- edges by the node that they leave
module _ (program : Program) where
  pub leave_none : (out : List (List ℕ)) → out ≡ replicate program.nodes [] → LeaveFirst program 0 out
  leave_none out is = record {
    each = ap (λ (l : List (List ℕ)). length l) is ∙ length-replicate {A = List ℕ} program.nodes [];
    is = first_none (λ u k. (edge_at program k).from ≡ u) program.nodes out is;
  }

  pub leave_more : (n v : ℕ) (out : List (List ℕ)) (list more : List ℕ) → LeaveFirst program n out → v < program.nodes → v ≡ (edge_at program n).from → list ≡ get_or out v list → more ≡ list ++ n ∷ []
      → LeaveFirst program (n + 1) (set out v more)
  leave_more n v out list more s within from is more_is = record {
    each = length-set out v more ∙ s.each;
    is = first_added (λ u k. (edge_at program k).from ≡ u) n out s.is v list more (let e = s.each in omega arith) is more_is (sym from) (λ u e. sym e ∙ sym from);
  }

pub edge_found : (program : Program) (k : ℕ) (e : Edge) (edges : List Edge) → k < length program.edges → edges ≡ program.edges → e ≡ get_or edges k e → e ≡ edge_at program k
edge_found program k e edges within same is = is ∙ ap (λ (l : List Edge). get_or l k e) same ∙ get_or_default program.edges k e (edge 0 0 (Do [])) within

pub edge_of : (program : Program) (k : ℕ) → IsWellFormed program → k < length program.edges → IsEdgeOf program (edge_at program k)
edge_of program k formed within = formed.edges k (edge 0 0 (Do [])) within

-- what a list of lists has at a number
pub found : (lists : List (List ℕ)) (u n : ℕ) (x y : List ℕ) → u < n → length lists ≡ n → x ≡ get_or lists u x → y ≡ x → y ≡ get_or lists u []
found lists u n x y below long is same = same ∙ is ∙ get_or_default lists u x [] (omega arith)
