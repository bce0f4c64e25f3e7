-- Numbering the heads, node by node.
use Rattle.std.proofs.Common.{◌≡◌, ℕ, ◌+◌, ◌≤◌, inl, inr, List, [], ◌∷◌, ◌++◌, Contains, length, get_or, sym, subst, ◌∙◌, arith}
use Rattle.std.specs.Prelude.{Option, None, Some, IsSome, MatchOption}
use Rattle.std.proofs.lemmas.Bool.{cases_eq, cases_lt, false≢true}
use Rattle.std.proofs.lemmas.List.{length_push, length-append, get_or_append_left, get_or_push}
use Rattle.std.proofs.lemmas.List.Elements.{Contains-push, Contains-push_cases, Contains-append_left, Contains-get_or}
use Rattle.affine_prog.specs.declared.Program.{Program}
use Rattle.merged_heads.specs.declared.Merging.{Merging}
use Rattle.merged_heads.specs.Merges.{edge_number}
use Rattle.merged_heads.specs.Chains.{IsHead}
use Rattle.merged_heads.specs.BlockPrograms.{NumbersHeads}
use Rattle.block_program.specs.Numbers.{AreHeadsBelow, IsNumber, AreNumbersBelow}
use Rattle.block_program.proofs.Tables.{table_push}

pub not_both : (o : Option ℕ) → o ≡ None → IsSome o → ⊥
not_both o none some = subst (λ (x : Option ℕ). IsSome x → ⊥) (sym none) (λ k. false≢true k) some

module _ (program : Program) (merging : Merging) (n : ℕ) (heads : List ℕ) (h : AreHeadsBelow program merging n heads) where
  pub heads_push : IsHead program merging n → AreHeadsBelow program merging (n + 1) (heads ++ n ∷ [])
  heads_push head = record {
    order = λ k within.
        let long = length_push heads n in
        elim (cases_lt (k + 1) (length heads)) [
          | inl inside ↦
              let old = h.order k inside in
              let a = get_or_append_left heads (n ∷ []) 0 k (omega arith) in
              let b = get_or_append_left heads (n ∷ []) 0 (k + 1) inside in omega arith
          | inr past ↦
              let a = get_or_append_left heads (n ∷ []) 0 k (omega arith) in
              let b = get_or_push heads n 0 (k + 1) (omega arith) in
              let below = ((h.all (get_or heads k 0)).0 (Contains-get_or heads k 0 (omega arith))).0 in omega arith
        ];
    all = λ u. (
      λ c. elim (Contains-push_cases heads n u c) [
        | inl old ↦ let r = (h.all u).0 old in (let b = r.0 in omega arith, r.1)
        | inr same ↦ (omega arith, subst (IsHead program merging) same head)
      ],
      λ r. elim (cases_eq u n) [
        | inl same ↦ subst (Contains (heads ++ n ∷ [])) (sym same) (Contains-push heads n)
        | inr other ↦ Contains-append_left heads (n ∷ []) u ((h.all u).1 (let b = r.0 in omega (arith, other), r.1))
      ],
    );
  }

  pub heads_stay : IsSome (edge_number merging n) → AreHeadsBelow program merging (n + 1) heads
  heads_stay merged = record {
    order = h.order;
    all = λ u. (
      λ c. let r = (h.all u).0 c in (let b = r.0 in omega arith, r.1),
      λ r. elim (cases_eq u n) [
        | inl same ↦ let d = r.1 in absurd (not_both (edge_number merging n) (subst (λ (i : ℕ). edge_number merging i ≡ None) same d.not_merged) merged)
        | inr other ↦ (h.all u).1 (let b = r.0 in omega (arith, other), r.1)
      ],
    );
  }

pub heads_all : (program : Program) (merging : Merging) (n : ℕ) (heads : List ℕ) → program.nodes ≤ n → AreHeadsBelow program merging n heads → NumbersHeads program merging heads
heads_all program merging n heads past h = record {
  order = h.order;
  all = λ u. (λ c. ((h.all u).0 c).1, λ d. (h.all u).1 (let b = d.node in omega arith, d));
}

number_stays : (heads more : List ℕ) (v : ℕ) (P : Type 0) (o : Option ℕ) → MatchOption o P (IsNumber heads v) → MatchOption o P (IsNumber (heads ++ more) v)
number_stays heads more v P None is = is
number_stays heads more v P (Some i) is = record {
  within = let l = length-append heads more in let w = is.within in omega arith;
  is = get_or_append_left heads more 0 i is.within ∙ is.is;
}

pub numbers_push : (merging : Merging) (n : ℕ) (heads : List ℕ) (table : List (Option ℕ)) (i : ℕ) → i ≡ length heads → AreNumbersBelow merging n heads table
    → AreNumbersBelow merging (n + 1) (heads ++ n ∷ []) (table ++ Some i ∷ [])
numbers_push merging n heads table i is t = record {
  long = let l = length_push table (Some i) in let m = t.long in omega arith;
  at = table_push (λ v x. MatchOption x (IsSome (edge_number merging v)) (IsNumber (heads ++ n ∷ []) v)) n table (Some i) t.long (λ v below. number_stays heads (n ∷ []) v (IsSome (edge_number merging v)) _ (t.at v below))
      (record { within = let l = length_push heads n in omega arith; is = get_or_push heads n 0 i (sym is) });
}

abbrev none_of : List (Option ℕ) → Option ℕ
none_of table = None

pub numbers_skip : (merging : Merging) (n : ℕ) (heads : List ℕ) (table : List (Option ℕ)) → IsSome (edge_number merging n) → AreNumbersBelow merging n heads table
    → AreNumbersBelow merging (n + 1) heads (table ++ None ∷ [])
numbers_skip merging n heads table merged t = record {
  long = let l = length_push table (none_of table) in let m = t.long in omega arith;
  at = table_push (λ v x. MatchOption x (IsSome (edge_number merging v)) (IsNumber heads v)) n table None t.long t.at merged;
}

-- one node more, as a record of what is kept
abbrev pub AreNumbered : Program → Merging → ℕ → List ℕ → List (Option ℕ) → Type 0
AreNumbered program merging n heads table = AreHeadsBelow program merging n heads × AreNumbersBelow merging n heads table × (length heads ≤ n)

pub numbered_merged : (program : Program) (merging : Merging) (n : ℕ) (heads heads' : List ℕ) (table table' : List (Option ℕ)) → heads' ≡ heads → table' ≡ table ++ None ∷ [] → IsSome (edge_number merging n)
    → AreNumbered program merging n heads table → AreNumbered program merging (n + 1) heads' table'
numbered_merged program merging n heads heads' table table' same pushed merged t =
    rw (same, pushed) (heads_stay program merging n heads t.0 merged, numbers_skip merging n heads table merged t.1, let l = t.2 in omega arith)

pub numbered_head : (program : Program) (merging : Merging) (n : ℕ) (heads heads' : List ℕ) (table table' : List (Option ℕ)) (i : ℕ) → i ≡ length heads → heads' ≡ heads ++ n ∷ [] → table' ≡ table ++ Some i ∷ [] → IsHead program merging n
    → AreNumbered program merging n heads table → AreNumbered program merging (n + 1) heads' table'
numbered_head program merging n heads heads' table table' i is same pushed head t =
    rw (same, pushed) (heads_push program merging n heads t.0 head, numbers_push merging n heads table i is t.1, let l = t.2 in let long = length_push heads n in omega arith)
