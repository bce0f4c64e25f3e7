-- A program has no more heads than it may, or it has more.
use Rattle.std.proofs.Common.{◌≡◌, ◌↔◌, ℕ, zero, suc, ◌+◌, ◌<◌, ◌≤◌, List, [], ◌∷◌, length, slice_index, Contains, inl, inr, sym, subst, arith}
use Rattle.std.specs.List.Sorted.{IsStrictlyIncreasing}
use Rattle.std.proofs.lemmas.Bool.{cases_eq, cases_lt}
use Rattle.std.proofs.lemmas.List.Elements.{Contains-append_right, Contains-get_or}
use Rattle.flow_points.proofs.Cited.{cons_cases}
use Rattle.affine_prog.specs.declared.Program.{Program}
use Rattle.block_program.specs.InnerNodes.{IsHead, IsInner, NumbersHeads}
use Rattle.analyser_core.specs.Heads.{HasFewHeads, HasManyHeads, most_heads}
use Rattle.never_neither.proofs.Deciding.{decide}

module _ (program : Program) where
  -- the heads from a node on
  record AreHeadsFrom (n : ℕ) (heads : List ℕ) : Type 0 where
    pub order : IsStrictlyIncreasing heads
    pub all : (u : ℕ) → Contains heads u ↔ ((n ≤ u) × IsHead program u)

  module _ (n : ℕ) (heads : List ℕ) (h : AreHeadsFrom (n + 1) heads) where
    heads_stay : IsInner program n → AreHeadsFrom n heads
    heads_stay inner = record {
      order = h.order;
      all = λ u. (
        λ there. let r = (h.all u).0 there in (let low = r.0 in omega (arith, low), r.1),
        λ d. elim (cases_eq u n) [
          | inl same ↦ absurd (d.1.not_inner (subst (IsInner program) (sym same) inner))
          | inr other ↦ let low = d.0 in (h.all u).1 (omega (arith, low, other), d.1)
        ],
      );
    }

    first_low : (k : ℕ) → k + 1 < length (n ∷ heads) → slice_index (n ∷ heads) k < slice_index (n ∷ heads) (k + 1)
    first_low zero within =
        let low = ((h.all (slice_index heads 0)).0 (Contains-get_or heads 0 0 (omega (arith, within)))).0 in omega (arith, low)
    first_low (suc k) within =
        subst (λ (i : ℕ). slice_index heads k < slice_index (n ∷ heads) i) (let e : suc (k + 1) ≡ suc k + 1 = omega arith in e)
        (h.order k (omega (arith, within)))

    heads_more : IsHead program n → AreHeadsFrom n (n ∷ heads)
    heads_more head = record {
      order = first_low;
      all = λ u. (
        λ there. elim (cons_cases n heads u there) [
          | inl same ↦ (omega (arith, same), subst (IsHead program) same head)
          | inr later ↦ let r = (h.all u).0 later in (let low = r.0 in omega (arith, low), r.1)
        ],
        λ d. elim (cases_eq u n) [
          | inl same ↦ (0, omega arith, sym same)
          | inr other ↦ let low = d.0 in Contains-append_right (n ∷ []) heads u ((h.all u).1 (omega (arith, low, other), d.1))
        ],
      );
    }

  heads_from : (k n : ℕ) → n + k ≡ program.nodes → ((heads : List ℕ) → AreHeadsFrom n heads → ⊥) → ⊥
  heads_from zero n is none = none [] (record {
    order = λ k within. absurd (omega (arith, within));
    all = λ u. (
      λ there. absurd (omega (arith, there.1)),
      λ d. let low = d.0 in let high = d.1.node in absurd (omega (arith, low, high, is)),
    );
  })
  heads_from (suc k) n is none =
      heads_from k (n + 1) (omega (arith, is)) (λ heads h.
      decide (IsInner program n) (λ d. elim d [
        | inl inner ↦ none heads (heads_stay n heads h inner)
        | inr outer ↦ none (n ∷ heads) (heads_more n heads h (record { node = omega (arith, is); not_inner = outer }))
      ]))

  pub heads_counted : (HasFewHeads program → ⊥) → (HasManyHeads program → ⊥) → ⊥
  heads_counted few many =
      heads_from program.nodes 0 (omega arith) (λ heads h.
      let numbers : NumbersHeads program heads = record {
        order = h.order;
        all = λ u. (λ there. ((h.all u).0 there).1, λ d. (h.all u).1 (omega arith, d));
      } in
      elim (cases_lt most_heads (length heads)) [
        | inl more ↦ many (record { heads = heads; numbers = numbers; many = more })
        | inr most ↦ few (record { heads = heads; numbers = numbers; few = most })
      ])
