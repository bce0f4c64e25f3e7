-- From the narrow relations of a module to those of the states that span it.
use Rattle.std.proofs.Common.{◌≡◌, ◌≢◌, ℕ, ◌*◌, ◌^◌, ◌<◌, inl, inr, List, Contains, replicate, slice_index, ap, sym, ◌∙◌, arith}
use Rattle.std.proofs.lemmas.Bool.{cases_lt}
use Rattle.word_rows.specs.Rows.{lead, pivot, IsState}
use Rattle.word_rows.proofs.Laws.{get_or-zeros, get_or_at_lead}
use Rattle.row_modules.specs.Modules.{AreRows, IsCombination, none, more, SameModule}
use Rattle.row_modules.proofs.Laws.{generator, vanishes_on_module}
use Rattle.relation_solver.proofs.Following.{follow_states}
use Rattle.narrow_solver.specs.Narrow.{narrow, narrowed, scaled, NarrowHolds}
use Rattle.narrow_solver.specs.Laws.{FollowNarrowStates}
use Rattle.narrow_solver.proofs.Narrowing.{get_or-narrowed, index_of_scaled}
use Rattle.narrow_solver.proofs.Scaling.{scaled_row, scaled_lead}
use Rattle.narrow_solver.proofs.Holding.{scaled_form}

-- what holds on a set modulo 2^32 holds on its module
pub holds_on_module : (s : ℕ) (P Q : List ℕ → Type 0) → AreRows 17 P → SameModule 17 P Q → (a : List ℕ) → NarrowHolds s P a → NarrowHolds s (IsCombination 17 Q) a
holds_on_module s P Q are same a h = record {
  row = h.row;
  hidden = h.hidden;
  zero_at = λ v m. (scaled_form a v).0 (vanishes_on_module 17 P are (scaled a) (λ u p. (scaled_form a u).1 (h.zero_at u p)) v (same.back v m));
}

pub holds_on_set : (s : ℕ) (P Q : List ℕ → Type 0) → AreRows 17 P → SameModule 17 P Q → (a : List ℕ) → NarrowHolds s (IsCombination 17 Q) a → NarrowHolds s P a
holds_on_set s P Q are same a h = record {
  row = h.row;
  hidden = h.hidden;
  zero_at = λ v p. h.zero_at v (same.there v (generator 17 P are v p));
}

-- a row that holds where there is a state doesn't lead at position 16
pub no_constant : (P : List ℕ → Type 0) (v a : List ℕ) (s : ℕ) → P v → IsState v → NarrowHolds s P a → lead a ≢ 16
no_constant P v a s p state h e =
    let w = h.row.width in
    let ne = get_or_at_lead a (omega arith) in
    let some : 0 < pivot a = positive (pivot a) ne in
    let own = scaled_lead 17 a (record { is_row = h.row; within = omega arith; some = some }) in
    (follow_states P).no_constant v (scaled a) s p state (record {
      on_visible = record {
        row = scaled_row 17 a h.row.width;
        hidden = λ k out. index_of_scaled 17 a k h.row ∙ ap (λ (x : ℕ). 2 ^ 32 * x) (h.hidden k out);
      };
      vanishes = λ u q. (scaled_form a u).1 (h.zero_at u q);
    }) (own ∙ e)
  where
    positive : (x : ℕ) → x ≢ 0 → 0 < x
    positive x ne = elim (cases_lt 0 x) [ inl lt ↦ lt | inr ge ↦ absurd (ne (omega arith)) ]

-- an empty set spans the zero row alone
empty_spans_zero : (n : ℕ) (P : List ℕ → Type 0) → ((v : List ℕ) → ¬ P v) → (v : List ℕ) → IsCombination n P v → v ≡ replicate n 0
empty_spans_zero n P empty v (none v' e) = e
empty_spans_zero n P empty w (more c v row w' m p e) = absurd (empty row p)

pub follow_narrow_states : (P : List ℕ → Type 0) → FollowNarrowStates P
follow_narrow_states P = record {
  unreached = λ basis states same. (
    λ zero v h.
        let z = zero v (same.there v (generator 17 P (λ u i. (states u i).row) v h)) in
        let one = (states v h).constant in
        let at : narrow (slice_index v 16) ≡ 0 = sym (get_or-narrowed v 16) ∙ ap (λ (x : List ℕ). slice_index x 16) z ∙ get_or-zeros 17 16 in
        let not : narrow 1 ≡ 0 = ap narrow (sym one) ∙ at in absurd (omega (arith, not)),
    λ empty v m. let e = empty_spans_zero 17 P empty v (same.back v m) in ap narrowed e,
  );
  answer = λ basis rows s states same answer.
      let are : AreRows 17 P = λ u i. (states u i).row in
      record {
        basis = answer.basis;
        reduced = answer.reduced;
        generates = record {
          inside = λ v h. holds_on_set s P (Contains basis) are same v (answer.generates.inside v h);
          all = λ a h. answer.generates.all a (holds_on_module s P (Contains basis) are same a h);
        };
      };
  no_constant = no_constant P;
}
