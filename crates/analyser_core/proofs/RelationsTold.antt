-- The relations at a node, from a basis of the module of the states that reach it.
use Rattle.std.proofs.Common.{◌≢◌, ℕ, ◌<◌, inl, inr, List, [], ◌∷◌, Contains, get_or, replicate, ap, ◌∙◌, arith}
use Rattle.std.specs.Prelude.{IsTrue}
use Rattle.std.proofs.lemmas.List.Elements.{Contains-get_or}
use Rattle.word_rows.specs.Rows.{lead, IsState}
use Rattle.word_rows.proofs.Laws.{lead-zeros}
use Rattle.row_modules.specs.Modules.{IsCombination, none, more, Generates, SameModule}
use Rattle.row_modules.specs.Bases.{IsLeadingBasis}
use Rattle.row_modules.specs.Positions.{has}
use Rattle.row_modules.proofs.Laws.{in_or_out, zero_below, generator, contains_first}
use Rattle.lead_basis.proofs.Laws.{leads_at, empty_span, basis_rows}
use Rattle.relation_solver.proofs.Following.{follow_states}
use Rattle.relation_solver.specs.Laws.{FollowStates}
use Rattle.relation_solver.specs.Zero.{HasZeroAlone}
use Rattle.affine_prog.specs.declared.Program.{Program}
use Rattle.affine_prog.specs.Programs.{owner_of, visible_in, IsWellFormed}
use Rattle.affine_prog.specs.Relations.{IsReached, Holds}
use Rattle.affine_prog.specs.Laws.{HoldsIsAnnihilation, OpenStatesAreStates}
use Rattle.affine_prog.specs.Spans.{IsStateAt}
use Rattle.report_text.specs.declared.names.Name.{Name}
use Rattle.report_text.specs.declared.points.PointState.{PointState}
use Rattle.report_text.specs.declared.points.PointState.TheVariants.{Unreached, Rows}
use Rattle.report_text.specs.Names.{IsSeenAt}
use Rattle.report_text.specs.Reports.{AreRowsAtState}
use Rattle.analyser_core.specs.Reports.{TellsState}
use Rattle.analyser_core.specs.Told.{told_positions, RelatesBy, Relates}

-- what is visible at a node is seen in a procedure
abbrev pub IsSeenWhereVisible : Program → ℕ → List Name → ℕ → Type 0
IsSeenWhereVisible program u names procedure =
    (k : ℕ) → k < 16 → IsTrue (has (visible_in program (owner_of program u)) k) → IsSeenAt names procedure k

module _ (program : Program) (u : ℕ) (states : List (List ℕ)) (formed : IsWellFormed program) (holds : HoldsIsAnnihilation) (open_states : OpenStatesAreStates)
    (same : SameModule 17 (IsStateAt program u) (Contains states)) where
  are_states : (v : List ℕ) → IsStateAt program u v → IsState v
  are_states v at = open_states program at.start u v formed at.is_start at.path

  follow : FollowStates (IsStateAt program u)
  follow = follow_states (IsStateAt program u)

  pub relations_generate : (rows : List (List ℕ)) → RelatesBy (told_positions program u) states rows → Generates 17 rows (Holds program u)
  relations_generate rows r =
      let g = follow.generated states rows (told_positions program u) are_states same r.generating in
      record { inside = λ a h. (holds program u a).1 (g.inside a h); all = λ a h. g.all a ((holds program u a).0 h) }

  reached : IsReached program u → (v : List ℕ) × IsStateAt program u v
  reached r = (r.state, record { start = r.start; is_start = r.is_start; path = r.path })

  none_reached : HasZeroAlone 17 (Contains states) → IsReached program u → ⊥
  none_reached zero r = let s = reached r in (follow.unreached states are_states same).0 zero s.0 s.1

  -- a relation at a node that is reached doesn't lead at the constant
  named : IsReached program u → (a : List ℕ) → Holds program u a → lead a < 17 → lead a < 16
  named r a h within =
      let s = reached r in
      let other : lead a ≢ 16 = follow.no_constant s.0 a (told_positions program u) s.1 (are_states s.0 s.1) ((holds program u a).0 h) in
      omega (arith, other)

  -- a member that isn't the zero row is a combination of some state
  some_of : (v : List ℕ) → IsCombination 17 (IsStateAt program u) v → v ≢ replicate 17 0 → (s : List ℕ) × IsStateAt program u s
  some_of v (none v' e) other = absurd (other e)
  some_of v (more c w s v' m at e) other = (s, at)

  some_state : IsLeadingBasis 17 states → (HasZeroAlone 17 (Contains states) → ⊥) → (s : List ℕ) × IsStateAt program u s
  some_state basis some = by states basis same some
    where
      by : (rows : List (List ℕ)) → IsLeadingBasis 17 rows → SameModule 17 (IsStateAt program u) (Contains rows) → (HasZeroAlone 17 (Contains rows) → ⊥) →
          (s : List ℕ) × IsStateAt program u s
      by [] b is other = absurd (other (λ v m. empty_span 17 v m))
      by (row ∷ rest) b is other =
          some_of row (is.back row (generator 17 (Contains (row ∷ rest)) (basis_rows 17 (row ∷ rest) b) row (contains_first row rest)))
          (λ e. let z = ap lead e ∙ lead-zeros 17 in let i = b.0.within in omega arith)

  pub is_reached : IsLeadingBasis 17 states → (HasZeroAlone 17 (Contains states) → ⊥) → IsReached program u
  is_reached basis some =
      let s = some_state basis some in record { start = s.1.start; state = s.0; is_start = s.1.is_start; path = s.1.path }

  pub tells : (state : PointState) → IsLeadingBasis 17 states → Relates (told_positions program u) states state → TellsState program u state
  tells Unreached basis zero = none_reached zero
  tells (Rows rows) basis r = (is_reached basis r.some, relations_generate rows r)

  module _ (names : List Name) (procedure : ℕ) (seen : IsSeenWhereVisible program u names procedure) where
    seen_at : (a : List ℕ) (k : ℕ) → Holds program u a → k < 16 → get_or a k 0 ≢ 0 → IsSeenAt names procedure k
    seen_at a k h below other = elim (in_or_out (visible_in program (owner_of program u)) k) [
      | inl there ↦ seen k below there
      | inr out ↦ absurd (other (zero_below (visible_in program (owner_of program u)) a h.visible k below out))
    ]

    pub are_rows : (state : PointState) → IsLeadingBasis 17 states → Relates (told_positions program u) states state → AreRowsAtState names procedure state
    are_rows Unreached basis zero = tt
    are_rows (Rows rows) basis r =
        let g = relations_generate rows r in
        record {
          basis = r.basis;
          reduced = r.reduced;
          named = λ k d below. named (is_reached basis r.some) (get_or rows k d) (g.inside (get_or rows k d) (Contains-get_or rows k d below)) (leads_at 17 rows k d r.basis below).within;
          seen = λ k d below j under other. seen_at (get_or rows k d) j (g.inside (get_or rows k d) (Contains-get_or rows k d below)) under other;
        }
