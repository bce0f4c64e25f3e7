-- What holds modulo 2^32 at a node, from a basis of the module of the states that reach it.
use Rattle.std.proofs.Common.{◌≡◌, ◌≢◌, ℕ, suc, zero, ◌<◌, inl, inr, List, [], ◌∷◌, length, Contains, get_or, refl, ap, arith}
use Rattle.std.specs.Prelude.{◌↔◌}
use Rattle.std.proofs.lemmas.List.Elements.{Contains-get_or}
use Rattle.word_rows.specs.Rows.{lead, IsState}
use Rattle.row_modules.specs.Modules.{IsCombination, SameModule}
use Rattle.row_modules.specs.Bases.{IsLeadingBasis}
use Rattle.row_modules.specs.Positions.{with_constant}
use Rattle.row_modules.proofs.Laws.{in_or_out, zero_below}
use Rattle.affine_prog.specs.declared.Program.{Program}
use Rattle.affine_prog.specs.Programs.{owner_of, visible_in, IsWellFormed}
use Rattle.affine_prog.specs.Relations.{IsReached}
use Rattle.affine_prog.specs.Laws.{HoldsIsAnnihilation, OpenStatesAreStates}
use Rattle.affine_prog.specs.Spans.{IsStateAt}
use Rattle.report_text.specs.declared.names.Name.{Name}
use Rattle.report_text.specs.declared.points.PointState.{PointState}
use Rattle.report_text.specs.declared.points.PointState.TheVariants.{Unreached, Rows}
use Rattle.report_text.specs.Names.{IsSeenAt}
use Rattle.narrow_solver.specs.Narrow.{narrowed, IsNarrowBasis, IsNarrowZero}
use Rattle.narrow_solver.specs.Answers.{IsNarrowAnswer}
use Rattle.narrow_solver.specs.Laws.{FollowNarrowStates}
use Rattle.narrow_solver.specs.Solving.{OnNarrowRows}
use Rattle.narrow_solver.proofs.Following.{follow_narrow_states}
use Rattle.analyser_core.proofs.RelationsTold.{IsSeenWhereVisible, is_reached}
use Rattle.narrow_words.specs.Rows.{AreNarrowRowsAtState}
use Rattle.narrow_words.specs.Reports.{NarrowHoldsAt, TellsNarrowState}

leads_within : (n : ℕ) (rows : List (List ℕ)) (k : ℕ) (d : List ℕ) → IsNarrowBasis n rows → k < length rows → lead (get_or rows k d) < n
leads_within n [] k d basis below = absurd (omega arith)
leads_within n (row ∷ rows) zero d basis below = basis.0.within
leads_within n (row ∷ rows) (suc k) d basis below = leads_within n rows k d basis.1 (omega arith)

module _ (program : Program) (u : ℕ) (states : List (List ℕ)) (formed : IsWellFormed program) (holds : HoldsIsAnnihilation) (open_states : OpenStatesAreStates)
    (same : SameModule 17 (IsStateAt program u) (Contains states)) (basis : IsLeadingBasis 17 states) where
  visible : ℕ
  visible = with_constant (visible_in program (owner_of program u))

  are_states : (v : List ℕ) → IsStateAt program u v → IsState v
  are_states v at = open_states program at.start u v formed at.is_start at.path

  follow : FollowNarrowStates (IsStateAt program u)
  follow = follow_narrow_states (IsStateAt program u)

  module _ (state : PointState) (unreached : (state ≡ Unreached) ↔ IsNarrowZero 17 (Contains states))
      (rows : OnNarrowRows state (IsNarrowAnswer (with_constant (visible_in program (owner_of program u))) (IsCombination 17 (Contains states)))) where
    pub narrow_tells : TellsNarrowState program u state
    narrow_tells = by state unreached rows
      where
        by : (s : PointState) → (s ≡ Unreached) ↔ IsNarrowZero 17 (Contains states)
            → OnNarrowRows s (IsNarrowAnswer (with_constant (visible_in program (owner_of program u))) (IsCombination 17 (Contains states))) → TellsNarrowState program u s
        by Unreached nothing on = λ r. (follow.unreached states are_states same).0 (nothing.0 refl) r.state (record { start = r.start; is_start = r.is_start; path = r.path })
        by (Rows found) nothing on =
            let answer = follow.answer states found (with_constant (visible_in program (owner_of program u))) are_states same on in
            record {
              reached = is_reached program u states formed holds open_states same basis (λ none.
                  let clash : Rows found ≡ Unreached = nothing.1 (λ v m. let e = none v m in ap narrowed e) in cc);
              basis = answer.basis;
              reduced = answer.reduced;
              generates = answer.generates;
            }

  -- what holds at a node that is reached doesn't lead at the constant
  named : IsReached program u → (a : List ℕ) → NarrowHoldsAt program u a → lead a < 17 → lead a < 16
  named r a h within =
      let at : IsStateAt program u r.state = record { start = r.start; is_start = r.is_start; path = r.path } in
      let other : lead a ≢ 16 = follow.no_constant r.state a (with_constant (visible_in program (owner_of program u))) at (are_states r.state at) h in
      omega (arith, other)

  seen_at : (names : List Name) (procedure : ℕ) → IsSeenWhereVisible program u names procedure → (a : List ℕ) (k : ℕ) → NarrowHoldsAt program u a → k < 16
      → get_or a k 0 ≢ 0 → IsSeenAt names procedure k
  seen_at names procedure seen a k h below other = elim (in_or_out (visible_in program (owner_of program u)) k) [
    | inl there ↦ seen k below there
    | inr out ↦ absurd (other (zero_below (visible_in program (owner_of program u)) a h.hidden k below out))
  ]

  pub narrow_rows : (names : List Name) (procedure : ℕ) → IsSeenWhereVisible program u names procedure → (state : PointState) → TellsNarrowState program u state
      → AreNarrowRowsAtState names procedure state
  narrow_rows names procedure seen Unreached t = tt
  narrow_rows names procedure seen (Rows rows) t = record {
    basis = t.basis;
    reduced = t.reduced;
    named = λ k d below. named t.reached (get_or rows k d) (t.generates.inside (get_or rows k d) (Contains-get_or rows k d below)) (leads_within 17 rows k d t.basis below);
    seen = λ k d below j under other. seen_at names procedure seen (get_or rows k d) j (t.generates.inside (get_or rows k d) (Contains-get_or rows k d below)) under other;
  }
