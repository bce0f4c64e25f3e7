-- The loop's start: bases without rows take what starts.
use Rattle.std.proofs.Common.{◌≡◌, ℕ, ◌<◌, List, [], ◌∷◌, ◌++◌, All, Contains, length, map, Result, refl, ap, sym, subst, ◌∙◌, arith}
use Rattle.row_modules.specs.Modules.{IsCombination}
use Rattle.row_modules.specs.Bases.{IsLeadingBasis}
use Rattle.row_modules.proofs.Laws.{generator, combinations, module_least}
use Rattle.affine_prog.specs.declared.Program.{Program}
use Rattle.affine_prog.specs.Programs.{entry_of, slots_of, IsWellFormed}
use Rattle.affine_prog.specs.OpenPaths.{Start}
use Rattle.affine_prog.specs.Laws.{IsOpening}
use Rattle.affine_prog.specs.Spans.{IsStateAt}
use Rattle.row_images.specs.States.{Spans}
use Rattle.row_engine.specs.States.{State, rows_at, InModule, begin}
use Rattle.row_engine.specs.Growth.{Offered, Takes}
use Rattle.row_engine.specs.Turns.{Grown}
use Rattle.row_engine.proofs.Members.{all_rows}
use Rattle.row_engine.proofs.Pushing.{grown_by}
use Rattle.row_engine.proofs.Starting.{begin_is}
use Rattle.reach_modules.specs.Made.{MakesEach, alone, opened}
use Rattle.reach_modules.specs.Moves.{IsFirst}
use Rattle.reach_modules.specs.Tables.{ArePositions}
use Rattle.reach_modules.proofs.Spanning.{spans_products, products_are_rows}
use Rattle.reach_modules.proofs.Starts.{units_span, starts_are_rows}
use Rattle.reach_modules.proofs.Moving.{first_state}
use Rattle.reach_modules.proofs.Sounding.{states_are_rows}

-- what is offered first
pub firsts_span : (program : Program) → (registers given : List ℕ) (none starts listed rows : List (List ℕ)) → ArePositions program.registers registers → given ≡ registers → none ≡ []
    → starts ≡ none ++ opened given (alone 16 1) 1 → listed ≡ starts → MakesEach (IsOpening program.registers (slots_of program program.start)) listed rows → Spans rows (IsFirst program)
firsts_span program registers given none starts listed rows are same nothing starts_are listed_is each =
    let e : starts ≡ alone 16 1 ∷ map (λ k. alone k 1) registers = starts_are ∙ ap (λ l. l ++ opened given (alone 16 1) 1) nothing ∙ ap (λ ks. opened ks (alone 16 1) 1) same in
    spans_products (IsOpening program.registers (slots_of program program.start)) (Start program) (starts_are_rows program) (alone 16 1 ∷ map (λ k. alone k 1) registers) rows (units_span program registers are)
    (subst (λ l. MakesEach (IsOpening program.registers (slots_of program program.start)) l rows) (listed_is ∙ e) each)

module _ (program : Program) (formed : IsWellFormed program) (rows given : List (List ℕ)) (spans : Spans rows (IsFirst program)) (same : given ≡ rows) (entry : ℕ) (entry_is : entry ≡ entry_of program program.start) where
  firsts_sound : (w : ℕ) (x : List ℕ) → Offered 17 entry given w x → IsCombination 17 (IsStateAt program w) x
  firsts_sound w x h =
      let e = entry_of program program.start in let there = h.0 ∙ entry_is in let are = states_are_rows program formed e in
      rw there (module_least 17 (IsCombination 17 (IsStateAt program e)) (combinations 17 (IsStateAt program e) are) (IsFirst program)
      (λ y f. generator 17 (IsStateAt program e) are y (first_state program formed y f)) x
      (spans.same.there x (generator 17 (Contains rows) spans.rows_are x (subst (λ l. Contains l x) same h.2))))

  -- the first states are in the module of the entry
  firsts_in : (new : State) → All (IsLeadingBasis 17) new.bases → ((u : ℕ) (v : List ℕ) → Offered 17 entry given u v → InModule 17 new u v)
      → (v : List ℕ) → IsFirst program v → InModule 17 new (entry_of program program.start) v
  firsts_in new all taken v f =
      let e = entry_of program program.start in
      module_least 17 (InModule 17 new e) (combinations 17 (Contains (rows_at new e)) (all_rows 17 new.bases all e)) (Contains rows)
      (λ x h. subst (λ u. InModule 17 new u x) entry_is (taken entry x (refl, spans.rows_are x h, subst (λ l. Contains l x) (sym same) h))) v
      (spans.same.back v (generator 17 (IsFirst program) (products_are_rows (IsOpening program.registers (slots_of program program.start)) (Start program)) v f))

  pub begun : {X E : Type 0} (old : State) → old ≡ begin 17 program.nodes → (new : State) (before after : ℕ) {result : Result X E} → Takes 17 (Offered 17 entry given) old new result before after
      → Grown 17 (IsStateAt program) old new result before after ((v : List ℕ) → IsFirst program v → InModule 17 new (entry_of program program.start) v)
  begun old is new before after takes =
      grown_by firsts_sound (firsts_in new (takes.grows.leading (subst (λ (s : State). All (IsLeadingBasis 17) s.bases) (sym is) (begin_is 17 program.nodes).leading))) takes

pub entry_inside : (program : Program) → IsWellFormed program → (start : State) → start ≡ begin 17 program.nodes → (entry : ℕ) → entry ≡ entry_of program program.start → entry < length start.bases
entry_inside program formed start is entry entry_is =
    let n = ap (λ (s : State). length s.bases) is ∙ (begin_is 17 program.nodes).nodes in let b = (formed.procs program.start formed.start).entry in omega arith
