-- What the loop over queued nodes keeps, turn by turn.
use Rattle.std.proofs.Common.{◌≡◌, ℕ, ◌<◌, ◌+◌, ◌≤◌, is_err, true, List, [], ◌∷◌, ◌++◌, Contains, length, replicate, set, slice_index, Result, Ok, ◌∙◌, refl, sym, subst, arith}
use Rattle.word_rows.proofs.Laws.{get_or-zeros}
use Rattle.row_modules.specs.Modules.{AreRows, IsCombination, IsWithin}
use Rattle.row_engine.specs.States.{State, state, rows_at, marks_at, IsUnmarkedAt, AreQueued, IsState, total, row_count, with_queued}
use Rattle.row_engine.specs.Turns.{AreChanged, Clears, IsSound, Turns, IsWorking, Works, Closes}
use Rattle.std.proofs.lemmas.List.Elements.{Contains-append_right}
use Rattle.row_engine.proofs.Members.{first_in, on_err}
use Rattle.row_engine.proofs.Measure.{measure, measure_falls}
use Rattle.row_engine.proofs.Working.{sound_with, started, turned, cleared_is, changed_sound, closed_at_end}

pub record ClosingSoFar (n count : ℕ) (makes : ℕ → ℕ → List ℕ → List ℕ → Type 0) (joins : ℕ → ℕ → ℕ → List ℕ → List ℕ → List ℕ → Type 0) (states : ℕ → List ℕ → Type 0)
    (old new : State) (before after : ℕ) : Type 0 where
  pub works : Works n count makes joins states new
  pub nodes : length new.bases ≡ length old.bases
  pub grown : (u : ℕ) → IsWithin n (Contains (rows_at old u)) (Contains (rows_at new u))
  pub rises : before ≤ after
  pub bounded : after + total old.bases ≤ before + total new.bases
  pub counted : row_count new.bases + before ≤ row_count old.bases + after

module _ (n count : ℕ) (makes : ℕ → ℕ → List ℕ → List ℕ → Type 0) (joins : ℕ → ℕ → ℕ → List ℕ → List ℕ → List ℕ → Type 0) (states : ℕ → List ℕ → Type 0) (are : (u : ℕ) → AreRows n (states u)) where
  pub closing_none : (s : State) (before : ℕ) → IsState n count s → IsSound n states s → AreQueued s → ((u : ℕ) (v : List ℕ) → Contains (rows_at s u) v → IsUnmarkedAt s u v → ⊥)
      → ClosingSoFar n count makes joins states s s before before
  closing_none s before is sound queued fresh = record {
    works = started n count makes joins states are s is sound queued fresh;
    nodes = refl;
    grown = λ u w h. h;
    rises = omega arith;
    bounded = omega arith;
    counted = omega arith;
  }

  -- a turn: u was taken from the queue, and its marks cleared
  module _ (old s popped cleared : State) (u : ℕ) (rows pushed : List (List ℕ)) (before between : ℕ) (so_far : ClosingSoFar n count makes joins states old s before between)
      (is : s ≡ with_queued popped u) (clears : Clears n u popped cleared rows) (same : pushed ≡ rows) where
    abbrev zeros : List ℕ
    zeros = replicate n 0

    zeros_are : (k : ℕ) → slice_index zeros k ≡ 0
    zeros_are k = get_or-zeros n k

    works : Works n count makes joins states (with_queued popped u)
    works = subst (Works n count makes joins states) is so_far.works

    abbrev w : IsWorking n count makes joins states works.done (state popped.bases popped.marks (popped.queue ++ u ∷ []))
    w = works.working

    these : AreChanged (rows_at popped u) (marks_at popped u) pushed
    these = subst (AreChanged (rows_at popped u) (marks_at popped u)) (sym same) clears.changed

    pub turn_state : IsState n count cleared
    turn_state = subst (IsState n count) (sym clears.is) (cleared_is n count makes joins states are works.done popped.bases popped.marks popped.queue u pushed zeros w zeros_are)

    pub turn_sound : IsSound n states cleared
    turn_sound = subst (IsSound n states) (sym clears.is) w.sound

    pub turn_rows : (v : List ℕ) → Contains pushed v → IsCombination n (states u) v
    turn_rows = changed_sound n count makes joins states are works.done popped.bases popped.marks popped.queue u pushed zeros w zeros_are these

    module _ {X E : Type 0} (new : State) (after : ℕ) where
      abbrev Here : State → Result X E → Type 0
      Here s result = Turns n makes joins states s new u pushed result between after

      pub turn_grows : (result : Result X E) → Here cleared result → (failed : Result X E) → is_err failed ≡ true → Closes n count makes joins states old new failed before after
      turn_grows result turns failed fails =
          let t : Here (state popped.bases (set popped.marks u zeros) popped.queue) result = subst (λ s. Here s result) clears.is turns in
          record {
            nodes = t.grows.nodes ∙ popped_nodes;
            leading = t.grows.leading w.is.leading;
            grown = λ v x h. t.grows.grown v x (popped_grown v x h);
            sound = sound_with n states (state popped.bases (set popped.marks u zeros) popped.queue) new between after are w.is.leading w.sound t.grows;
            closed = on_err _ failed fails;
            rises = let a = so_far.rises in let b = t.grows.rises in omega arith;
            bounded = let a = popped_bounded in let b = t.grows.bounded in omega arith;
            counted = on_err _ failed fails;
          }
        where
          popped_nodes : length popped.bases ≡ length old.bases
          popped_nodes = subst (λ (x : State). length x.bases ≡ length old.bases) is so_far.nodes

          popped_grown : (v : ℕ) → IsWithin n (Contains (rows_at old v)) (Contains (rows_at popped v))
          popped_grown = subst (λ (x : State). (v : ℕ) → IsWithin n (Contains (rows_at old v)) (Contains (rows_at x v))) is so_far.grown

          popped_bounded : between + total old.bases ≤ before + total popped.bases
          popped_bounded = subst (λ (x : State). between + total old.bases ≤ before + total x.bases) is so_far.bounded

      module _ (x : X) (turns : Here cleared (Ok x)) where
        t : Here (state popped.bases (set popped.marks u zeros) popped.queue) (Ok x)
        t = subst (λ s. Here s (Ok x)) clears.is turns

        pub turn_closes : ClosingSoFar n count makes joins states old new before after
        turn_closes = record {
          works = turned n count makes joins states are works.done popped.bases popped.marks popped.queue u pushed zeros w zeros_are these new between after t.grows t.queues t.pushes;
          nodes = t.grows.nodes ∙ subst (λ (y : State). length y.bases ≡ length old.bases) is so_far.nodes;
          grown = λ v y h. t.grows.grown v y (subst (λ (z : State). (v : ℕ) → IsWithin n (Contains (rows_at old v)) (Contains (rows_at z v))) is so_far.grown v y h);
          rises = let a = so_far.rises in let b = t.grows.rises in omega arith;
          bounded = let a = subst (λ (y : State). between + total old.bases ≤ before + total y.bases) is so_far.bounded in let b = t.grows.bounded in omega arith;
          counted = let a = subst (λ (y : State). row_count y.bases + before ≤ row_count old.bases + between) is so_far.counted in let b = t.queues.counted in omega arith;
        }

        pub turn_falls : measure n new < measure n s
        turn_falls =
            subst (λ y. measure n new < measure n y) (sym is)
            (measure_falls n (λ v y. IsCombination n (states v) y) popped.bases popped.marks (set popped.marks u zeros) popped.queue u new between after w.is.leading t.grows t.queues)

  pub closes_at_end : {X E : Type 0} (x : X) (old new : State) (before after : ℕ) → new.queue ≡ [] → ClosingSoFar n count makes joins states old new before after
      → Closes {X = X} {E = E} n count makes joins states old new (Ok x) before after
  closes_at_end x old new before after empty so_far = record {
    nodes = so_far.nodes;
    leading = so_far.works.working.is.leading;
    grown = so_far.grown;
    sound = so_far.works.working.sound;
    closed = closed_at_end n count makes joins states are new empty so_far.works;
    rises = so_far.rises;
    bounded = so_far.bounded;
    counted = so_far.counted;
  }

  -- where memory is wanting before a turn
  pub fails_early : {X E : Type 0} (old s popped same : State) (u : ℕ) (before after : ℕ) → ClosingSoFar n count makes joins states old s before after → s ≡ with_queued popped u → same ≡ popped
      → (failed : Result X E) → is_err failed ≡ true → Closes n count makes joins states old same failed before after
  fails_early old s popped same u before after so_far is stays failed fails =
      let c = subst (λ (x : State). ClosingSoFar n count makes joins states old x before after) is so_far in
      subst (λ (x : State). Closes n count makes joins states old x failed before after) (sym stays) (record {
        nodes = c.nodes;
        leading = c.works.working.is.leading;
        grown = c.grown;
        sound = c.works.working.sound;
        closed = on_err _ failed fails;
        rises = c.rises;
        bounded = c.bounded;
        counted = on_err _ failed fails;
      })

  pub popped_below : (old s popped : State) (u : ℕ) (before between : ℕ) → ClosingSoFar n count makes joins states old s before between → s ≡ with_queued popped u → (u < count) × (u < length popped.bases)
  popped_below old s popped u before between so_far is =
      let w = (subst (λ (x : State). ClosingSoFar n count makes joins states old x before between) is so_far).works.working.is in
      let b : u < count = w.numbers u (Contains-append_right popped.queue (u ∷ []) u (first_in u [])) in
      let c = w.nodes in (b, omega arith)
