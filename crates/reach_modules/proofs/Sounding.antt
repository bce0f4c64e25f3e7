-- What is offered for rows that states span: states span it, and it is what the moves make of them.
use Rattle.std.proofs.Common.{◌≡◌, ℕ, List, [], ◌∷◌, Contains, All, Result, subst}
use Rattle.row_modules.specs.Modules.{AreRows, IsCombination}
use Rattle.row_modules.specs.Bases.{IsLeadingBasis}
use Rattle.row_modules.proofs.Laws.{combinations, module_least, generator}
use Rattle.map_modules.specs.Matrices.{apply}
use Rattle.affine_prog.specs.declared.Program.{Program}
use Rattle.affine_prog.specs.Programs.{IsWellFormed}
use Rattle.affine_prog.specs.Spans.{IsStateAt}
use Rattle.affine_prog.proofs.Lemmas.{open_state}
use Rattle.row_images.specs.States.{Makes}
use Rattle.row_engine.specs.States.{State, rows_at, InModule}
use Rattle.row_engine.specs.Growth.{Takes}
use Rattle.row_engine.proofs.Members.{all_rows, only_in}
use Rattle.row_engine.proofs.Pushing.{grown_by}
use Rattle.reach_modules.specs.declared.Offer.{Offer}
use Rattle.reach_modules.specs.Moves.{Moves}
use Rattle.reach_modules.specs.Offers.{IsListed, RowOffers}
use Rattle.reach_modules.specs.Turns.{Reaches}
use Rattle.reach_modules.proofs.InTurn.{offered_rows}
use Rattle.reach_modules.proofs.Spanning.{applied_into, made_are_rows}
use Rattle.reach_modules.proofs.Moving.{state_moved}

pub states_are_rows : (program : Program) → IsWellFormed program → (u : ℕ) → AreRows 17 (IsStateAt program u)
states_are_rows program formed u v s = (open_state program formed s.start s.is_start u v s.path).row

module _ (program : Program) (formed : IsWellFormed program) (u : ℕ) (v : List ℕ) (offers : List Offer) (are : RowOffers program u v offers) (own : IsCombination 17 (IsStateAt program u) v) where
  offers_sound : (w : ℕ) (x : List ℕ) → IsListed offers w x → IsCombination 17 (IsStateAt program w) x
  offers_sound w x h =
      let states = states_are_rows program formed w in
      module_least 17 (IsCombination 17 (IsStateAt program w)) (combinations 17 (IsStateAt program w) states) (Makes (Moves program u w) v)
      (λ y (m, move, e). rw e (applied_into m (IsStateAt program u) (IsCombination 17 (IsStateAt program w)) (states_are_rows program formed u) (combinations 17 (IsStateAt program w) states)
      (λ s state. generator 17 (IsStateAt program w) states (apply m s) (state_moved program formed u w s m state move)) v own))
      x ((are.spans w).there x (generator 17 (IsListed offers w) (offered_rows program.nodes offers are.are w) x h))

  pub row_reaches : {X E : Type 0} (old new : State) (result : Result X E) (before after : ℕ) (taken : List Offer) → taken ≡ offers → All (IsLeadingBasis 17) old.bases
      → Takes 17 (IsListed taken) old new result before after → Reaches program old new u (v ∷ []) result before after
  row_reaches old new result before after taken same all given =
      let takes = subst (λ l. Takes 17 (IsListed l) old new result before after) same given in
      grown_by offers_sound (λ in_modules. record {
        alone = λ w y x h move.
            module_least 17 (InModule 17 new w) (combinations 17 (Contains (rows_at new w)) (all_rows 17 new.bases (takes.grows.leading all) w)) (IsListed offers w) (λ z k. in_modules w z k) x
            ((are.spans w).back x (generator 17 (Makes (Moves program u w) v) (made_are_rows (Moves program u w) v) x (subst (λ z. Makes (Moves program u w) z x) (only_in v y h) move)));
        left = λ b w r s x h k none. absurd none;
        right = λ a w r s x k h none. absurd none;
      }) takes
