-- At a record of no step the watches of stores, returns and code find nothing.
use Rattle.std.proofs.Common.{◌≡◌, ℕ, Bool, false, ◌&&◌, not, [], find, None, Some, inl, inr, ap, sym, subst, if◌then◌else◌}
use Rattle.rv_step.specs.declared.records.StepRec.{StepRec}
use Rattle.run_watch.specs.Judges.{code_detail, detail_of, is_code, is_home, is_kept, return_detail, store_detail, stored_bytes}
use Rattle.run_watch.specs.Moments.{Moment}
use Rattle.run_verdicts.specs.Whole.{IsOtherKind}

module _ (m : Moment) (told : StepRec) (unmade : told.made ≡ false) where
  no_store : store_detail m told ≡ None
  no_store = ap (λ (made : Bool). find (is_kept m) (if made then stored_bytes told.store else [])) unmade

  no_code : code_detail m told ≡ None
  no_code = ap (λ (made : Bool). find (is_code m) (if made then stored_bytes told.store else [])) unmade

  no_return : return_detail m told ≡ None
  no_return = never told.next told.made m.is_return (is_home m told) unmade
    where
      never : (next : ℕ) (made returns home : Bool) → made ≡ false
          → (if made && returns && not home then Some next else None) ≡ None
      never next made returns home none = ap (λ (b : Bool). if b && returns && not home then Some next else None) none

  pub others_quiet : (kind : ℕ) → IsOtherKind kind → detail_of kind m told ≡ None
  others_quiet kind (inl two) = subst (λ (k : ℕ). detail_of k m told ≡ None) (sym two) no_store
  others_quiet kind (inr (inl three)) = subst (λ (k : ℕ). detail_of k m told ≡ None) (sym three) no_return
  others_quiet kind (inr (inr four)) = subst (λ (k : ℕ). detail_of k m told ≡ None) (sym four) no_code
