-- A run that goes on by a step.
use Rattle.std.proofs.Common.{◌≡◌, ℕ, zero, suc, ◌≤◌, nat_le, Bool, List, [], ◌∷◌, ap, sym, ◌∙◌, arith, subst, if◌then◌else◌}
use Rattle.std.proofs.lemmas.Bool.{le-leb, lt-leb}
use Rattle.rv_step.specs.Harts.{Hart}
use Rattle.run_paths.specs.Lifts.{Lift}
use Rattle.run_paths.specs.Activations.{Activation, activations_at, begun as opened, point_of, turned}
use Rattle.run_watch.specs.Runs.{Scene, Sight}
use Rattle.run_verdicts.specs.Runs.{IsSeenStep}
use Rattle.run_verdicts.specs.Seen.{IsStackSeen}

-- a run that is at another machine behind so many moments
pub run_on : (ℕ → Hart) → ℕ → Hart → ℕ → Hart
run_on run n h j = if nat_le j n then run j else h

module _ (run : ℕ → Hart) (n : ℕ) (h : Hart) where
  pub run_before : (j : ℕ) → j ≤ n → run_on run n h j ≡ run j
  unfolding run_on
  run_before j low = ap (λ (b : Bool). if b then run j else h) (le-leb j n low)

  pub run_behind : run_on run n h (suc n) ≡ h
  unfolding run_on
  run_behind = ap (λ (b : Bool). if b then run (suc n) else h) (lt-leb (suc n) n (omega arith))

-- the activations of a run depend on what was before alone
pub same_activations : (lift : Lift) (run other : ℕ → Hart) (i : ℕ) → ((j : ℕ) → j ≤ i → other j ≡ run j)
    → activations_at lift other i ≡ activations_at lift run i
same_activations lift run other zero same = ap (λ (m : Hart). opened lift m ∷ []) (same 0 (omega arith))
same_activations lift run other (suc i) same =
    let before = activations_at lift other i in
    ap (λ (m : Hart). turned (point_of lift m before) m before) (same i (omega arith))
    ∙ ap (λ (acts : List Activation). turned (point_of lift (run i) acts) (run i) acts)
    (same_activations lift run other i (λ j low. same j (omega (arith, low))))

pub same_step : (lift : Lift) (scene : Scene) (limit : ℕ) (acts others : List Activation) (m k n l : Hart) (s : Sight)
    → others ≡ acts → k ≡ m → l ≡ n
    → IsSeenStep lift scene limit acts m n s → IsSeenStep lift scene limit others k l s
same_step lift scene limit acts others m k n l s same_acts same_m same_n h = record {
  spot = h.spot;
  hart = h.hart ∙ sym same_m;
  stack = subst (λ (open_ones : List Activation). IsStackSeen lift open_ones h.spot.stack) (sym same_acts) h.stack;
  i = h.i;
  c = h.c;
  machine = h.machine;
  next = h.next ∙ sym same_n;
  makes = h.makes;
}
