-- The beginning of a run, as watches see it.
use Rattle.std.proofs.Common.{◌≡◌, ℕ, ◌/◌, ◌%◌, ◌^◌, nat_lt, ◌==◌, true, false, List, [], refl, ap, sym, ◌∙◌, arith, subst}
use Rattle.std.proofs.lemmas.Bool.{and_parts}
use Rattle.std.proofs.lemmas.Nat.Bits.{bit_at-zero}
use Rattle.elf_image.specs.declared.image.Image.{Image}
use Rattle.rv_step.specs.Machines.{hart_of}
use Rattle.run_paths.specs.Lifts.{Lift}
use Rattle.run_paths.specs.Activations.{begun as opened}
use Rattle.run_watch.specs.Judges.{has_bit}
use Rattle.run_watch.specs.Runs.{Begins, Scene, Spot}
use Rattle.run_verdicts.specs.Runs.{IsSeenRun}
use Rattle.run_verdicts.specs.Seen.{IsSceneOf, IsSeen}

module _ (image : Image) (lift : Lift) (scene : Scene) (limit : ℕ) (is : IsSceneOf image lift scene) where
  none_relied : (k : ℕ) → has_bit 0 k ≡ true → ⊥
  none_relied k set =
      let parts = and_parts (nat_lt k 16) (0 / 2 ^ k % 2 == 1) set in
      let none : (0 / 2 ^ k % 2 == 1) ≡ false = ap (λ (bit : ℕ). bit == 1) (bit_at-zero k) in
      let clash : true ≡ false = sym parts.1 ∙ none in cc

  begun_seen : (regs : List ℕ) (a : Spot) → Begins image regs a → IsSeen lift (opened lift (hart_of a.machine)) a.stack.last
  begun_seen regs a begins =
      let m = hart_of a.machine in
      subst (IsSeen lift (opened lift m)) (sym begins.last) (record {
        procedure = sym is.lifts.points_are.entry_is;
        entry_sp = refl;
        return_to = refl;
        saved = refl;
        relied = λ k low. (λ set. absurd (none_relied k set), λ relies. let clash = relies.is_call in cc);
      })

  pub first_seen : (regs : List ℕ) (a : Spot) → Begins image regs a
      → IsSeenRun image lift scene limit [] a (λ j. hart_of a.machine)
  first_seen regs a begins = record {
    steps = record {
      runs = record { starts = begins.starts; steps = λ i below. absurd (omega (arith, below)) };
      each = λ i s at. cc;
    };
    ends = refl;
    stack = record {
      last = opened lift (hart_of a.machine);
      earlier = [];
      are = refl;
      last_seen = begun_seen regs a begins;
      earlier_seen = begins.first;
    };
  }
