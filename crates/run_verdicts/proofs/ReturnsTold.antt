-- What a moment and a record tell of a return.
use Rattle.std.proofs.Common.{◌≡◌, ◌↔◌, ℕ, ◌<◌, Bool, true, false, not, ◌&&◌, IsTrue, List, slice_index, Option, None, Some, option_map, refl, ap, sym, ◌∙◌, subst, if◌then◌else◌}
use Rattle.flow_points.specs.declared.code_points.CodePoint.{CodePoint}
use Rattle.flow_points.specs.declared.code_points.Flow.TheVariants.{Return}
use Rattle.rv_step.specs.Harts.{Hart}
use Rattle.rv_step.specs.declared.records.StepRec.{StepRec}
use Rattle.run_paths.specs.Lifts.{Lift}
use Rattle.run_paths.specs.Activations.{Activation, Site}
use Rattle.run_paths.specs.Discipline.{IsRelied}
use Rattle.run_watch.specs.Activations.{saved_registers}
use Rattle.run_watch.specs.Judges.{has_bit}
use Rattle.run_watch.specs.Moments.{Moment}
use Rattle.run_watch.specs.declared.activation.Activation.{Activation as Watched}
use Rattle.run_verdicts.specs.Seen.{IsSeen}
use Rattle.run_verdicts.proofs.SavedPlaces.{saved_word}

-- where a return isn't home, its address is found
abbrev pub found_if : ℕ → Bool → Bool → Bool → Option ℕ
found_if next made returns home = if made && returns && not home then Some next else None

pub home_if : (next : ℕ) (made returns home : Bool) → made ≡ true → returns ≡ true → found_if next made returns home ≡ None
    → home ≡ true
home_if next true true true made returns none = refl
home_if next true true false made returns none = cc
home_if next true false home made returns none = cc
home_if next false returns home made is none = cc

pub none_if : (next : ℕ) (made returns home : Bool) → (returns ≡ true → home ≡ true) → found_if next made returns home ≡ None
none_if next true true home goes = ap (λ (h : Bool). found_if next true true h) (goes refl)
none_if next true false home goes = refl
none_if next false returns home goes = refl

-- what the moment and the record tell of a return
pub record TellsReturn (lift : Lift) (m n : Hart) (c : CodePoint) (last : Activation) (moment : Moment)
    (told : StepRec) : Type 0 where
  pub top : Watched
  pub seen : IsSeen lift last top
  pub made : told.made ≡ true
  pub regs : told.regs ≡ m.registers
  pub next : told.next ≡ n.pc
  pub entry_sp : moment.entry_sp ≡ top.entry_sp
  pub entry_saved : moment.entry_saved ≡ top.saved
  pub relied : moment.relied ≡ top.relied
  pub return_to : moment.return_to ≡ top.return_to
  pub returns : IsTrue moment.is_return ↔ (c.flow ≡ Return)

module _ (lift : Lift) (m n : Hart) (c : CodePoint) (last : Activation) (moment : Moment) (told : StepRec)
    (t : TellsReturn lift m n c last moment told) where
  pub goes_to : moment.return_to ≡ option_map (λ (s : Site). s.next) last.call
  goes_to = t.return_to ∙ t.seen.return_to

  pub is_relied : (i : ℕ) → i < 12 → IsTrue (has_bit moment.relied i) ↔ IsRelied lift last (slice_index saved_registers i)
  is_relied i low = subst (λ (set : ℕ). IsTrue (has_bit set i) ↔ IsRelied lift last (slice_index saved_registers i))
      (sym t.relied) (t.seen.relied i low)

  pub entry_word : (i : ℕ) → i < 12
      → slice_index moment.entry_saved i ≡ slice_index last.registers (slice_index saved_registers i)
  entry_word i low = ap (λ (words : List ℕ). slice_index words i) (t.entry_saved ∙ t.seen.saved)
      ∙ saved_word last.registers i low
