-- Where a return goes home, the watch of returns finds nothing.
use Rattle.std.proofs.Common.{◌≡◌, ℕ, ◌<◌, ◌==◌, Bool, true, false, not, ◌||◌, List, slice_index, Option, None, Some, option_map, refl, ap, sym, ◌∙◌, subst}
use Rattle.std.specs.List.{list_all}
use Rattle.std.proofs.lemmas.Bool.{and_from, eq-eqb}
use Rattle.flow_points.specs.declared.code_points.CodePoint.{CodePoint}
use Rattle.flow_points.specs.declared.code_points.Flow.TheVariants.{Return}
use Rattle.rv_step.specs.Harts.{Hart}
use Rattle.rv_step.specs.declared.records.StepRec.{StepRec}
use Rattle.run_paths.specs.Lifts.{Lift}
use Rattle.run_paths.specs.Activations.{Activation, Site}
use Rattle.run_paths.specs.Discipline.{ReturnsToCaller, RestoresFrame}
use Rattle.run_watch.specs.Activations.{saved_registers}
use Rattle.run_watch.specs.Judges.{has_bit, is_as_at_entry, is_home, is_restored, is_return_to, return_detail, saved_places}
use Rattle.run_watch.specs.Moments.{Moment}
use Rattle.run_verdicts.proofs.Passing.{all_pass}
use Rattle.run_verdicts.proofs.SavedPlaces.{place_low}
use Rattle.run_verdicts.proofs.ReturnsTold.{TellsReturn, entry_word, goes_to, is_relied, none_if}

module _ (lift : Lift) (m n : Hart) (c : CodePoint) (last : Activation) (moment : Moment) (told : StepRec)
    (t : TellsReturn lift m n c last moment told) where
  module _ (home : ReturnsToCaller n c last) (restores : RestoresFrame lift m c last) where
    returns_to : c.flow ≡ Return → (call : Option Site) → last.call ≡ call
        → is_return_to (option_map (λ (s : Site). s.next) call) told.next ≡ true
    returns_to flow None first = absurd (home.not_first flow first)
    returns_to flow (Some site) called = eq-eqb site.next told.next (sym (home.home flow site called) ∙ sym t.next)

    restored_at : c.flow ≡ Return → (i : ℕ) → i < 12 → (b : Bool) → has_bit moment.relied i ≡ b
        → (not b || slice_index told.regs (slice_index saved_registers i) == slice_index moment.entry_saved i) ≡ true
    restored_at flow i low false free = refl
    restored_at flow i low true relied =
        let r = slice_index saved_registers i in
        eq-eqb (slice_index told.regs r) (slice_index moment.entry_saved i)
        (ap (λ (regs : List ℕ). slice_index regs r) t.regs
        ∙ restores.relied flow r ((is_relied lift m n c last moment told t i low).0 relied)
        ∙ sym (entry_word lift m n c last moment told t i low))

    home_at : c.flow ≡ Return → is_home moment told ≡ true
    home_at flow =
        and_from (is_return_to moment.return_to told.next) (is_restored moment told.regs)
        (subst (λ (to : Option ℕ). is_return_to to told.next ≡ true) (sym (goes_to lift m n c last moment told t))
        (returns_to flow last.call refl))
        (and_from (slice_index told.regs 2 == moment.entry_sp) (list_all (is_as_at_entry moment told.regs) saved_places)
        (eq-eqb (slice_index told.regs 2) moment.entry_sp
        (ap (λ (regs : List ℕ). slice_index regs 2) t.regs ∙ restores.stack flow ∙ sym (t.entry_sp ∙ t.seen.entry_sp)))
        (all_pass (is_as_at_entry moment told.regs) saved_places
        (λ i there. restored_at flow i (place_low i there) (has_bit moment.relied i) refl)))

    pub no_return_found : return_detail moment told ≡ None
    no_return_found = none_if told.next told.made moment.is_return (is_home moment told) (λ is. home_at (t.returns.0 is))
