-- Where the watch of returns finds nothing, a return goes home.
use Rattle.std.proofs.Common.{◌≡◌, ℕ, ◌<◌, ◌==◌, true, false, not, List, slice_index, Option, None, Some, option_map, inl, inr, ap, sym, ◌∙◌, subst}
use Rattle.std.specs.List.{list_all}
use Rattle.std.proofs.lemmas.Bool.{and_parts, eqb-true, or_cases}
use Rattle.flow_points.specs.declared.code_points.CodePoint.{CodePoint}
use Rattle.flow_points.specs.declared.code_points.Flow.TheVariants.{Return}
use Rattle.rv_step.specs.Harts.{Hart, x}
use Rattle.rv_step.specs.declared.records.StepRec.{StepRec}
use Rattle.run_paths.specs.Lifts.{Lift}
use Rattle.run_paths.specs.Activations.{Activation, Site}
use Rattle.run_paths.specs.Discipline.{IsRelied, ReturnsToCaller, RestoresFrame}
use Rattle.run_watch.specs.Activations.{saved_registers}
use Rattle.run_watch.specs.Judges.{has_bit, is_as_at_entry, is_home, is_restored, is_return_to, return_detail, saved_places}
use Rattle.run_watch.specs.Moments.{Moment}
use Rattle.run_verdicts.proofs.Passing.{each_passes}
use Rattle.run_verdicts.proofs.SavedPlaces.{place_there, saved_place}
use Rattle.run_verdicts.proofs.ReturnsTold.{TellsReturn, entry_word, goes_to, home_if, is_relied}

module _ (lift : Lift) (m n : Hart) (c : CodePoint) (last : Activation) (moment : Moment) (told : StepRec)
    (t : TellsReturn lift m n c last moment told) where
  module _ (none : return_detail moment told ≡ None) where
    is_home_at : c.flow ≡ Return → is_home moment told ≡ true
    is_home_at flow = home_if told.next told.made moment.is_return (is_home moment told) t.made (t.returns.1 flow) none

    parts : c.flow ≡ Return → (is_return_to moment.return_to told.next ≡ true) × (is_restored moment told.regs ≡ true)
    parts flow = and_parts (is_return_to moment.return_to told.next) (is_restored moment told.regs) (is_home_at flow)

    frame : c.flow ≡ Return
        → (slice_index told.regs 2 ≡ moment.entry_sp) × (list_all (is_as_at_entry moment told.regs) saved_places ≡ true)
    frame flow =
        let both = and_parts (slice_index told.regs 2 == moment.entry_sp)
        (list_all (is_as_at_entry moment told.regs) saved_places) (parts flow).1 in
        (eqb-true (slice_index told.regs 2) moment.entry_sp both.0, both.1)

    goes_home : (call : Option Site) → last.call ≡ call → c.flow ≡ Return
        → is_return_to (option_map (λ (s : Site). s.next) call) told.next ≡ true
    goes_home call is flow =
        subst (λ (to : Option ℕ). is_return_to to told.next ≡ true) (goes_to lift m n c last moment told t
        ∙ ap (option_map (λ (s : Site). s.next)) is) (parts flow).0

    pub returns_to_caller : ReturnsToCaller n c last
    returns_to_caller = record {
      not_first = λ flow first. let home = goes_home None first flow in cc;
      home = λ flow site called. sym (eqb-true site.next told.next (goes_home (Some site) called flow) ∙ t.next);
    }

    as_at_entry : (i : ℕ) → i < 12 → c.flow ≡ Return → IsRelied lift last (slice_index saved_registers i)
        → x m (slice_index saved_registers i) ≡ slice_index last.registers (slice_index saved_registers i)
    as_at_entry i low flow relies =
        let r = slice_index saved_registers i in
        let same = elim (or_cases (not (has_bit moment.relied i)) (slice_index told.regs r == slice_index moment.entry_saved i)
        (each_passes (is_as_at_entry moment told.regs) saved_places (frame flow).1 i (place_there i low)))
        as (λ _. slice_index told.regs r ≡ slice_index moment.entry_saved i) [
          | inl free ↦
              let clash : true ≡ false = sym free ∙ ap not ((is_relied lift m n c last moment told t i low).1 relies) in cc
          | inr equal ↦ eqb-true (slice_index told.regs r) (slice_index moment.entry_saved i) equal
        ] in
        ap (λ (regs : List ℕ). slice_index regs r) (sym t.regs) ∙ same ∙ entry_word lift m n c last moment told t i low

    pub restores_frame : RestoresFrame lift m c last
    restores_frame = record {
      stack = λ flow. ap (λ (regs : List ℕ). slice_index regs 2) (sym t.regs) ∙ (frame flow).0 ∙ t.entry_sp ∙ t.seen.entry_sp;
      relied = λ flow r relies.
          let at = saved_place r relies.saved in
          subst (λ (q : ℕ). x m q ≡ slice_index last.registers q) at.is
          (as_at_entry at.place at.low flow (subst (IsRelied lift last) (sym at.is) relies));
    }
