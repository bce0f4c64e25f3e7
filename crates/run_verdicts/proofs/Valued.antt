-- The words that watches see are the state of the run.
use Rattle.std.proofs.Common.{◌≡◌, ℕ, ◌-◌, ◌^◌, ◌<◌, ◌≤◌, ◌==◌, Bool, List, length, slice_get, slice_index, Option, inl, inr, refl, ap, sym, ◌∙◌, arith, if◌then◌else◌}
use Rattle.std.specs.Option.{option_map_or}
use Rattle.std.proofs.lemmas.Bool.{cases_eq, eq-eqb, ne_eqb}
use Rattle.std.proofs.lemmas.Option.{slice_get_cases}
use Rattle.elf_image.specs.Fetches.{read}
use Rattle.word_rows.specs.Words.{word}
use Rattle.word_rows.specs.Rows.{IsRow}
use Rattle.map_modules.proofs.Entries.{vector_from_index}
use Rattle.map_modules.proofs.Products.{row_word}
use Rattle.report_text.specs.declared.names.Name.{Name}
use Rattle.report_text.specs.declared.names.Name.TheVariants.{Register, Slot}
use Rattle.rv_step.specs.Harts.{Hart}
use Rattle.run_paths.specs.Lifts.{Lift}
use Rattle.run_paths.specs.Activations.{Activation, behind, state_of, word_of}
use Rattle.run_watch.specs.Activations.{AreValues, word_of as seen_word}
use Rattle.run_watch.specs.declared.activation.Activation.{Activation as Watched}
use Rattle.run_verdicts.specs.Seen.{IsSeen}

module _ (lift : Lift) (a : Activation) (w : Watched) (seen : IsSeen lift a w) (m : Hart) where
  same_word : (name : Name) → seen_word w m name ≡ word_of a m.registers m.memory name
  same_word (Register r) = refl
  same_word (Slot p below) =
      ap (λ (q : ℕ). if p == q then read 8 m.memory (behind w.entry_sp (2 ^ 64 - below)) else 0) seen.procedure
      ∙ ap (λ (sp : ℕ). if p == a.procedure then read 8 m.memory (behind sp (2 ^ 64 - below)) else 0) seen.entry_sp

  module _ (values : List ℕ) (are : AreValues lift.names w m values) (few : length lift.names ≤ 16) where
    named_word : (k : ℕ) → k < 16
        → slice_index values k ≡ option_map_or (word_of a m.registers m.memory) (slice_get lift.names k) 0
    named_word k low =
        elim ((slice_get_cases lift.names k).1) [
          | inl (name, inside, at, same) ↦
              are.all.named k name inside ∙ ap (seen_word w m) same ∙ same_word name
              ∙ ap (λ (o : Option Name). option_map_or (word_of a m.registers m.memory) o 0) (sym at)
          | inr (past, none) ↦
              are.all.others k past low ∙ ap (λ (o : Option Name). option_map_or (word_of a m.registers m.memory) o 0) (sym none)
        ]

    state_word : ℕ → ℕ
    state_word k = if k == 16 then 1 else option_map_or (word_of a m.registers m.memory) (slice_get lift.names k) 0

    each_word : (k : ℕ) → k < 17
        → slice_index values k ≡ (if k == 16 then 1 else option_map_or (word_of a m.registers m.memory) (slice_get lift.names k) 0)
    each_word k low =
        let named = option_map_or (word_of a m.registers m.memory) (slice_get lift.names k) 0 in
        elim (cases_eq k 16) [
          | inl last ↦
              ap (slice_index values) last ∙ are.all.constant
              ∙ sym (ap (λ (b : Bool). if b then 1 else named) (eq-eqb k 16 last))
          | inr other ↦
              named_word k (omega (arith, low, other)) ∙ sym (ap (λ (b : Bool). if b then 1 else named) (ne_eqb k 16 other))
        ]

    pub values_are : values ≡ state_of lift a m.registers m.memory
    values_are =
        let row : IsRow 17 values = record { width = are.all.width; words = are.words } in
        vector_from_index values (λ k. if k == 16 then 1 else option_map_or (word_of a m.registers m.memory)
        (slice_get lift.names k) 0) are.all.width
        (λ k low. sym (row_word 17 values row k) ∙ ap word (each_word k low))
