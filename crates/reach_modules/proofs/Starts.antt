-- What spans the starts: the rows with 1 at a register, or at the constant's position, alone.
use Rattle.std.proofs.Common.{ℕ, inl, inr, List, ◌∷◌, Contains, map, ap, sym, ◌∙◌, arith}
use Rattle.std.proofs.lemmas.Bool.{cases_eq}
use Rattle.row_modules.specs.Modules.{AreRows}
use Rattle.row_modules.specs.Positions.{with_constant, IsUnitOn}
use Rattle.row_modules.proofs.Laws.{first_or_later, contains_first, contains_later, spans_more, constant_is_in, with_constant_other, units_are_rows}
use Rattle.affine_prog.specs.declared.Program.{Program}
use Rattle.affine_prog.specs.OpenPaths.{Start}
use Rattle.affine_prog.proofs.Lemmas.{starts_span}
use Rattle.row_images.specs.States.{Spans}
use Rattle.reach_modules.specs.Made.{alone}
use Rattle.reach_modules.specs.Tables.{ArePositions}
use Rattle.row_engine.proofs.Members.{map_in, map_out}

pub starts_are_rows : (program : Program) → AreRows 17 (Start program)
starts_are_rows program v s = s.state.row

module _ (program : Program) (registers : List ℕ) (are : ArePositions program.registers registers) where
  abbrev named : ℕ
  named = with_constant program.registers

  abbrev rows : List (List ℕ)
  rows = alone 16 1 ∷ map (λ k. alone k 1) registers

  row_is_unit : (v : List ℕ) → Contains rows v → IsUnitOn 17 named v
  row_is_unit v h = elim (first_or_later (alone 16 1) (map (λ k. alone k 1) registers) v h) [
    | inl e ↦ record { position = 16; within = omega arith; there = constant_is_in program.registers; is = e }
    | inr l ↦
        let i = map_out (λ k. alone k 1) registers v l in let b = (are i.0).0 i.1 in let below = b.0 in
        record { position = i.0; within = omega arith; there = with_constant_other program.registers i.0 (λ e. omega arith) ∙ b.1; is = i.2 }
  ]

  unit_is_row : (v : List ℕ) → IsUnitOn 17 named v → Contains rows v
  unit_is_row v u = elim (cases_eq u.position 16) [
    | inl e ↦ rw (u.is ∙ ap (λ k. alone k 1) e) (contains_first (alone 16 1) (map (λ k. alone k 1) registers))
    | inr ne ↦
        let within = u.within in let member = sym (with_constant_other program.registers u.position ne) ∙ u.there in let e = u.is in
        rw e (contains_later (alone 16 1) (map (λ k. alone k 1) registers) (alone u.position 1) (map_in (λ k. alone k 1) registers u.position ((are u.position).1 (omega arith, member))))
  ]

  pub units_span : Spans rows (Start program)
  units_span = record {
    rows_are = λ v h. units_are_rows 17 named v (row_is_unit v h);
    same = record {
      there = λ v h. (starts_span program).back v (spans_more 17 (Contains rows) (IsUnitOn 17 named) row_is_unit v h);
      back = λ v h. spans_more 17 (IsUnitOn 17 named) (Contains rows) unit_is_row v ((starts_span program).there v h);
    };
  }
