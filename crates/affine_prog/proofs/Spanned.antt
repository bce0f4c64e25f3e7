-- A relation annihilates the states, and the starts span the unit rows of the registers and of the constant.
use Rattle.std.proofs.Common.{◌≡◌, ℕ, ◌+◌, ◌-◌, ◌*◌, ◌^◌, ◌↔◌, inl, inr, List, slice_index, get_or, ap, sym, subst, ◌∙◌, arith}
use Rattle.std.proofs.lemmas.Bool.{cases_eq}
use Rattle.word_rows.specs.Words.{word}
use Rattle.word_rows.specs.Rows.{words_of, plus, unit}
use Rattle.word_rows.proofs.Laws.{get_or-wrapped_plus, IsRow-unit, unit_at, unit_elsewhere}
use Rattle.row_modules.specs.Modules.{AreRows, IsCombination, SameModule}
use Rattle.row_modules.specs.Forms.{Annihilates}
use Rattle.row_modules.specs.Positions.{with_constant, IsRowOn, IsUnitOn}
use Rattle.row_modules.proofs.Laws.{combinations, generator, within_from_generators, constant_is_in, units_are_rows, unit_on, rows_on_are_module, from_units, less_first}
use Rattle.affine_prog.specs.declared.Program.{Program}
use Rattle.affine_prog.specs.Programs.{owner_of, visible_in}
use Rattle.affine_prog.specs.OpenPaths.{Start}
use Rattle.affine_prog.specs.Relations.{Holds}
use Rattle.affine_prog.specs.Spans.{IsStateAt}

pub holds_is_annihilation : (program : Program) (u : ℕ) (a : List ℕ) → Holds program u a ↔ Annihilates (with_constant (visible_in program (owner_of program u))) (IsStateAt program u) a
holds_is_annihilation program u a = (
  λ h. record { on_visible = record { row = h.row; hidden = h.visible }; vanishes = λ v at. h.zero at.start v at.is_start at.path },
  λ n. record { row = n.on_visible.row; visible = n.on_visible.hidden; zero = λ start v is path. n.vanishes v (record { start = start; is_start = is; path = path }) },
)

module _ (program : Program) where
  abbrev named : ℕ
  named = with_constant program.registers

  starts_are_rows : AreRows 17 (Start program)
  starts_are_rows v s = s.state.row

  -- the start with 0 at each position below 16
  bare : Start program (unit 17 16)
  bare =
      let p = unit_on 17 named 16 (constant_is_in program.registers) in
      record { state = record { row = p.row; constant = unit_at 17 16 (omega arith) }; registers = p.hidden }

  -- with one more at a position
  raised : (u : List ℕ) → IsRowOn 17 named u → slice_index u 16 ≡ 0 → Start program (words_of (plus 1 (unit 17 16) u))
  raised u p zero =
      let sum = (rows_on_are_module 17 named).sum 1 (unit 17 16) u (unit_on 17 named 16 (constant_is_in program.registers)) p in
      record {
        state = record {
          row = sum.row;
          constant = get_or-wrapped_plus 1 (unit 17 16) u 16 ((IsRow-unit 17 16).width ∙ sym p.row.width) ∙ ap (λ x. word (1 + 1 * x)) zero;
        };
        registers = sum.hidden;
      }

  unit_in : (u : List ℕ) → IsUnitOn 17 named u → IsCombination 17 (Start program) u
  unit_in u h = elim (cases_eq h.position 16) [
    | inl last ↦ subst (IsCombination 17 (Start program)) (ap (unit 17) (sym last) ∙ sym h.is) (generator 17 (Start program) starts_are_rows (unit 17 16) bare)
    | inr other ↦
        let p = subst (IsRowOn 17 named) (sym h.is) (unit_on 17 named h.position h.there) in
        let zero = ap (λ x. get_or x 16 0) h.is ∙ unit_elsewhere 17 h.position 16 (λ e. other (sym e)) in
        subst (IsCombination 17 (Start program)) (less_first 17 (unit 17 16) u (IsRow-unit 17 16) p.row)
        ((combinations 17 (Start program) starts_are_rows).sum (2 ^ 64 - 1) (words_of (plus 1 (unit 17 16) u)) (unit 17 16)
        (generator 17 (Start program) starts_are_rows _ (raised u p zero)) (generator 17 (Start program) starts_are_rows _ bare))
  ]

  pub starts_span : SameModule 17 (Start program) (IsUnitOn 17 named)
  starts_span = record {
    there = within_from_generators 17 (Start program) (IsUnitOn 17 named) (units_are_rows 17 named) (λ v s. from_units 17 named v (record { row = s.state.row; hidden = s.registers }));
    back = within_from_generators 17 (IsUnitOn 17 named) (Start program) starts_are_rows unit_in;
  }
