-- The laws of modules that crates above cite, each with variables for all that it speaks of.
pub use Rattle.row_modules.proofs.Closure.{zeros-plus, plus_zeros, plus_sum, combination_is_row, combination_sum, combinations, generator, module_multiple, module_least}
pub use Rattle.row_modules.proofs.Lists.{contains_first, contains_later, first_or_later, nothing_contained, rows_with, spans_more, within_from_generators, SplitsAt, split_first, with_multiple, combination_adds_nothing}
pub use Rattle.row_modules.proofs.Images.{image_is_module, mapped_into, image_in, image_out, image_within, products_span, products_within}
pub use Rattle.row_modules.proofs.Zeros.{dot_at_sum, dot_at_multiple, solutions_are_module, vanishes_on_module}
pub use Rattle.row_modules.proofs.Unknowns.{less_first, choice_row, choices_span}
pub use Rattle.row_modules.proofs.Unions.{either_rows, same_with, same_members, either_same, same_first}
pub use Rattle.row_modules.proofs.Sets.{in_or_out, in_not_out, has_beyond, has_left, has_right, out_left, out_right, constant_is_in, out_of_set, not_constant, with_constant_other, zero_outside_below, zero_below}
pub use Rattle.row_modules.proofs.UnitRows.{units_are_rows, unit_on, rows_on_are_module, from_units, row_on_all, rows_on_span}
pub use Rattle.row_modules.proofs.Used.{is_used_none, is_used_one, used_after, few_used}
