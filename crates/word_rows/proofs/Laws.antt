-- The laws of rows that crates above cite. A sum is exact where no wrap is written, and `words_of` and `word` wrap: once is
-- enough.
pub use Rattle.word_rows.proofs.Wraps.{word-plus_first, word-plus_second, word-plus_factor, length-words_of, length-times, length-plus, length-wrapped_plus, length-wrapped_times, get_or-words_of, get_or-times, get_or-plus, get_or-wrapped_plus, get_or-wrapped_times, get_or-zeros, words_of-words_of, words_of-zeros, words_of-plus_first, words_of-plus_second, words_of-plus_factor, words_of-times, words_of-times_factor}
pub use Rattle.word_rows.proofs.Exact.{plus-zero, plus-zeros, plus-zeros_first, plus-plus_comm, plus-plus_same, plus-plus_second, plus-times, times-plus, times-times, times-one}
pub use Rattle.word_rows.proofs.Dots.{dot_sum_comm, dot_sum-plus, dot_sum-times, dot_sum_zeros, dot_sum-unit, dot_comm, dot-words_of, dot-plus, dot-times}
pub use Rattle.word_rows.proofs.Leads.{lead-le, get_or_before_lead, get_or_at_lead, lead_from_index, lead-after, lead-zeros, sum_zeros, lead-plus}
pub use Rattle.word_rows.proofs.Units.{IsRow-zeros, IsRow-plus, IsRow-times, IsWord-get_or, IsRow-set, plus-set, IsRow-unit, unit_at, unit_elsewhere, cleared_and_unit}
pub use Rattle.word_rows.proofs.Inverses.{has_inverse, HasOddPart, has_odd_part}
