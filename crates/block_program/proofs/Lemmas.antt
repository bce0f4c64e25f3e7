-- What crates above cite of the blocks, each with variables for all that it speaks of.
pub use Rattle.block_program.proofs.Reading.{IsStepInto, is_table, merged_at, number_at, head_at_number, head_node, none_at, step_read}
pub use Rattle.block_program.proofs.Numbering.{not_both}
