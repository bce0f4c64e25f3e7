-- The laws of leading-position bases that crates above cite, each with variables for all that it speaks of.
pub use Rattle.lead_basis.proofs.Powers.{exponent}
pub use Rattle.lead_basis.proofs.Positions.{index_of_sum, index_of_multiple, index_of_word, take_back, zero_at, zero_to, lead_above}
pub use Rattle.lead_basis.proofs.Leading.{basis_rows, rest_zero, pivot_divides, drop_first}
pub use Rattle.lead_basis.proofs.Remains.{empty_span, same_remainder, member_from_zero, zero_from_member}
pub use Rattle.lead_basis.proofs.Taking.{leads_at, leads_rise}
pub use Rattle.lead_basis.proofs.Between.{later_within, within_with}
pub use Rattle.lead_basis.proofs.Uniqueness.{no_rows, first_lead, turned, transitive, unique_reduced, as_many_rows}
pub use Rattle.lead_basis.proofs.Lengths.{length_bound, length_within_used}
pub use Rattle.lead_basis.proofs.Included.{length_within}
pub use Rattle.lead_basis.proofs.Annihilating.{same_annihilators}
pub use Rattle.lead_basis.proofs.Existence.{list_has_basis}
