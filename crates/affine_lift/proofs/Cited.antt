-- The laws of names, points and lifted programs that crates above cite, each with variables for all that it speaks of.
pub use Rattle.affine_lift.proofs.FirstPlaces.{position_is, position_none, position_within}
pub use Rattle.affine_lift.proofs.Nodes.{node_is, number_at}
pub use Rattle.affine_lift.proofs.PositionBits.{has_positions}
pub use Rattle.affine_lift.proofs.Procedures.{code_there, entry_there, number_is, owner_there}
pub use Rattle.affine_lift.proofs.Owners.{number_small, proc_at}
pub use Rattle.affine_lift.proofs.EdgesFormed.{slots_at}
pub use Rattle.affine_lift.proofs.VisibleSeen.{visible_seen}
