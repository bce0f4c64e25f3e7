-- What follows from the tables. Crates above may cite it.
pub use Rattle.rvc_expand.proofs.OneMeaning.{one_meaning}
pub use Rattle.rvc_expand.proofs.InRange.{meaning_in_range}
