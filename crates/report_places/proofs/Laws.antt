-- The laws of strangers that crates above cite.
pub use Rattle.report_places.proofs.FirstOnes.{one_stranger}
