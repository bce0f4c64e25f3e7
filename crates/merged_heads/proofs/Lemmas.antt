-- The laws of merged nodes and block programs that crates above cite, each with variables for all that it speaks of.
pub use Rattle.merged_heads.proofs.Formed.{formed}
pub use Rattle.merged_heads.proofs.HeadsTell.{states_alike, exits_alike}
pub use Rattle.merged_heads.proofs.Classes.{none_some, same_parent, parent_member, parent_at, as_parent, parent_below, on_from_parent}
pub use Rattle.merged_heads.proofs.PassedOn.{passed_on}
pub use Rattle.merged_heads.proofs.MergedModules.{module_follows, places_few}
pub use Rattle.merged_heads.proofs.Imaged.{made_of_none, made_of_more, pushed_exactly, pushed_counts}
pub use Rattle.merged_heads.proofs.Lists.{filter_in, listed}
