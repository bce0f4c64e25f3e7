-- The laws of points and of lists that crates above cite, each with variables for all that it speaks of.
pub use Rattle.flow_points.proofs.Lists.{all_at, all_one, all_two, cons_cases, Contains-map, from_map, item_there}
pub use Rattle.flow_points.proofs.OneOutcome.{judged_once, same_flow}
