use Rattle.std.proofs.Common.{rules}
use Rattle.std.proofs.lemmas.List.Sorted.{answers_always}
use Rattle.run_watch.specs.Runs.{point_of}
use Rattle.run_watch.proofs.moment.search.Goals as goal

pub returns-clause-place : goal.returns-clause-place
returns-clause-place c = c.binary_search_by_key.ensures.position point_of (answers_always _ _ _ (λ f a r g called. search rules))
