use Rattle.std.proofs.Common.{rules}
use Rattle.std.proofs.lemmas.Bool.{leb-true, leb-false}
use Rattle.std.proofs.lemmas.List.Sorted.{IsPartitionedBy-leb, IsPartitionPoint-from_clause}
use lib.Dec.{leb}
use Rattle.run_watch.specs.declared.places.CodeAt.{CodeAt}
use Rattle.run_watch.proofs.NearestCode.{rising}
use Rattle.run_watch.proofs.code_bytes.count_to.Goals as goal

pub returns-clause-parts : goal.returns-clause-parts
returns-clause-parts c =
    let code = c.args.code.now in
    let a = c.args.address in
    let parts = IsPartitionPoint-from_clause (λ (at : CodeAt). leb at.address a) code c.partition_point.result c.partition_point.ensures.partitioned
    (IsPartitionedBy-leb (λ (at : CodeAt). at.address) code a (rising code c.requires)) (λ x r f called. search rules) in
    (λ k d low below. leb-true _ _ (parts.0 k d low below), λ k d low below. leb-false _ _ (parts.1 k d low below))
