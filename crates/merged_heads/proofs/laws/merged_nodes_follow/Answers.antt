use Rattle.merged_heads.proofs.Classes.{chain_of}
use Rattle.merged_heads.proofs.Pushed.{level_along, along_level, open_along, along_open, merged_comes, merged_goes}
use Rattle.merged_heads.proofs.MergedModules.{module_follows, places_few}
use Rattle.merged_heads.proofs.laws.merged_nodes_follow.Goals as goal

pub returns-clause-maps : goal.returns-clause-maps
returns-clause-maps c = λ program table w m p h u chain n leads. (
  λ path. level_along program table w m p u n path h chain leads,
  along_level program table w m p h u chain n leads,
)

pub returns-clause-states : goal.returns-clause-states
returns-clause-states c = λ program table w m start h u chain v leads. (
  λ path. open_along program table w m start u v path h chain leads,
  along_open program table w m start h u chain v leads,
)

pub returns-clause-parents : goal.returns-clause-parents
returns-clause-parents c = λ program table w m u v list below p start state. (
  merged_comes program table w m u v list below p start state,
  merged_goes program table w m u v list p start state,
)

pub returns-clause-exist : goal.returns-clause-exist
returns-clause-exist c = λ program table w m v below. let r = chain_of program table w m v below in (r.head, r.chain, r.leads)

pub returns-clause-modules : goal.returns-clause-modules
returns-clause-modules c = module_follows

pub returns-clause-few : goal.returns-clause-few
returns-clause-few c = places_few
