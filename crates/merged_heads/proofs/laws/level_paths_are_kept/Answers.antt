use Rattle.merged_heads.proofs.Forward.{forward}
use Rattle.merged_heads.proofs.Back.{along_back}
use Rattle.merged_heads.proofs.laws.level_paths_are_kept.Goals as goal

pub returns-clause-chains : goal.returns-clause-chains
returns-clause-chains c = λ program table heads small w blocks p i u chain m within leads. (
  λ path. forward program table heads small w blocks p u m path i chain within leads,
  along_back program table heads small w blocks p i u chain m leads,
)
