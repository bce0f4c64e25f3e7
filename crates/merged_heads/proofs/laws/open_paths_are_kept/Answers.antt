use Rattle.merged_heads.proofs.Forward.{open_forward}
use Rattle.merged_heads.proofs.Back.{open_along_back}
use Rattle.merged_heads.proofs.laws.open_paths_are_kept.Goals as goal

pub returns-clause-chains : goal.returns-clause-chains
returns-clause-chains c = λ program table heads small w blocks start i u chain v within leads. (
  λ path. open_forward program table heads small w blocks start u v path i chain within leads,
  open_along_back program table heads small w blocks start i u chain v leads,
)
