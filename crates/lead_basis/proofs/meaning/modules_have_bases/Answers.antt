use Rattle.lead_basis.proofs.Existence.{list_has_basis}
use Rattle.lead_basis.proofs.Included.{length_within}
use Rattle.lead_basis.proofs.meaning.modules_have_bases.Goals as goal

pub returns : goal.returns
returns c = record { lists = list_has_basis; longer = length_within }
