use Rattle.abi_cert.proofs.MapsKept.{tells}
use Rattle.abi_cert.proofs.laws.certificates_tell_of_paths.Goals as goal

pub returns : goal.returns
returns c =
    λ program p r rows cert good small basis same is.
    tells c.keeping_is_linear.ensures.linear c.keeping_is_linear.ensures.words c.paths_keep_states.ensures.maps program p r rows good small basis same cert is
