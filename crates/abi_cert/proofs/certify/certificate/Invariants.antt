-- Each map so far keeps the position.
use Rattle.std.specs.List.{AllWithin}
use Rattle.map_modules.specs.Matrices.{Keeps}
use Rattle.abi_cert.proofs.certify.certificate.Given as goal

abbrev pub invariant-loop-map : goal.invariant-loop-map
invariant-loop-map l = AllWithin (λ m. Keeps m l.position) l.maps 0 l.map-index
