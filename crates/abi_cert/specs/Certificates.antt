-- Certificates.
--
--   IsCertificate rows r cert       what rows of maps say of position r: NeverReturns exactly where there is no row, Granted
--                                   exactly where there is one and each keeps r, Broken exactly where not each of them does
--   IsCertOf program p r cert       what the level paths of procedure p say of position r: NeverReturns exactly where none ends at
--                                   its exit, Granted exactly where one does and each leaves r as it was from every state, Broken
--                                   exactly where not each of them does
--   CertificatesTellOfPaths         a basis with the module of the maps of p's level paths to its exit says what they say
use Rattle.std.specs.Prelude.{◌≡◌, ◌≢◌, ℕ, ◌<◌, List, [], All, Contains}
use Rattle.row_modules.specs.Bases.{IsLeadingBasis}
use Rattle.row_modules.specs.Modules.{SameModule}
use Rattle.map_modules.specs.Matrices.{Keeps}
use Rattle.affine_prog.specs.declared.Program.{Program}
use Rattle.affine_prog.specs.Programs.{IsWellFormed}
use Rattle.affine_prog.specs.Relations.{Certified, Returns}
use Rattle.affine_prog.specs.Spans.{IsMapOf}
use Rattle.abi_cert.specs.declared.cert.Cert.{Cert}
use Rattle.abi_cert.specs.declared.cert.Cert.TheVariants.{Granted, Broken, NeverReturns}

abbrev pub IsCertificate : List (List ℕ) → ℕ → Cert → Type 0
IsCertificate rows r NeverReturns = rows ≡ []
IsCertificate rows r Granted = (rows ≢ []) × All (λ m. Keeps m r) rows
IsCertificate rows r Broken = (rows ≢ []) × (All (λ m. Keeps m r) rows → ⊥)

abbrev pub IsCertOf : Program → ℕ → ℕ → Cert → Type 0
IsCertOf program p r NeverReturns = Returns program p → ⊥
IsCertOf program p r Granted = Returns program p × Certified program p r
IsCertOf program p r Broken = Returns program p × (Certified program p r → ⊥)

abbrev pub CertificatesTellOfPaths : Type 0
CertificatesTellOfPaths =
    (program : Program) (p r : ℕ) (rows : List (List ℕ)) (cert : Cert) → IsWellFormed program → r < 16 → IsLeadingBasis 289 rows
    → SameModule 289 (Contains rows) (IsMapOf program p) → IsCertificate rows r cert → IsCertOf program p r cert
