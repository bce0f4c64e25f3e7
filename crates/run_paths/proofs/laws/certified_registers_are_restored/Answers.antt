use Rattle.run_paths.proofs.Certifying.{restores}
use Rattle.run_paths.proofs.laws.certified_registers_are_restored.Goals as goal

pub returns : goal.returns
returns c = λ image lift run n is r keeps i low at is_at flow. restores image lift is run n r keeps i low at is_at flow
