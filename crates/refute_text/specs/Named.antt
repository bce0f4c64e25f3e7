-- What derivations name.
--
--   IsNamed program deriv      the procedure or the edge that the derivation names is one of the program
--   IsSoundIn program answer   the derivations of a counterexample are sound
use Rattle.std.specs.Prelude.{◌<◌, length}
use Rattle.affine_prog.specs.declared.Program.{Program}
use Rattle.refute_path.specs.declared.answer.Refuted.{Refuted}
use Rattle.refute_path.specs.declared.answer.Refuted.TheVariants.{Holds, Broken}
use Rattle.refute_path.specs.declared.derivations.Deriv.{Deriv}
use Rattle.refute_path.specs.declared.derivations.Deriv.TheVariants.{Opening, Step, Call}
use Rattle.refute_path.specs.Derivations.{IsSound}

abbrev pub IsNamed : Program → Deriv → Type 0
IsNamed program (Opening p slots) = p < length program.procs
IsNamed program (Step before e choice) = e < length program.edges
IsNamed program (Call before e callee) = e < length program.edges

abbrev pub IsSoundIn : Program → Refuted → Type 0
IsSoundIn program Holds = Unit {0}
IsSoundIn program (Broken found) = IsSound program found.derivs
