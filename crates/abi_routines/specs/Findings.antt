-- What is told of a whole table.
--
--   IsFinding t ends ending f    what it tells is the verdict, by the walk that stands with it
--   AreFindings                  so for each
--   place_of f                   of which register of which procedure it tells
--   asked p registers            these registers of p
--   IsRoutine image rows ends ending registers routine
--                                how far sp goes down in a procedure of the table, and what is told of these registers of it,
--                                in their order
--   AreRoutines                  so for each
use Rattle.std.specs.Prelude.{◌≡◌, ℕ, List, map, slice_get, Some}
use Rattle.elf_image.specs.declared.image.Image.{Image}
use Rattle.entry_tables.specs.declared.rows.Rows.{Rows}
use Rattle.entry_tables.specs.Tables.{Table}
use Rattle.entry_tables.specs.Settling.{table_of}
use Rattle.abi_verdicts.specs.declared.ways.End.{End}
use Rattle.abi_routines.specs.declared.finding.Finding.{Finding}
use Rattle.abi_routines.specs.declared.finding.Routine.{Routine}
use Rattle.abi_verdicts.specs.Depths.{depth_of}
use Rattle.abi_verdicts.specs.Verdicts.{verdict_of}

abbrev pub IsFinding : Table → List End → List ℕ → Finding → Type 0
IsFinding t ends ending f = f.verdict ≡ verdict_of t ends ending f.procedure f.register f.walk

abbrev pub AreFindings : Table → List End → List ℕ → List Finding → Type 0
AreFindings t ends ending found = (i : ℕ) (f : Finding) → slice_get found i ≡ Some f → IsFinding t ends ending f

abbrev pub place_of : Finding → ℕ × ℕ
place_of f = (f.procedure, f.register)

abbrev pub asked : ℕ → List ℕ → List (ℕ × ℕ)
asked p registers = map (λ r. (p, r)) registers

pub record IsRoutine (image : Image) (rows : Rows) (ends : List End) (ending : List ℕ) (registers : List ℕ) (routine : Routine) : Type 0 where
  pub depth : routine.depth ≡ depth_of routine.procedure rows.points
  pub asked : map place_of routine.findings ≡ asked routine.procedure registers
  pub told : AreFindings (table_of image rows) ends ending routine.findings

abbrev pub AreRoutines : Image → Rows → List End → List ℕ → List ℕ → List Routine → Type 0
AreRoutines image rows ends ending registers routines =
    (i : ℕ) (routine : Routine) → slice_get routines i ≡ Some routine → IsRoutine image rows ends ending registers routine
