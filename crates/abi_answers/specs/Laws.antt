-- What an answer tells of runs of the machine.
--
--   IsTelling routines p r v     some finding tells this verdict of this register of this procedure
--   AnswersTellOfRuns            where an answer is told of a table, in whatever form, and tells that a register is kept, then in each run from any of
--                                the table's procedures, with any registers and any memory, that keeps the table's premises, each
--                                frame of that procedure which ends goes to the word that ra had at its entry, and the register has
--                                its word of the entry
use Rattle.std.specs.Prelude.{◌≡◌, ℕ, suc, List, slice_get, Some}
use Rattle.elf_image.specs.declared.image.Image.{Image}
use Rattle.elf_image.specs.Images.{code_at}
use Rattle.rv_step.specs.Harts.{Hart}
use Rattle.entry_tables.specs.declared.rows.Rows.{Rows}
use Rattle.entry_tables.specs.Settling.{table_of}
use Rattle.entry_runs.specs.Frames.{Frame}
use Rattle.abi_verdicts.specs.declared.verdicts.Verdict.{Verdict}
use Rattle.abi_verdicts.specs.declared.verdicts.Verdict.TheVariants.{Kept}
use Rattle.abi_routines.specs.declared.finding.Finding.{Finding}
use Rattle.abi_routines.specs.declared.finding.Routine.{Routine}
use Rattle.abi_meanings.specs.Meanings.{EndsIn, IsHome}
use Rattle.abi_answers.specs.declared.forms.Form.{Form}
use Rattle.abi_answers.specs.Answers.{IsTold}

pub record IsTelling (routines : List Routine) (p r : ℕ) (v : Verdict) : Type 0 where
  pub i : ℕ
  pub routine : Routine
  pub has : slice_get routines i ≡ Some routine
  pub j : ℕ
  pub finding : Finding
  pub is : slice_get routine.findings j ≡ Some finding
  pub procedure : finding.procedure ≡ p
  pub register : finding.register ≡ r
  pub verdict : finding.verdict ≡ v

abbrev pub AnswersTellOfRuns : Type 0
AnswersTellOfRuns =
    (form : Form) (file : List ℕ) (image : Image) (roots : List ℕ) (rows : Rows) (routines : List Routine) (status : ℕ) (text : List ℕ)
    → IsTold form file image roots rows routines status text
    → (p r : ℕ) → IsTelling routines p r Kept → (run : ℕ → Hart) (i : ℕ) (f : Frame) → EndsIn (table_of image rows) (code_at image) p run i f
    → IsHome r (run (suc i)) f
