-- What an answer tells of runs, by what verdicts tell.
use Rattle.std.proofs.Common.{◌≡◌, ℕ, suc, List, sym, subst, ◌∙◌}
use Rattle.elf_image.specs.declared.image.Image.{Image}
use Rattle.elf_image.specs.Images.{code_at}
use Rattle.rv_step.specs.Harts.{Hart}
use Rattle.entry_tables.specs.declared.rows.Rows.{Rows}
use Rattle.entry_tables.specs.Settling.{table_of}
use Rattle.entry_runs.specs.Frames.{Frame}
use Rattle.abi_verdicts.specs.declared.verdicts.Verdict.TheVariants.{Kept}
use Rattle.abi_verdicts.specs.Ends.{ends_in}
use Rattle.abi_verdicts.specs.Verdicts.{verdict_of}
use Rattle.abi_routines.specs.declared.finding.Routine.{Routine}
use Rattle.abi_meanings.specs.Meanings.{KeptIsKept, EndsIn, IsHome}
use Rattle.abi_answers.specs.declared.forms.Form.{Form}
use Rattle.abi_answers.specs.Answers.{IsTold}
use Rattle.abi_answers.specs.Laws.{IsTelling}

pub told_home : KeptIsKept → (form : Form) (file : List ℕ) (image : Image) (roots : List ℕ) (rows : Rows) (routines : List Routine) (status : ℕ) (text : List ℕ)
    → IsTold form file image roots rows routines status text
    → (p r : ℕ) → IsTelling routines p r Kept → (run : ℕ → Hart) (i : ℕ) (f : Frame) → EndsIn (table_of image rows) (code_at image) p run i f
    → IsHome r (run (suc i)) f
told_home law form file image roots rows routines status text is p r telling run i f e =
    let t = table_of image rows in
    let ends = ends_in image rows rows.points in
    let ending = is.found.ending in
    let one = telling.finding in
    let kept : verdict_of t ends ending one.procedure one.register one.walk ≡ Kept =
    sym ((is.found.told telling.i telling.routine telling.has).told telling.j one telling.is) ∙ telling.verdict in
    let at_p : verdict_of t ends ending p one.register one.walk ≡ Kept =
    subst (λ (q : ℕ). verdict_of t ends ending q one.register one.walk ≡ Kept) telling.procedure kept in
    law t (code_at image) ends ending p r one.walk is.table.settled is.table.reads
    (subst (λ (s : ℕ). verdict_of t ends ending p s one.walk ≡ Kept) telling.register at_p) run i f e
