-- What verdicts tell of runs of the machine.
--
--   EndsIn t code p run i f  in a run from a procedure of the table, which keeps the premises, the last frame at the moment i is f,
--                            a frame of p, and it ends with the step from there
--   IsHome r n f             at n the frame has gone to the word that ra had at its entry, bit 0 cleared; and r, if it isn't ra
--                            itself, has the word that it had there
--   KeptIsKept               of a register that is told to be kept this holds at each end of a frame of the procedure
--   NeverEnds                of a procedure that is told never to end no frame ends
--   IsOff entry r b k w      w is the word of b at the entry, plus k. Where b is r, it is never the entry's word of r; of ra, it is
--                            an address to which no even ra goes. Where b is another register, it is one word, whatever r had
--   ClobbersTell             of a register that is told to be clobbered, with such a value, this holds in each run whose frame has
--                            gone by the walk, at the walk's end
use Rattle.std.specs.Prelude.{◌≡◌, ◌≢◌, ℕ, suc, ◌+◌, ◌%◌, ◌^◌, ◌<◌, List, ◌∷◌, Contains, slice_index, Option}
use Rattle.elf_image.specs.declared.fetched.Fetched.{Fetched}
use Rattle.elf_image.specs.declared.image.Image.{Image}
use Rattle.elf_image.specs.Images.{code_at}
use Rattle.rv_step.specs.Harts.{Hart, x}
use Rattle.rv_step.specs.Steps.{even}
use Rattle.entry_values.specs.declared.states.State.{State}
use Rattle.entry_values.specs.declared.values.Value.TheVariants.{Is}
use Rattle.entry_tables.specs.Tables.{Table, IsSettled, Reads, flow_of}
use Rattle.entry_tables.specs.declared.rows.Rows.{Rows}
use Rattle.entry_tables.specs.Settling.{table_of}
use Rattle.entry_runs.specs.Frames.{Frame, frames_at}
use Rattle.entry_runs.specs.Theorems.{IsRunFrom, KeepsUpTo, Ends}
use Rattle.entry_runs.specs.Walks.{Along}
use Rattle.entry_walks.specs.Ways.{gone_by}
use Rattle.abi_verdicts.specs.declared.ways.End.{End}
use Rattle.abi_verdicts.specs.declared.faults.Fault.{Fault}
use Rattle.abi_verdicts.specs.declared.verdicts.Verdict.TheVariants.{Kept, Never, Clobbered}
use Rattle.abi_verdicts.specs.Ends.{ends_in}
use Rattle.abi_verdicts.specs.Verdicts.{verdict_of}

pub record EndsIn (t : Table) (code : ℕ → Option Fetched) (p : ℕ) (run : ℕ → Hart) (i : ℕ) (f : Frame) : Type 0 where
  pub from : ℕ
  pub has : Contains t.procedures from
  pub n : ℕ
  pub is_run : IsRunFrom t from run n
  pub keeps : KeepsUpTo t code from run n
  pub within : i < n
  pub rest : List Frame
  pub frames : frames_at t from run i ≡ f ∷ rest
  pub procedure : f.procedure ≡ p
  pub ends : Ends (flow_of t f.procedure f.at)

pub record IsHome (r : ℕ) (n : Hart) (f : Frame) : Type 0 where
  pub home : n.pc ≡ even (slice_index f.registers 1)
  pub word : r ≢ 1 → x n r ≡ slice_index f.registers r

abbrev pub KeptIsKept : Type 0
KeptIsKept =
    (t : Table) (code : ℕ → Option Fetched) (ends : List End) (ending : List ℕ) (p r : ℕ) (walk : List ℕ) → IsSettled t → Reads code t
    → verdict_of t ends ending p r walk ≡ Kept → (run : ℕ → Hart) (i : ℕ) (f : Frame) → EndsIn t code p run i f → IsHome r (run (suc i)) f

abbrev pub NeverEnds : Type 0
NeverEnds =
    (image : Image) (rows : Rows) (ending : List ℕ) (p r : ℕ) (walk : List ℕ) → IsSettled (table_of image rows) → Reads (code_at image) (table_of image rows)
    → verdict_of (table_of image rows) (ends_in image rows rows.points) ending p r walk ≡ Never
    → (run : ℕ → Hart) (i : ℕ) (f : Frame) → EndsIn (table_of image rows) (code_at image) p run i f → ⊥

pub record IsOff (entry : List ℕ) (r b k w : ℕ) : Type 0 where
  pub word : w ≡ (slice_index entry b + k) % 2 ^ 64
  pub own : r ≢ 1 → b ≡ r → w ≢ slice_index entry r
  pub home : r ≡ 1 → b ≡ 1 → even (slice_index entry 1) ≡ slice_index entry 1 → even w ≢ slice_index entry 1

abbrev pub ClobbersTell : Type 0
ClobbersTell =
    (t : Table) (code : ℕ → Option Fetched) (ends : List End) (ending : List ℕ) (entry : List ℕ) (p r a : ℕ) (s : State) (m : Hart) → IsSettled t → Reads code t
    → (way : Along t code entry p a s m) (fault : Fault) → verdict_of t ends ending p r (gone_by t code entry p a s m way) ≡ Clobbered fault
    → (b k : ℕ) → fault.value ≡ Is b k → (m.pc ≡ fault.address) × IsOff entry r b k (x m r)
