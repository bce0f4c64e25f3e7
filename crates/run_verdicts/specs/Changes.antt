-- What the record of a step tells of memory.
--
--   IsOwnStep m          the machine makes its next step itself: nothing stops it there, no ECALL and no EBREAK either
--   Changes m n told     the bytes that the record tells as changed are those at which the two memories differ
--   RecordsTellChanges   so it is of the record of each step that a machine makes itself
use Rattle.std.specs.Prelude.{◌≢◌, ◌↔◌, ℕ, ◌^◌, ◌<◌, Contains}
use Rattle.rv_step.specs.Harts.{Hart, IsHart}
use Rattle.rv_step.specs.Machines.{hart_of}
use Rattle.rv_step.specs.Steps.{Step}
use Rattle.rv_step.specs.Records.{IsRecord, StopsWith}
use Rattle.rv_step.specs.declared.machine.Machine.{Machine}
use Rattle.rv_step.specs.declared.records.StepRec.{StepRec}
use Rattle.rv_step.specs.declared.records.Stop.{Stop}
use Rattle.run_watch.specs.Judges.{made_bytes}

abbrev pub IsOwnStep : Hart → Type 0
IsOwnStep m = (why : Stop) → StopsWith m why → ⊥

abbrev pub Changes : Hart → Hart → StepRec → Type 0
Changes m n told = (b : ℕ) → Contains (made_bytes told) b ↔ ((b < 2 ^ 64) × (n.memory b ≢ m.memory b))

abbrev pub RecordsTellChanges : Type 0
RecordsTellChanges =
    (m n : Machine) (told : StepRec) → IsHart (hart_of m) → Step (hart_of m) (hart_of n) → IsOwnStep (hart_of m)
    → IsRecord m n told
    → Changes (hart_of m) (hart_of n) told
