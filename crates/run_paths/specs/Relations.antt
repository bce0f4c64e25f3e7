-- What holds of a run that keeps the discipline: relations at each moment, and certified registers at returns.
--
--   ObeysRelations lift run i     at the moment i each relation that holds at the run's point is 0 on the words that the
--                                 machine has
--   registers_with call registers registers with the link of a call in ra, where there was one
--   opening_registers a           the registers of the moment when an activation opened: those of its call with the link in
--                                 ra, and those of the run's start for the first one
--   OpensAt lift run i            the machine's registers at the moment i are the opening registers of the last activation
--   RestoresCertified lift run i  where the moment i is at a return, each tracked register that is certified in the last
--                                 activation's procedure has its word of the moment when that activation opened
--   IsSpared lift r               r is tracked and certified in each procedure
--   KeepsRulesBut, KeepsDisciplineBut
--                                 the discipline where a return is asked nothing of the registers of a set: that it goes
--                                 behind its call where ra is in the set, that sp is that of the entry where sp is, that a
--                                 relied register is as it was where that is
--   ActivationsOpen               a run that keeps the discipline has, at moment 0 and behind each call, the opening registers
--                                 of the activation that opened
--   RunsObey, RunsRestoreCertified, CertificatesSpare
--                                 a run that keeps the discipline obeys the relations, and restores certified registers;
--                                 where the set has spared registers alone, to keep the rest of it is to keep it whole
--   DisciplinesWeaken             who keeps the discipline keeps it but for any set of registers
use Rattle.std.specs.Prelude.{◌≡◌, ◌≢◌, ℕ, suc, ◌<◌, ◌≤◌, Bool, true, false, List, ◌∷◌, Contains, slice_get, slice_index, Option, None, Some}
use Rattle.elf_image.specs.declared.image.Image.{Image}
use Rattle.word_rows.specs.Rows.{dot}
use Rattle.flow_points.specs.declared.code_points.CodePoint.{CodePoint}
use Rattle.flow_points.specs.declared.code_points.Flow.TheVariants.{Call, Return}
use Rattle.affine_prog.specs.Relations.{Certified, Holds}
use Rattle.report_text.specs.declared.names.Name.TheVariants.{Register}
use Rattle.rv_step.specs.Harts.{Hart, x}
use Rattle.rv_step.specs.Effects.{written}
use Rattle.run_paths.specs.Lifts.{Lift, IsLiftOf, node, number}
use Rattle.run_paths.specs.Activations.{Activation, Site, activations_at, point_at, point_of, state_of}
use Rattle.run_paths.specs.Discipline.{IsRelied, IsRunTo, KeepsDiscipline, LeavesCode, LeavesSlots}

pub record ObeysRelations (lift : Lift) (run : ℕ → Hart) (i : ℕ) : Type 0 where
  pub at : CodePoint
  pub is_at : point_at lift run i ≡ Some at
  pub last : Activation
  pub earlier : List Activation
  pub are : activations_at lift run i ≡ last ∷ earlier
  pub zero : (row : List ℕ) → Holds lift.program (node lift at.point) row
      → dot row (state_of lift last (run i).registers (run i).memory) ≡ 0

abbrev pub registers_with : Option Site → List ℕ → List ℕ
registers_with None registers = registers
registers_with (Some site) registers = written registers 1 site.next

abbrev pub opening_registers : Activation → List ℕ
opening_registers a = registers_with a.call a.registers

pub record OpensAt (lift : Lift) (run : ℕ → Hart) (i : ℕ) : Type 0 where
  pub last : Activation
  pub earlier : List Activation
  pub are : activations_at lift run i ≡ last ∷ earlier
  pub opens : (run i).registers ≡ opening_registers last

pub record RestoresCertified (lift : Lift) (run : ℕ → Hart) (i : ℕ) : Type 0 where
  pub last : Activation
  pub earlier : List Activation
  pub are : activations_at lift run i ≡ last ∷ earlier
  pub restored : (k r : ℕ) → slice_get lift.names k ≡ Some (Register r) → Certified lift.program (number lift last.procedure) k
      → x (run i) r ≡ slice_index (opening_registers last) r

pub record IsSpared (lift : Lift) (r : ℕ) : Type 0 where
  pub position : ℕ
  pub tracked : slice_get lift.names position ≡ Some (Register r)
  pub certified : (p : ℕ) → Contains lift.points.procedures p → Certified lift.program (number lift p) position

pub record KeepsRulesBut (lift : Lift) (spared : ℕ → Bool) (m n : Hart) (activations : List Activation) : Type 0 where
  pub last : Activation
  pub earlier : List Activation
  pub are : activations ≡ last ∷ earlier
  pub at : CodePoint
  pub is_at : point_of lift m activations ≡ Some at
  pub slots : LeavesSlots lift m n at last earlier
  pub code : LeavesCode lift m n
  pub not_first : at.flow ≡ Return → last.call ≢ None
  pub home : at.flow ≡ Return → spared 1 ≡ false → (site : Site) → last.call ≡ Some site → n.pc ≡ site.next
  pub stack : at.flow ≡ Return → spared 2 ≡ false → x m 2 ≡ last.entry_sp
  pub relied : at.flow ≡ Return → (r : ℕ) → spared r ≡ false → IsRelied lift last r → x m r ≡ slice_index last.registers r

abbrev pub KeepsDisciplineBut : Lift → (ℕ → Bool) → (ℕ → Hart) → ℕ → Type 0
KeepsDisciplineBut lift spared run n =
    (i : ℕ) → i < n → KeepsRulesBut lift spared (run i) (run (suc i)) (activations_at lift run i)

abbrev pub ActivationsOpen : Type 0
ActivationsOpen =
    (image : Image) (lift : Lift) (run : ℕ → Hart) (n : ℕ) → IsLiftOf image lift → IsRunTo image run n
    → KeepsDiscipline lift run n → OpensAt lift run 0 × ((i : ℕ) → i < n → (at : CodePoint) → point_at lift run i ≡ Some at
    → (target next : ℕ) → at.flow ≡ Call target next → OpensAt lift run (suc i))

abbrev pub RunsObey : Type 0
RunsObey =
    (image : Image) (lift : Lift) (run : ℕ → Hart) (n : ℕ) → IsLiftOf image lift → IsRunTo image run n
    → KeepsDiscipline lift run n → (i : ℕ) → i ≤ n → ObeysRelations lift run i

abbrev pub RunsRestoreCertified : Type 0
RunsRestoreCertified =
    (image : Image) (lift : Lift) (run : ℕ → Hart) (n : ℕ) → IsLiftOf image lift → IsRunTo image run n
    → KeepsDiscipline lift run n → (i : ℕ) → i ≤ n → (at : CodePoint) → point_at lift run i ≡ Some at → at.flow ≡ Return
    → RestoresCertified lift run i

abbrev pub CertificatesSpare : Type 0
CertificatesSpare =
    (image : Image) (lift : Lift) (spared : ℕ → Bool) (run : ℕ → Hart) (n : ℕ) → IsLiftOf image lift → IsRunTo image run n
    → ((r : ℕ) → spared r ≡ true → IsSpared lift r) → KeepsDisciplineBut lift spared run n → KeepsDiscipline lift run n

abbrev pub DisciplinesWeaken : Type 0
DisciplinesWeaken =
    (lift : Lift) (spared : ℕ → Bool) (run : ℕ → Hart) (n : ℕ) → KeepsDiscipline lift run n → KeepsDisciplineBut lift spared run n
