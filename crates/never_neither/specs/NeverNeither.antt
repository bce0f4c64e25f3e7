-- That a file and a list are accepted or refused. Where a law ends in `(.. → ⊥) → ⊥`, it says that it can't be that there is
-- none of what stands there.
--
--   IsUnrefused bytes list    want of memory is the one cause for which they are refused
--   IsTaken bytes list        they are accepted, and the program that is lifted from them has no more heads than it may
--   ImagesAreMade             bytes that aren't refused have an image
--   PointsAreFound            an image that isn't refused for its flow has points
--   ListsAreRead              a list that isn't refused is read as some names
--   ProgramsAreLifted         points of code and names have a program
--   HeadsAreCounted           a program has no more heads than it may, or it has more
--   NeverNeither              a file and a list that aren't refused are accepted
use Rattle.std.specs.Prelude.{◌≡◌, ◌≢◌, ℕ, List, Some}
use Rattle.elf_image.specs.Refusals.{refusal_of}
use Rattle.elf_image.specs.declared.image.Image.{Image}
use Rattle.flow_points.specs.Refusals.{IsFlowRefusal}
use Rattle.flow_points.specs.PointLists.{FlowPoints, HasCode}
use Rattle.affine_prog.specs.declared.Program.{Program}
use Rattle.affine_lift.specs.Lifting.{IsLifted}
use Rattle.affine_lift.specs.Tracking.{Scope, IsTracked, IsTrackRefusal}
use Rattle.report_text.specs.declared.names.Name.{Name}
use Rattle.refusals.specs.declared.elf.ElfRefusal.{ElfRefusal}
use Rattle.refusals.specs.declared.flow.FlowRefusal.{FlowRefusal}
use Rattle.refusals.specs.declared.track.TrackRefusal.{TrackRefusal}
use Rattle.refusals.specs.declared.track.TrackRefusal.TheVariants as tracks
use Rattle.analyser_core.specs.Accepted.{HasPoints, IsImageOf, IsRefusal}
use Rattle.analyser_core.specs.Heads.{HasFewHeads, HasManyHeads}
use Rattle.analyser_core.specs.Reports.{IsLiftedFrom}
use Rattle.analyser_core.specs.declared.refusal.Refusal.{Refusal}
use Rattle.analyser_core.specs.declared.refusal.Refusal.TheVariants.{Memory}

abbrev pub IsUnrefused : List ℕ → List ℕ → Type 0
IsUnrefused bytes list = (refusal : Refusal) → IsRefusal bytes list refusal → refusal ≡ Memory

pub record IsTaken (bytes list : List ℕ) : Type 0 where
  pub points : FlowPoints
  pub names : List Name
  pub program : Program
  pub lifted : IsLiftedFrom bytes list points names program
  pub few_heads : HasFewHeads program

abbrev pub ImagesAreMade : Type 0
ImagesAreMade =
    (bytes : List ℕ) → ((refusal : ElfRefusal) → refusal_of bytes ≡ Some refusal → ⊥) → (image : Image) × IsImageOf bytes image

abbrev pub PointsAreFound : Type 0
PointsAreFound =
    (image : Image) → ((refusal : FlowRefusal) → IsFlowRefusal image refusal → ⊥)
    → ((points : FlowPoints) → HasPoints image points → ⊥) → ⊥

abbrev pub ListsAreRead : Type 0
ListsAreRead =
    (scope : Scope) (list : List ℕ) → ((refusal : TrackRefusal) → refusal ≢ tracks.Memory → IsTrackRefusal scope list refusal → ⊥)
    → ((names : List Name) → IsTracked scope list names → ⊥) → ⊥

abbrev pub ProgramsAreLifted : Type 0
ProgramsAreLifted =
    (points : FlowPoints) (names : List Name) → HasCode points
    → ((program : Program) → IsLifted points names program → ⊥) → ⊥

abbrev pub HeadsAreCounted : Type 0
HeadsAreCounted = (program : Program) → (HasFewHeads program → ⊥) → (HasManyHeads program → ⊥) → ⊥

abbrev pub NeverNeither : Type 0
NeverNeither = (bytes list : List ℕ) → IsUnrefused bytes list → (IsTaken bytes list → ⊥) → ⊥
