-- Which files and lists are accepted where the low 32 bits are told of: slots have four bytes.
--
--   IsNarrowAccepted bytes list points names   the bytes, their code and the list are accepted: these are the points, and these
--                                              the names of the list
--   IsNarrowCrowded bytes list                 so they are, but their program has too many heads
--   IsNarrowRefusal bytes list refusal         the first cause for which nothing is told: the bytes are no image; their code is
--                                              refused for its flow; the list is refused; the program has too many heads; or
--                                              memory was wanting
use Rattle.std.specs.Prelude.{◌≡◌, ◌≢◌, ℕ, List, Some}
use Rattle.elf_image.specs.Refusals.{refusal_of}
use Rattle.elf_image.specs.declared.image.Image.{Image}
use Rattle.flow_points.specs.Refusals.{IsFlowRefusal}
use Rattle.flow_points.specs.PointLists.{FlowPoints}
use Rattle.report_text.specs.declared.names.Name.{Name}
use Rattle.refusals.specs.declared.track.TrackRefusal as tracks
use Rattle.affine_prog.specs.declared.Program.{Program}
use Rattle.affine_lift.specs.declared.width.Width.TheVariants.{Narrow}
use Rattle.affine_lift.specs.Lifting.{IsLiftedBy}
use Rattle.affine_lift.specs.Tracking.{IsTracked, IsTrackRefusal, scope_by}
use Rattle.analyser_core.specs.Accepted.{IsImageOf, HasPoints}
use Rattle.analyser_core.specs.Heads.{most_heads, HasManyHeads}
use Rattle.analyser_core.specs.declared.refusal.Refusal.{Refusal}
use Rattle.analyser_core.specs.declared.refusal.Refusal.TheVariants.{Elf, Flow, Track, Heads, Memory}

pub record IsNarrowAccepted (bytes list : List ℕ) (points : FlowPoints) (names : List Name) : Type 0 where
  pub image : Image
  pub is_image : IsImageOf bytes image
  pub has_points : HasPoints image points
  pub is_tracked : IsTracked (scope_by Narrow image.symbols points.procedures) list names

pub record IsNarrowCrowded (bytes list : List ℕ) : Type 0 where
  pub points : FlowPoints
  pub names : List Name
  pub program : Program
  pub accepted : IsNarrowAccepted bytes list points names
  pub lifted : IsLiftedBy Narrow points names program
  pub many_heads : HasManyHeads program

abbrev pub IsNarrowRefusal : List ℕ → List ℕ → Refusal → Type 0
IsNarrowRefusal bytes list (Elf refusal) = refusal_of bytes ≡ Some refusal
IsNarrowRefusal bytes list (Flow refusal) = (image : Image) × IsImageOf bytes image × IsFlowRefusal image refusal
IsNarrowRefusal bytes list (Track refusal) =
    (image : Image) × (points : FlowPoints) × IsImageOf bytes image × HasPoints image points
    × IsTrackRefusal (scope_by Narrow image.symbols points.procedures) list refusal × (refusal ≢ tracks.TheVariants.Memory)
IsNarrowRefusal bytes list (Heads limit) = (limit ≡ most_heads) × IsNarrowCrowded bytes list
IsNarrowRefusal bytes list Memory = Unit {0}
