-- Which files and lists are accepted, and why others are refused.
--
--   most_bytes                               no file may have more bytes
--   IsImageOf bytes image                    the bytes are accepted, and this is their image
--   HasPoints image points                   the image's code isn't refused for its flow, and these are its points
--   IsAccepted bytes list image points names the bytes, their code and the list are accepted: this is the image, these are its
--                                            points, and these the names of the list
--   IsAcceptedAs bytes list points names     so they are, for some image
--   IsCrowded bytes list                     so they are, but their program has too many heads
--   IsFileRefusal bytes refusal              the bytes are no image, or memory was wanting
--   IsCodeRefusal image refusal              the image's code is refused for its flow, or memory was wanting
--   IsRefusal bytes list refusal             the first cause for which there is no analysis: the bytes are no image; their code is
--                                            refused for its flow; the list is refused; the program has too many heads; or memory was
--                                            wanting
use Rattle.std.specs.Prelude.{◌≡◌, ◌≢◌, ℕ, ◌^◌, List, Some}
use Rattle.elf_image.specs.Refusals.{refusal_of}
use Rattle.elf_image.specs.declared.image.Image.{Image}
use Rattle.flow_points.specs.Refusals.{IsFlowRefusal}
use Rattle.flow_points.specs.PointLists.{FlowPoints, ArePointsOf}
use Rattle.refusals.specs.declared.flow.FlowRefusal.{FlowRefusal}
use Rattle.report_text.specs.declared.names.Name.{Name}
use Rattle.refusals.specs.declared.track.TrackRefusal as tracks
use Rattle.affine_prog.specs.declared.Program.{Program}
use Rattle.affine_lift.specs.Lifting.{IsLifted}
use Rattle.affine_lift.specs.Tracking.{IsTracked, IsTrackRefusal, scope_of}
use Rattle.analyser_core.specs.Heads.{most_heads, HasManyHeads}
use Rattle.analyser_core.specs.declared.refusal.Refusal.{Refusal}
use Rattle.analyser_core.specs.declared.refusal.Refusal.TheVariants.{Elf, Flow, Track, Heads, Memory}

abbrev pub most_bytes : ℕ
most_bytes = 2 ^ 24

-- each image keeps that its file is accepted, and that it is the file's, with the file's symbols
abbrev pub IsImageOf : List ℕ → Image → Type 0
IsImageOf bytes image = image.file ≡ bytes

pub record HasPoints (image : Image) (points : FlowPoints) : Type 0 where
  pub accepted : (refusal : FlowRefusal) → IsFlowRefusal image refusal → ⊥
  pub are : ArePointsOf image points

pub record IsAccepted (bytes list : List ℕ) (image : Image) (points : FlowPoints) (names : List Name) : Type 0 where
  pub is_image : IsImageOf bytes image
  pub has_points : HasPoints image points
  pub is_tracked : IsTracked (scope_of image.symbols points.procedures) list names

pub record IsAcceptedAs (bytes list : List ℕ) (points : FlowPoints) (names : List Name) : Type 0 where
  pub image : Image
  pub accepted : IsAccepted bytes list image points names

pub record IsCrowded (bytes list : List ℕ) : Type 0 where
  pub points : FlowPoints
  pub names : List Name
  pub program : Program
  pub accepted : IsAcceptedAs bytes list points names
  pub lifted : IsLifted points names program
  pub many_heads : HasManyHeads program

abbrev pub IsFileRefusal : List ℕ → Refusal → Type 0
IsFileRefusal bytes (Elf refusal) = refusal_of bytes ≡ Some refusal
IsFileRefusal bytes Memory = Unit {0}
IsFileRefusal bytes refusal = ⊥

abbrev pub IsCodeRefusal : Image → Refusal → Type 0
IsCodeRefusal image (Flow refusal) = IsFlowRefusal image refusal
IsCodeRefusal image Memory = Unit {0}
IsCodeRefusal image refusal = ⊥

abbrev pub IsRefusal : List ℕ → List ℕ → Refusal → Type 0
IsRefusal bytes list (Elf refusal) = refusal_of bytes ≡ Some refusal
IsRefusal bytes list (Flow refusal) = (image : Image) × IsImageOf bytes image × IsFlowRefusal image refusal
IsRefusal bytes list (Track refusal) =
    (image : Image) × (points : FlowPoints) × IsImageOf bytes image × HasPoints image points
    × IsTrackRefusal (scope_of image.symbols points.procedures) list refusal × (refusal ≢ tracks.TheVariants.Memory)
IsRefusal bytes list (Heads limit) = (limit ≡ most_heads) × IsCrowded bytes list
IsRefusal bytes list Memory = Unit {0}
