-- Files that are refused.
--
--   IsRefused bytes status text       what every order over a file gets for bytes that are too many, or no image,
--                                     or whose code is refused for its flow
--   IsCode bytes image points         the bytes are accepted, and this is their image, and these are its points
--   IsListRefusal bytes refusal       there is no list of the bytes' points, for this cause
--   IsLineOf bytes refusal text       the text is the line of what these bytes are refused for; want of memory has none
use Rattle.std.specs.Prelude.{◌≡◌, ℕ, ◌<◌, ◌≤◌, List, Some, length}
use Rattle.elf_image.specs.declared.image.Image.{Image}
use Rattle.refusals.specs.declared.elf.ElfRefusal.{ElfRefusal}
use Rattle.elf_image.specs.Fields.{unit_of}
use Rattle.elf_image.specs.Refusals.{refusal_of}
use Rattle.flow_points.specs.Refusals.{IsFlowRefusal}
use Rattle.flow_points.specs.PointLists.{FlowPoints}
use Rattle.refusals.specs.declared.flow.FlowRefusal.{FlowRefusal}
use Rattle.analyser_core.specs.Accepted.{most_bytes, IsImageOf, HasPoints}
use Rattle.analyser_core.specs.declared.refusal.Refusal.{Refusal}
use Rattle.analyser_core.specs.declared.refusal.Refusal.TheVariants.{Elf, Flow, Track, Heads, Memory}
use Rattle.refusal_lines.specs.Lines.{elf_line, flow_line, heads_line, too_long_line, track_line}

pub data IsRefused (bytes : List ℕ) : ℕ → List ℕ → Type 0 where
  too_long : (status : ℕ) (text : List ℕ) → most_bytes < length bytes → status ≡ 1 → text ≡ too_long_line → IsRefused bytes status text
  no_image : (status : ℕ) (text : List ℕ) (refusal : ElfRefusal) → length bytes ≤ most_bytes → refusal_of bytes ≡ Some refusal →
      status ≡ 1 → text ≡ elf_line refusal → IsRefused bytes status text
  bad_flow : (status : ℕ) (text : List ℕ) (image : Image) (refusal : FlowRefusal) → length bytes ≤ most_bytes → IsImageOf bytes image →
      IsFlowRefusal image refusal → status ≡ 1 → text ≡ flow_line (unit_of bytes) refusal → IsRefused bytes status text

pub record IsCode (bytes : List ℕ) (image : Image) (points : FlowPoints) : Type 0 where
  pub short : length bytes ≤ most_bytes
  pub is_image : IsImageOf bytes image
  pub has_points : HasPoints image points

abbrev pub IsListRefusal : List ℕ → Refusal → Type 0
IsListRefusal bytes (Elf refusal) = refusal_of bytes ≡ Some refusal
IsListRefusal bytes (Flow refusal) = (image : Image) × IsImageOf bytes image × IsFlowRefusal image refusal
IsListRefusal bytes (Track refusal) = ⊥
IsListRefusal bytes (Heads limit) = ⊥
IsListRefusal bytes Memory = Unit {0}

abbrev pub IsLineOf : List ℕ → Refusal → List ℕ → Type 0
IsLineOf bytes (Elf refusal) text = text ≡ elf_line refusal
IsLineOf bytes (Flow refusal) text = text ≡ flow_line (unit_of bytes) refusal
IsLineOf bytes (Track refusal) text = text ≡ track_line refusal
IsLineOf bytes (Heads limit) text = text ≡ heads_line limit
IsLineOf bytes Memory text = ⊥
