-- Files that are accepted whatever their list of names is.
--
--   IsAcceptedFile bytes     the bytes are no more than a file may have, they are an image, its code isn't refused for its flow,
--                            and no list has a program with too many heads
--   MadeFilesAreAccepted     so it is of each file that is made from a number
use Rattle.std.specs.Prelude.{◌≡◌, ℕ, ◌≤◌, List, None, length}
use Rattle.elf_image.specs.Refusals.{refusal_of}
use Rattle.elf_image.specs.declared.image.Image.{Image}
use Rattle.flow_points.specs.Refusals.{IsFlowRefusal}
use Rattle.refusals.specs.declared.flow.FlowRefusal.{FlowRefusal}
use Rattle.gen_elf.specs.Generated.{IsGenerated}
use Rattle.analyser_core.specs.Accepted.{most_bytes, IsImageOf, IsCrowded}

pub record IsAcceptedFile (bytes : List ℕ) : Type 0 where
  pub short : length bytes ≤ most_bytes
  pub is_image : refusal_of bytes ≡ None
  pub flows : (image : Image) (refusal : FlowRefusal) → IsImageOf bytes image → IsFlowRefusal image refusal → ⊥
  pub few_heads : (list : List ℕ) → IsCrowded bytes list → ⊥

abbrev pub MadeFilesAreAccepted : Type 0
MadeFilesAreAccepted = (n : ℕ) (bytes : List ℕ) → IsGenerated n bytes → IsAcceptedFile bytes
