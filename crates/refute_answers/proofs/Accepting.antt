-- What refuses an image's code refuses the file.
use Rattle.std.proofs.Common.{List, ℕ}
use Rattle.elf_image.specs.declared.image.Image.{Image}
use Rattle.analyser_core.specs.declared.refusal.Refusal.{Refusal}
use Rattle.analyser_core.specs.declared.refusal.Refusal.TheVariants.{Elf, Flow, Track, Heads, Memory}
use Rattle.analyser_core.specs.Accepted.{IsImageOf, IsCodeRefusal, IsRefusal}

pub refused_code : (bytes list : List ℕ) (image : Image) (refusal : Refusal) → IsImageOf bytes image → IsCodeRefusal image refusal → IsRefusal bytes list refusal
refused_code bytes list image (Elf refusal) of is = absurd is
refused_code bytes list image (Flow refusal) of is = (image, of, is)
refused_code bytes list image (Track refusal) of is = absurd is
refused_code bytes list image (Heads limit) of is = absurd is
refused_code bytes list image Memory of is = tt
