use Rattle.std.proofs.Common.{List, ℕ}
use Rattle.std.proofs.lemmas.Bool.{iff_false}
use Rattle.elf_image.specs.declared.image.Image.{Image}
use Rattle.analyser_core.specs.declared.refusal.Refusal.{Refusal}
use Rattle.analyser_core.specs.declared.refusal.Refusal.TheVariants.{Elf, Flow, Track, Heads, Memory}
use Rattle.analyser_core.specs.Accepted.{IsImageOf, IsFileRefusal, IsCodeRefusal, IsRefusal}
use Rattle.analyser_core.proofs.accept.accepted.Goals as goal

refused_file : (bytes list : List ℕ) (refusal : Refusal) → IsFileRefusal bytes refusal → IsRefusal bytes list refusal
refused_file bytes list (Elf refusal) is = is
refused_file bytes list (Flow refusal) is = absurd is
refused_file bytes list (Track refusal) is = absurd is
refused_file bytes list (Heads limit) is = absurd is
refused_file bytes list Memory is = tt

refused_code : (bytes list : List ℕ) (image : Image) (refusal : Refusal) → IsImageOf bytes image → IsCodeRefusal image refusal → IsRefusal bytes list refusal
refused_code bytes list image (Elf refusal) of is = absurd is
refused_code bytes list image (Flow refusal) of is = (image, of, is)
refused_code bytes list image (Track refusal) of is = absurd is
refused_code bytes list image (Heads limit) of is = absurd is
refused_code bytes list image Memory of is = tt

pub returns-in-Err-points_of : goal.returns-in-Err-points_of
returns-in-Err-points_of c =
    refused_code c.args.bytes.now c.args.list.now c.in-Ok.image c.in-Err-points_of.refusal c.in-Ok.ensures c.in-Err-points_of.ensures

pub returns-in-Ok-read_tracked : goal.returns-in-Ok-read_tracked
returns-in-Ok-read_tracked c = record {
  image = c.in-Ok.image;
  accepted = record { is_image = c.in-Ok.ensures; has_points = c.in-Ok-points_of.ensures; is_tracked = c.in-Ok-read_tracked.ensures };
}

pub returns : goal.returns
returns c = (c.in-Ok.image, c.in-Ok-points_of.points, c.in-Ok.ensures, c.in-Ok-points_of.ensures, c.in-Err-read_tracked.ensures, iff_false c.is_memory.ensures c.if-is_memory.false)
