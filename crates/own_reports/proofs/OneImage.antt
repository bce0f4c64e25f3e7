-- A file has one image.
use Rattle.std.proofs.Common.{◌≡◌, None, ap, sym, ◌∙◌}
use Rattle.std.proofs.Props.{props}
use mathlib.Core.HLevel.{is_prop→PathP}
use Rattle.elf_image.specs.Fields.{e_entry, unit_of}
use Rattle.elf_image.specs.Segments.{segments_of}
use Rattle.elf_image.specs.Symbols.{symbols_of}
use Rattle.elf_image.specs.Refusals.{refusal_of}
use Rattle.elf_image.specs.declared.image.Image.{Image}

from_parts : (a b : Image) → a.file ≡ b.file → a.entry ≡ b.entry → a.unit ≡ b.unit → a.segments ≡ b.segments
    → a.symbols ≡ b.symbols → a ≡ b
from_parts a b f e u s y = λ i. record {
  entry = e i;
  unit = u i;
  file = f i;
  segments = s i;
  symbols = y i;
  accepted = is_prop→PathP (λ j. refusal_of (f j) ≡ None) (λ j. hlevel props) a.accepted b.accepted i;
  enters = is_prop→PathP (λ j. e j ≡ e_entry (f j)) (λ j. hlevel props) a.enters b.enters i;
  has_unit = is_prop→PathP (λ j. u j ≡ unit_of (f j)) (λ j. hlevel props) a.has_unit b.has_unit i;
  keeps = is_prop→PathP (λ j. s j ≡ segments_of (f j)) (λ j. hlevel props) a.keeps b.keeps i;
  named = is_prop→PathP (λ j. y j ≡ symbols_of (f j)) (λ j. hlevel props) a.named b.named i;
}

pub one_image : (a b : Image) → a.file ≡ b.file → a ≡ b
one_image a b f =
    from_parts a b f (a.enters ∙ ap e_entry f ∙ sym b.enters) (a.has_unit ∙ ap unit_of f ∙ sym b.has_unit)
    (a.keeps ∙ ap segments_of f ∙ sym b.keeps) (a.named ∙ ap symbols_of f ∙ sym b.named)
