-- A file and a list are accepted, or refused.
use Rattle.std.proofs.Common.{◌≡◌, ◌≢◌, ℕ, List, Option, None, Some, refl}
use Rattle.elf_image.specs.Fields.{e_entry, unit_of}
use Rattle.elf_image.specs.Segments.{segments_of}
use Rattle.elf_image.specs.Symbols.{symbols_of}
use Rattle.elf_image.specs.Refusals.{refusal_of}
use Rattle.elf_image.specs.declared.image.Image.{Image}
use Rattle.flow_points.specs.PointLists.{FlowPoints}
use Rattle.affine_lift.specs.Tracking.{scope_of}
use Rattle.report_text.specs.declared.names.Name.{Name}
use Rattle.refusals.specs.declared.elf.ElfRefusal.{ElfRefusal}
use Rattle.run_paths.proofs.Lifted.{points_have_code}
use Rattle.analyser_core.specs.Accepted.{IsAcceptedAs, IsImageOf}
use Rattle.analyser_core.specs.Heads.{most_heads}
use Rattle.analyser_core.specs.declared.refusal.Refusal.TheVariants.{Elf, Flow, Track, Heads, Memory}
use Rattle.never_neither.specs.NeverNeither.{IsTaken, IsUnrefused}
use Rattle.never_neither.proofs.NamesThere.{list_read}
use Rattle.never_neither.proofs.PointsThere.{points_found}
use Rattle.never_neither.proofs.ProgramsThere.{program_there}
use Rattle.never_neither.proofs.HeadsCounted.{heads_counted}

pub image_made : (bytes : List ℕ) → ((refusal : ElfRefusal) → refusal_of bytes ≡ Some refusal → ⊥) → (image : Image) × IsImageOf bytes image
image_made bytes fine = by (refusal_of bytes) refl
  where
    by : (o : Option ElfRefusal) → refusal_of bytes ≡ o → (image : Image) × IsImageOf bytes image
    by (Some refusal) is = absurd (fine refusal is)
    by None is =
        let image : Image = record {
          entry = e_entry bytes;
          unit = unit_of bytes;
          file = bytes;
          segments = segments_of bytes;
          symbols = symbols_of bytes;
          accepted = is;
          enters = refl;
          has_unit = refl;
          keeps = refl;
          named = refl;
        } in (image, refl)

module _ (bytes list : List ℕ) (unrefused : IsUnrefused bytes list) (none : IsTaken bytes list → ⊥) where
  elf_apart : (refusal : ElfRefusal) → Elf refusal ≢ Memory
  elf_apart refusal e = cc

  with_names : (points : FlowPoints) (names : List Name) → IsAcceptedAs bytes list points names → ⊥
  with_names points names is =
      program_there points names (points_have_code is.image points is.accepted.has_points.are)
      (λ program lifted. heads_counted program
      (λ few. none (record {
        points = points;
        names = names;
        program = program;
        lifted = record { accepted = is; lifted = lifted };
        few_heads = few;
      }))
      (λ many. let e = unrefused (Heads most_heads) (
        refl,
        record {
          points = points;
          names = names;
          program = program;
          accepted = is;
          lifted = lifted;
          many_heads = many;
        },
      ) in cc))

  with_image : (image : Image) → IsImageOf bytes image → ⊥
  with_image image is =
      points_found image (λ refusal bad. let e = unrefused (Flow refusal) (image, is, bad) in cc)
      (λ points has. list_read (scope_of image.symbols points.procedures) list
      (λ refusal away bad. let e = unrefused (Track refusal) (image, points, is, has, bad, away) in cc)
      (λ names tracked. with_names points names
      (record { image = image; accepted = record { is_image = is; has_points = has; is_tracked = tracked } })))

  pub taken : ⊥
  taken =
      let image = image_made bytes (λ refusal is. elf_apart refusal (unrefused (Elf refusal) is)) in
      with_image image.0 image.1
