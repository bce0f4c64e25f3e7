-- Where the word in memory is a point's, the point's instruction is fetched.
use Rattle.std.proofs.Common.{◌≡◌, ℕ, ◌%◌, Bool, true, false, not, ◌&&◌, ◌==◌, List, Contains, Option, None, Some, option_map, refl, ap, sym, ◌∙◌, arith, if◌then◌else◌}
use Rattle.elf_image.specs.Fetches.{fetch, fetch_length, read}
use Rattle.elf_image.specs.Images.{loaded}
use Rattle.elf_image.specs.Ranges.{executable_ranges}
use Rattle.elf_image.specs.declared.fetched.Fetched.{Fetched}
use Rattle.elf_image.specs.declared.image.Image.{Image}
use Rattle.elf_image.specs.declared.range.Range.{Range}
use Rattle.elf_image.proofs.Laws.{read_2, read_4}
use Rattle.flow_points.specs.PointLists.{ArePointsOf, FlowPoints}
use Rattle.flow_points.specs.declared.code_points.CodePoint.{CodePoint}
use Rattle.rv_step.specs.Harts.{Hart, fetched}
use Rattle.run_paths.proofs.Fetching.{fetched_as, fetched_bytes}
use Rattle.run_paths.proofs.Making.{FetchesAt, code_of}

low_bits : (short : Bool) (m : ℕ → ℕ) (a : ℕ) → read (if short then 2 else 4) m a % 4 ≡ m a % 4
low_bits true m a = let two = read_2 m a in omega (arith, two)
low_bits false m a = let four = read_4 m a in omega (arith, four)

-- the length of what is fetched, by its word
length_by : (unit : ℕ) (code : List Range) (m : ℕ → ℕ) (a word length : ℕ) → fetch unit code m a ≡ Some (fetched_as word length)
    → length ≡ fetch_length unit word
length_by unit code m a word length is =
    let bytes = fetched_bytes unit code m a word length is in
    let low : m a % 4 ≡ word % 4 =
    sym (low_bits (unit == 2 && not (m a % 4 == 3)) m a)
    ∙ ap (λ (l : ℕ). read l m a % 4) bytes.0 ∙ ap (λ (w : ℕ). w % 4) bytes.1 in
    sym bytes.0 ∙ ap (λ (bits : ℕ). if unit == 2 && not (bits == 3) then 2 else 4) low

pub fetches_there : (image : Image) (points : FlowPoints) → ArePointsOf image points → (c : CodePoint) → Contains points.points c
    → (m : Hart) → m.pc ≡ c.point.address → m.unit ≡ image.unit → option_map (λ at. at.word) (fetched m) ≡ Some c.word
    → FetchesAt m c
fetches_there image points are c there m pc unit has = by (fetched m) refl has
  where
    by : (o : Option Fetched) → fetched m ≡ o → option_map (λ at. at.word) o ≡ Some c.word → FetchesAt m c
    by None is e = cc
    by (Some at) is e =
        let word : at.word ≡ c.word = cc in
        let file = length_by image.unit (executable_ranges image.segments) (loaded image) c.point.address c.word c.length
        (code_of image points are c there).instr.fetched in
        let length : at.length ≡ c.length =
        length_by m.unit m.code m.memory m.pc at.word at.length is
        ∙ ap (λ (w : ℕ). fetch_length m.unit w) word ∙ ap (λ (u : ℕ). fetch_length u c.word) unit ∙ sym file in
        sym (ap (fetch m.unit m.code m.memory) pc) ∙ is
        ∙ ap (λ (w : ℕ). Some (fetched_as w at.length)) word ∙ ap (λ (l : ℕ). Some (fetched_as c.word l)) length
