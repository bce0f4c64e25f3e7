-- The addresses of points are words.
use Rattle.std.proofs.Common.{◌≡◌, ℕ, ◌+◌, ◌<◌, ◌≤◌, ◌^◌, ◌==◌, ◌||◌, ◌&&◌, ◌%◌, not, Bool, true, false, cond, List, [], ◌∷◌, length, All, Contains, None, Some, filter, if◌then◌else◌, ap, refl, arith, subst}
use Rattle.std.specs.List.{list_any}
use Rattle.std.proofs.lemmas.Grind.{common_steps}
use Rattle.std.proofs.lemmas.List.Elements.{All-contains, All-filter, All-head, All-map, All-tail, All-weaker}
use Rattle.elf_image.specs.Fetches.{fetch, fetch_length, loaded_in, read}
use Rattle.elf_image.specs.Ranges.{executable_ranges, is_in, range_of}
use Rattle.elf_image.specs.Segments.{IsLoadable}
use Rattle.elf_image.specs.declared.fetched.Fetched.{Fetched}
use Rattle.elf_image.specs.declared.image.Image.{Image}
use Rattle.elf_image.specs.declared.range.Range.{Range}
use Rattle.elf_image.proofs.Laws.{loadable}
use Rattle.flow_points.specs.Flows.{fetches_of, IsCode}
use Rattle.flow_points.specs.Walks.{point}
use Rattle.flow_points.specs.PointLists.{ArePointsOf, FlowPoints}
use Rattle.flow_points.specs.declared.code_points.CodePoint.{CodePoint}
use Rattle.flow_points.specs.declared.code_points.Point.{Point}
use Rattle.flow_points.proofs.Cited.{from_map}
use Rattle.affine_lift.proofs.Cited.{entry_there}
use Rattle.run_paths.proofs.Lifted.{points_have_code}

abbrev EndsBelow : Range → Type 0
EndsBelow range = range.address + range.size ≤ 2 ^ 64

in_range : (a n : ℕ) (range : Range) → is_in a n range ≡ true → a + n ≤ range.address + range.size
in_range a n range inside = grind (arith, common_steps)

in_ranges : (a n : ℕ) (ranges : List Range) → 0 < n → All EndsBelow ranges → list_any (is_in a n) ranges ≡ true → a < 2 ^ 64
in_ranges a n [] some ends any = absurd (cc)
in_ranges a n (range ∷ ranges) some ends any =
    elim (is_in a n range) as (λ b. is_in a n range ≡ b → (b || list_any (is_in a n) ranges) ≡ true → a < 2 ^ 64) [
      | true ↦ λ inside found.
          let low = in_range a n range inside in
          let high = All-head EndsBelow range ranges ends in
          omega (arith, low, high, some)
      | false ↦ λ outside found. in_ranges a n ranges some (All-tail EndsBelow range ranges ends) found
    ] refl any

some_length : (short : Bool) → 0 < cond short 2 4
some_length true = omega arith
some_length false = omega arith

tested : {X : Type 0} (b held : Bool) (x y : X) → (if b && held then Some x else None) ≡ Some y → held ≡ true
tested true true x y found = refl
tested true false x y found = absurd (cc)
tested false held x y found = absurd (cc)

fetched_below : (unit : ℕ) (ranges : List Range) (memory : ℕ → ℕ) (a : ℕ) (at : Fetched) → All EndsBelow ranges
    → fetch unit ranges memory a ≡ Some at → a < 2 ^ 64
unfolding fetch
fetched_below unit ranges memory a at ends found =
    let length : ℕ = fetch_length unit (memory a) in
    let own : Fetched = record { word = read length memory a; length = length } in
    in_ranges a length ranges (some_length (unit == 2 && not (memory a % 4 == 3))) ends
    (tested (a % unit == 0) (list_any (is_in a length) ranges) own at found)

ranges_end : (image : Image) → All EndsBelow (executable_ranges image.segments)
ranges_end image =
    All-map EndsBelow range_of (filter (λ s. s.executable) image.segments)
    (All-filter (λ s. s.executable) (λ s. EndsBelow (range_of s)) image.segments
    (All-weaker (IsLoadable (length image.file)) (λ s. EndsBelow (range_of s)) (λ s fits. fits.ends) image.segments (loadable image)))

module _ (image : Image) (points : FlowPoints) (are : ArePointsOf image points) where
  pub address_fits : (c : CodePoint) → Contains points.points c → c.point.address < 2 ^ 64
  address_fits c there =
      let code = All-contains (IsCode (fetches_of image)) points.points c are.code there in
      fetched_below image.unit (executable_ranges image.segments) (loaded_in image.file image.segments) c.point.address
      (record { word = c.word; length = c.length }) (ranges_end image) code.instr.fetched

  pub procedure_fits : (p : ℕ) → Contains points.procedures p → p < 2 ^ 64
  procedure_fits p there =
      let place = entry_there points (points_have_code image points are) p there in
      let found = from_map (λ (c : CodePoint). c.point) points.points (point p p) place in
      subst (λ (a : ℕ). a < 2 ^ 64) (ap (λ (q : Point). q.address) found.2) (address_fits found.0 found.1)
