-- Where the watch of code finds nothing, a step leaves the code; and the other way round.
use Rattle.std.proofs.Common.{◌≡◌, ℕ, ◌%◌, ◌^◌, ◌<◌, ◌≤◌, nat_lt, ◌==◌, Bool, true, false, not, ◌&&◌, List, Contains, None, inl, inr, ap, sym, ◌∙◌, arith, subst, if◌then◌else◌}
use Rattle.std.proofs.lemmas.Bool.{cases_eq, false_from_ne_true, lt-ltb, ltb-true}
use Rattle.elf_image.specs.Images.{loaded}
use Rattle.elf_image.specs.Ranges.{executable_ranges}
use Rattle.elf_image.specs.declared.image.Image.{Image}
use Rattle.flow_points.specs.declared.code_points.CodePoint.{CodePoint}
use Rattle.rv_step.specs.Effects.{distance}
use Rattle.rv_step.specs.Harts.{Hart}
use Rattle.rv_step.specs.declared.records.StepRec.{StepRec}
use Rattle.run_paths.specs.Lifts.{Lift, IsLiftOf}
use Rattle.run_paths.specs.Activations.{behind}
use Rattle.run_paths.specs.Discipline.{LeavesCode}
use Rattle.run_paths.proofs.Fetching.{fetched_bytes, fetched_small}
use Rattle.run_paths.proofs.Making.{code_of}
use Rattle.run_watch.specs.Judges.{code_detail, holds_code, is_code, made_bytes}
use Rattle.run_watch.specs.Moments.{Moment}
use Rattle.run_watch.specs.declared.places.CodeAt.{CodeAt}
use Rattle.run_verdicts.specs.Changes.{Changes}
use Rattle.run_verdicts.proofs.Passing.{any_passes_not, found_none, none_found, none_passes}

-- where the instructions of the points stand, and how many bytes each has
pub record TellsCode (lift : Lift) (code : List CodeAt) : Type 0 where
  pub all : (c : CodePoint) → Contains lift.points.points c
      → Contains code (record { address = c.point.address; length = c.length })
  pub only : (at : CodeAt) → Contains code at
      → (c : CodePoint) × Contains lift.points.points c × (at ≡ record { address = c.point.address; length = c.length })

module _ (image : Image) (lift : Lift) (is : IsLiftOf image lift) where
  code_small : (c : CodePoint) → Contains lift.points.points c → c.point.address < 2 ^ 64
  code_small c there = fetched_small image c.point.address c.word c.length (code_of image lift.points is.points_are c there).instr.fetched

  code_short : (c : CodePoint) → Contains lift.points.points c → c.length ≤ 4
  code_short c there =
      let bytes = fetched_bytes image.unit (executable_ranges image.segments) (loaded image) c.point.address c.word c.length
      (code_of image lift.points is.points_are c there).instr.fetched in
      subst (λ (l : ℕ). l ≤ 4) bytes.0 (two_or_four (image.unit == 2 && not (loaded image c.point.address % 4 == 3)))
    where
      two_or_four : (t : Bool) → (if t then 2 else 4) ≤ 4
      two_or_four true = omega arith
      two_or_four false = omega arith

  module _ (m n : Hart) (told : StepRec) (changes : Changes m n told) (moment : Moment)
      (tells : TellsCode lift moment.code) where
    pub leaves_code : code_detail moment told ≡ None → LeavesCode lift m n
    leaves_code none c there j below =
        let b = behind c.point.address j in
        elim (cases_eq (n.memory b) (m.memory b)) [
          | inl same ↦ same
          | inr differ ↦
              let at : CodeAt = record { address = c.point.address; length = c.length } in
              let not_code = found_none (is_code moment) (made_bytes told) none b ((changes b).1 (omega arith, differ)) in
              let passes_not = any_passes_not (holds_code b) moment.code not_code at (tells.all c there) in
              let small = code_small c there in
              let short = code_short c there in
              let far : distance c.point.address b ≡ j = omega (arith, small, below, short) in
              let near : nat_lt (distance c.point.address b) c.length ≡ true = lt-ltb (distance c.point.address b) c.length
              (omega (arith, far, below)) in
              let clash : true ≡ false = sym near ∙ passes_not in cc
        ]

    pub no_code_found : LeavesCode lift m n → code_detail moment told ≡ None
    no_code_found leaves = none_found (is_code moment) (made_bytes told) (λ b changed.
        none_passes (holds_code b) moment.code (λ at there.
        let (c, within, same) = tells.only at there in
        let differs = (changes b).0 changed in
        let d = distance c.point.address b in
        ap (holds_code b) same ∙ false_from_ne_true (nat_lt d c.length) (λ holds.
        let small = code_small c within in
        let back : behind c.point.address d ≡ b = omega (arith, small, differs.0) in
        differs.1 (subst (λ (a : ℕ). n.memory a ≡ m.memory a) back (leaves c within d (ltb-true d c.length holds))))))
