-- What a step does from a point: it executes the point's instruction, and goes where the point's flow goes.
use Rattle.std.proofs.Common.{◌≡◌, ℕ, ◌+◌, pos, Contains, Option, Some, Result, Ok, ap, sym, ◌∙◌, subst}
use Rattle.std.proofs.lemmas.List.Elements.{All-contains}
use Rattle.elf_image.specs.Fetches.{fetch}
use Rattle.elf_image.specs.declared.fetched.Fetched.{Fetched}
use Rattle.elf_image.specs.declared.image.Image.{Image}
use Rattle.rv_decode.specs.Instructions.{IsWellFormed}
use Rattle.rv_instr.specs.declared.Instr.{Instr}
use Rattle.rvc_expand.specs.Lengths.{MeansWithLength}
use Rattle.rvc_expand.proofs.Cited.{one_meaning}
use Rattle.flow_points.specs.Flows.{base_of, fetches_of, flow_of, known, next, outside, unknown, HasUpper, IsCode, Judged}
use Rattle.flow_points.specs.PointLists.{ArePointsOf, FlowPoints}
use Rattle.flow_points.specs.declared.code_points.CodePoint.{CodePoint}
use Rattle.flow_points.specs.declared.code_points.Flow.{Flow}
use Rattle.refusals.specs.declared.flow.FlowRefusal.{FlowRefusal}
use Rattle.flow_points.proofs.OneOutcome.{one_fetch, one_instr}
use Rattle.flow_points.proofs.PointLaws.{in_range}
use Rattle.rv_step.specs.Harts.{Hart}
use Rattle.rv_step.specs.Steps.{Executes, Step}
use Rattle.rv_step.specs.Words as machine
use Rattle.run_paths.proofs.Lifted.{points_have_code}
use Rattle.run_paths.proofs.Fetching.{fetched_as}

-- the machine fetches at a point what the point has
abbrev pub FetchesAt : Hart → CodePoint → Type 0
FetchesAt m c = fetch m.unit m.code m.memory c.point.address ≡ Some (fetched_as c.word c.length)

-- the flow of a point, by its instruction
pub record HasFlowOf (image : Image) (c : CodePoint) : Type 0 where
  pub upper : Option ℕ
  pub half : HasUpper (fetches_of image) c.point.address (base_of c.instr) upper
  pub is : (let flow : Result Flow FlowRefusal = Ok c.flow in flow) ≡ flow_of image.unit c.point.address (next c.point.address c.length) upper c.instr

module _ (image : Image) (points : FlowPoints) (are : ArePointsOf image points) (c : CodePoint) (there : Contains points.points c) where
  pub code_of : IsCode (fetches_of image) c
  code_of = All-contains (IsCode (fetches_of image)) points.points c are.code there

  pub formed : IsWellFormed c.instr
  formed = All-contains (λ d. IsWellFormed d.instr) points.points c (in_range points (points_have_code image points are)) there

  pub flow_there : HasFlowOf image c
  flow_there = by code_of.flow
    where
      by : Judged (fetches_of image) c.point.address (Ok c.flow) → HasFlowOf image c
      by (outside none e) = cc
      by (unknown at fetched none e) = cc
      by (known at instr upper has half e) =
          let same_at = one_fetch (fetches_of image) c.point.address at (fetched_as c.word c.length) has.fetched code_of.instr.fetched in
          let same = one_instr (fetches_of image) c.point.address at (fetched_as c.word c.length) instr c.instr has code_of.instr in
          record {
            upper = upper;
            half = subst (λ (i : Instr). HasUpper (fetches_of image) c.point.address (base_of i) upper) same half;
            is = e ∙ ap (λ (f : Fetched). flow_of image.unit c.point.address (next c.point.address f.length) upper instr) same_at
                ∙ ap (flow_of image.unit c.point.address (next c.point.address c.length) upper) same;
          }

  pub executes : (m n : Hart) → m.pc ≡ c.point.address → FetchesAt m c → Step m n → Executes c.instr (next c.point.address c.length) m n
  executes m n at fetched s =
      let here : fetch m.unit m.code m.memory m.pc ≡ Some (fetched_as c.word c.length) = ap (fetch m.unit m.code m.memory) at ∙ fetched in
      let same_at : s.at ≡ fetched_as c.word c.length = (let both = sym s.is_at.fetches ∙ here in cc both) in
      let same : s.instr ≡ c.instr =
      one_meaning c.word c.length s.instr c.instr (subst (λ (f : Fetched). MeansWithLength f.word f.length s.instr) same_at s.is_at.means) code_of.instr.means in
      let after : machine.word (pos (m.pc + s.at.length)) ≡ next c.point.address c.length =
      ap (λ (f : Fetched). machine.word (pos (m.pc + f.length))) same_at ∙ ap (λ (pc : ℕ). machine.word (pos (pc + c.length))) at in
      subst (λ (i : Instr). Executes i (next c.point.address c.length) m n) same (subst (λ (a : ℕ). Executes s.instr a m n) after s.executes)
