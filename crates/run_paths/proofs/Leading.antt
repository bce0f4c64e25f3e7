-- Where a step leads from a point of accepted code, and which register a pair leaves ready there.
use Rattle.std.proofs.Common.{◌≡◌, ℕ, ◌+◌, ◌%◌, ◌^◌, ◌<◌, pos, Contains, slice_index, List, Option, None, Some, ap, sym, ◌∙◌, arith, subst}
use Rattle.elf_image.specs.declared.image.Image.{Image}
use Rattle.rv_decode.specs.Instructions.{IsWellFormed}
use Rattle.rv_instr.specs.declared.Instr.{Instr}
use Rattle.rv_instr.specs.declared.Instr.TheVariants.{Auipc}
use Rattle.flow_points.specs.Flows.{HasUpper, IsFirstHalf, base_of, fetches_of, flow_of, next, prior}
use Rattle.flow_points.specs.Walks.{successors_of}
use Rattle.flow_points.specs.PointLists.{ArePointsOf, FlowPoints}
use Rattle.flow_points.specs.declared.code_points.Point.{Point}
use Rattle.flow_points.specs.declared.code_points.CodePoint.{CodePoint}
use Rattle.flow_points.specs.declared.code_points.Flow.{Flow}
use Rattle.flow_points.specs.declared.code_points.Flow.TheVariants.{Next, Jump, Branch, Call, Return, Halt}
use Rattle.flow_points.proofs.Cited.{same_flow}
use Rattle.frame_offsets.specs.Frames.{goes_on}
use Rattle.rv_step.specs.Harts.{Hart}
use Rattle.rv_step.specs.Results as results
use Rattle.rv_step.specs.Steps.{Executes}
use Rattle.rv_step.specs.Words as machine
use Rattle.run_paths.proofs.Fetching.{fetched_small}
use Rattle.run_paths.proofs.Making.{code_of, flow_there, formed}
use Rattle.run_paths.proofs.Numbers.{upper_word}
use Rattle.run_paths.proofs.Pairs.{IsAccepted, IsReady, from_first_half}
use Rattle.run_paths.proofs.States.{AreWords}
use Rattle.run_paths.proofs.Turning.{IsPlain}
use Rattle.run_paths.proofs.Turns.{TurnsBy, turns}
use Rattle.run_paths.proofs.Writing.{written_same}

pub plain_successors : (p : ℕ) (flow : Flow) (to : Point) → IsPlain flow → Contains (goes_on p flow) to
    → Contains (successors_of p flow) to
plain_successors p (Next n) to plain goes = goes
plain_successors p (Jump t) to plain goes = goes
plain_successors p (Branch n t) to plain goes = goes
plain_successors p (Call t n) to plain goes = absurd plain
plain_successors p Return to plain goes = goes
plain_successors p Halt to plain goes = goes

module _ (image : Image) (points : FlowPoints) (are : ArePointsOf image points) where
  -- a step from a point where the register of its pair is ready goes where the point's flow goes
  pub leads : (c : CodePoint) → Contains points.points c → (m n : Hart) → m.pc ≡ c.point.address → AreWords m.registers
      → IsReady image c m.registers → Executes c.instr (next c.point.address c.length) m n
      → TurnsBy c.point.proc_entry c.flow (next c.point.address c.length) m n
  leads c there m n pc words ready made =
      let fl = flow_there image points are c there in
      turns c.point.proc_entry c.point.address image.unit (next c.point.address c.length) c.flow m n pc
      (fetched_small image c.point.address c.word c.length (code_of image points are c there).instr.fetched) words c.instr
      fl.upper fl.is (formed image points are c there) made (λ u some. ready u (half u fl.upper some fl.half))
    where
      half : (u : ℕ) (upper : Option ℕ) → upper ≡ Some u → HasUpper (fetches_of image) c.point.address (base_of c.instr) upper
          → IsFirstHalf (fetches_of image) c.point.address (base_of c.instr) u
      half u None some is_half = cc
      half u (Some v) some is_half =
          let same : v ≡ u = cc in
          subst (λ (w : ℕ). IsFirstHalf (fetches_of image) c.point.address (base_of c.instr) w) same is_half

  module _ (accepted : IsAccepted image) where
    -- the register of a pair, after its first half
    pub ready_after : (c d : CodePoint) (m n : Hart) (after : ℕ) → m.pc ≡ c.point.address → AreWords m.registers
        → Contains points.points c → Contains points.points d → Contains (successors_of c.point.proc_entry c.flow) d.point
        → Executes c.instr after m n → IsReady image d n.registers
    ready_after c d m n after pc words there other goes made u half =
        let from = from_first_half image points are accepted c d u there other goes half in
        let auipc : Executes (Auipc (base_of d.instr) u) after m n = subst (λ (i : Instr). Executes i after m n) from.1 made in
        let low : base_of d.instr < 32 = (subst IsWellFormed from.1 (formed image points are c there)).0 in
        ap (λ (regs : List ℕ). slice_index regs (base_of d.instr)) auipc.registers
        ∙ written_same m.registers (base_of d.instr) (machine.word (pos (m.pc + results.upper u))) half.set
        (omega (arith, low, words.count))
        ∙ ap (λ (a : ℕ). (a + results.upper u) % 2 ^ 64) (pc ∙ ap (λ (q : Point). q.address) from.0)
        ∙ ap (λ (w : ℕ). (prior d.point.address + w) % 2 ^ 64) (upper_word u)

    -- behind a call stands no second half
    pub no_pair_behind : (c d : CodePoint) (target to : ℕ) (regs : List ℕ) → Contains points.points c → Contains points.points d
        → c.flow ≡ Call target to → Contains (successors_of c.point.proc_entry c.flow) d.point → IsReady image d regs
    no_pair_behind c d target to regs there other flow goes u half =
        let from = from_first_half image points are accepted c d u there other goes half in
        let fl = flow_there image points are c there in
        let next_flow = same_flow c.flow (Next (next c.point.address c.length))
        (fl.is ∙ ap (flow_of image.unit c.point.address (next c.point.address c.length) fl.upper) from.1) in
        let clash : Next (next c.point.address c.length) ≡ Call target to = sym next_flow ∙ flow in
        cc clash
