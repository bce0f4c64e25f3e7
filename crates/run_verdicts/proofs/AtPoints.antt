-- Wherever a run of accepted code comes, it is at a point, and it ends there.
use Rattle.std.proofs.Common.{◌≡◌, ◌≢◌, ℕ, List, Contains, None, Some, ap, sym, ◌∙◌, subst}
use Rattle.elf_image.specs.Fetches.{fetch}
use Rattle.elf_image.specs.declared.fetched.Fetched.{Fetched}
use Rattle.elf_image.specs.declared.image.Image.{Image}
use Rattle.flow_points.specs.PointLists.{FlowPoints, places_of}
use Rattle.flow_points.specs.declared.code_points.CodePoint.{CodePoint}
use Rattle.flow_points.specs.declared.code_points.Point.{Point}
use Rattle.flow_points.proofs.Cited.{Contains-map, item_there}
use Rattle.affine_lift.proofs.Cited.{number_at}
use Rattle.rvc_expand.specs.Lengths.{MeansWithLength}
use Rattle.rv_instr.specs.declared.Instr.{Instr}
use Rattle.rv_step.specs.Harts.{Hart, fetched}
use Rattle.rv_step.specs.Machines.{hart_of}
use Rattle.rv_step.specs.Records.{StopsWith, breaks, calls, exits, illegal, outside}
use Rattle.rv_step.specs.declared.records.Stop.{Stop}
use Rattle.run_paths.proofs.Fetching.{fetched_as}
use Rattle.run_paths.proofs.Making.{code_of}
use Rattle.run_watch.specs.declared.stops.RunStop.{RunStop}
use Rattle.run_watch.specs.Runs.{Begins, IsOffPoints, Reaches, Scene, Sight, Spot, run_stop}
use Rattle.run_verdicts.specs.Points.{EndsAtPoint, IsAcceptedCode}
use Rattle.run_verdicts.proofs.OnPoints.{on_points}
use Rattle.run_verdicts.proofs.WordThere.{fetches_there}

-- a run that is at a point isn't off the points
pub never_off : (scene : Scene) (a : Spot) → EndsAtPoint scene a → IsOffPoints scene a → ⊥
never_off scene a h off =
    off (subst (Contains (places_of scene.points.points)) h.at.place
    (Contains-map (λ (c : CodePoint). c.point) scene.points.points h.c (item_there scene.points.points h.i h.c h.at.code)))

some_stop : (why : Stop) (other : RunStop) → run_stop why ≡ Some other → run_stop why ≢ None
some_stop why other is none = cc

-- an instruction that is fetched and means something stops the machine by EBREAK or ECALL alone
known_stop : (m : Hart) (at : Fetched) (instr : Instr) (why : Stop) → fetched m ≡ Some at
    → MeansWithLength at.word at.length instr → StopsWith m why → run_stop why ≢ None
known_stop m at instr why is means (outside none e) = cc
known_stop m at instr why is means (illegal other there nothing e) =
    let same : at ≡ other = (let both = sym is ∙ there in cc both) in
    absurd (nothing instr (subst (λ (f : Fetched). MeansWithLength f.word f.length instr) same means))
known_stop m at instr why is means (breaks other there e) = some_stop why _ (ap run_stop e)
known_stop m at instr why is means (exits other there code e) = some_stop why _ (ap run_stop e)
known_stop m at instr why is means (calls other there code e) = some_stop why _ (ap run_stop e)

module _ (image : Image) (scene : Scene) (limit : ℕ) (is : IsAcceptedCode image scene.points) where
  abbrev points : FlowPoints
  points = scene.points

  pub ends_at_point : (regs : List ℕ) (origin last : Spot) (seen : List Sight) → Begins image regs origin
      → Reaches scene limit origin seen last → EndsAtPoint scene last
  ends_at_point regs origin last seen begins way =
      let on = (on_points image scene limit is regs origin last seen begins way).onto in
      let unit = (on_points image scene limit is regs origin last seen begins way).unit in
      let i = number_at points.points on.at on.there in
      let m = hart_of last.machine in
      let pc : m.pc ≡ on.at.point.address = sym (ap (λ (q : Point). q.address) on.place) in
      record {
        i = i.0;
        c = on.at;
        at = record { code = i.1; place = on.place };
        stops = λ has why.
            known_stop m (fetched_as on.at.word on.at.length) on.at.instr why
            (ap (fetch m.unit m.code m.memory) pc ∙ fetches_there image points is.points_are on.at on.there m pc unit has)
            (code_of image points is.points_are on.at on.there).instr.means;
      }
