-- Each point ends a walk of its procedure.
use Rattle.std.proofs.Common.{◌≡◌, ◌⊎◌, ℕ, List, [], ◌∷◌, Contains, Ok, refl, sym, ap, subst, ◌∙◌, inl, inr}
use Rattle.std.proofs.lemmas.List.Elements.{All-contains}
use Rattle.flow_points.specs.Flows.{HasFlow, IsCode}
use Rattle.flow_points.specs.Walks.{FlowWalk, begin as begin_flow, onward as onward_flow, point, successors_of}
use Rattle.flow_points.specs.PointLists.{FlowPoints, HasCode}
use Rattle.flow_points.specs.declared.code_points.Point.{Point}
use Rattle.flow_points.specs.declared.code_points.Flow.{Flow}
use Rattle.flow_points.specs.declared.code_points.Flow.TheVariants.{Next, Jump, Branch, Call, Return, Halt}
use Rattle.flow_points.specs.declared.code_points.CodePoint.{CodePoint}
use Rattle.flow_points.proofs.Cited.{cons_cases, from_map, judged_once, same_flow}
use Rattle.frame_offsets.specs.Frames.{FrameWalk, begin, goes_on}
use Rattle.frame_offsets.proofs.Walking.{extended}

-- where the flow goes on: in the procedure, or at the entry of another
stays_or_enters : (p : ℕ) (flow : Flow) (to : Point) → Contains (successors_of p flow) to
    → Contains (goes_on p flow) to ⊎ (to ≡ point to.proc_entry to.proc_entry)
stays_or_enters p (Next n) to h = inl h
stays_or_enters p (Jump t) to h = inl h
stays_or_enters p (Branch n t) to h = inl h
stays_or_enters p (Call t n) to h =
    elim (cons_cases (point t t) (point p n ∷ []) to h) [
      | inl e ↦ inr (sym e ∙ ap (λ (q : Point). point q.proc_entry q.proc_entry) e)
      | inr k ↦ inl k
    ]
stays_or_enters p Return to h = inl h
stays_or_enters p Halt to h = inl h

module _ (points : FlowPoints) (has : HasCode points) where
  entered : (c : CodePoint) (to : Point) → Contains points.points c → c.point ≡ to → to ≡ point to.proc_entry to.proc_entry
      → (walk : List CodePoint) × FrameWalk points.points c.point.proc_entry walk c
  entered c to there e is =
      ([], begin [] c refl there (e ∙ is ∙ ap (λ (q : Point). point q.proc_entry q.proc_entry) (sym e)))

  walked : (to : Point) → FlowWalk has.fetches points.entry to → (c : CodePoint) → Contains points.points c → c.point ≡ to
      → (walk : List CodePoint) × FrameWalk points.points c.point.proc_entry walk c
  walked to (begin_flow start is) c there e = entered c start there e (is ∙ ap (λ (q : Point). point q.proc_entry q.proc_entry) (sym is))
  walked to (onward_flow from next flow before flows goes) c there e =
      let found = from_map (λ (d : CodePoint). d.point) points.points from (has.are.all from before) in
      let code = All-contains (IsCode has.fetches) points.points found.0 has.are.code found.1 in
      let same = same_flow found.0.flow flow
      (judged_once has.fetches from.address (Ok found.0.flow) (Ok flow) (subst (λ (q : Point). HasFlow has.fetches q.address found.0.flow) found.2 code.flow) flows) in
      elim (stays_or_enters from.proc_entry flow next goes) [
        | inl stays ↦
            let earlier = walked from before found.0 found.1 found.2 in
            let here = subst (λ (q : Point). Contains (goes_on found.0.point.proc_entry found.0.flow) q) (sym e)
            (subst (λ (f : Flow). Contains (goes_on found.0.point.proc_entry f) next) (sym same)
            (subst (λ (q : Point). Contains (goes_on q.proc_entry flow) next) (sym found.2) stays)) in
            (found.0 ∷ earlier.0, extended points.points earlier.0 found.0 c earlier.1 there here)
        | inr enters ↦ entered c next there e enters
      ]

pub has_walk : (points : FlowPoints) (c : CodePoint) → HasCode points → Contains points.points c
    → (walk : List CodePoint) × FrameWalk points.points c.point.proc_entry walk c
has_walk points c has there =
    walked points has c.point (All-contains (λ (d : CodePoint). FlowWalk has.fetches points.entry d.point) points.points c has.are.only there) c there refl
