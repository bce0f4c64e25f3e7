-- An image has one list of points.
use Rattle.std.proofs.Common.{◌≡◌, ℕ, nat_eq, List, Ok, Contains, inl, inr, ap, sym, ◌∙◌, arith, subst}
use Rattle.std.specs.List.{dedup}
use Rattle.std.proofs.lemmas.List.Elements.{All-contains}
use Rattle.elf_image.specs.declared.fetched.Fetched.{Fetched}
use Rattle.flow_points.specs.Flows.{Fetches, HasFlow, HasInstr, IsCode}
use Rattle.flow_points.specs.Walks.{FlowWalk}
use Rattle.flow_points.specs.PointLists.{ArePoints, FlowPoints, IsBefore, entries_of}
use Rattle.flow_points.specs.declared.code_points.CodePoint.{CodePoint}
use Rattle.flow_points.specs.declared.code_points.Flow.{Flow}
use Rattle.flow_points.specs.declared.code_points.Point.{Point}
use Rattle.flow_points.proofs.Cited.{from_map, judged_once, same_flow}
use Rattle.flow_points.proofs.OneOutcome.{one_fetch, one_instr}
use Rattle.rv_instr.specs.declared.Instr.{Instr}
use Rattle.own_reports.proofs.OneList.{one_list}

apart : (p q : Point) → IsBefore p q → IsBefore q p → ⊥
apart p q (inl h) (inl k) = omega (arith, h, k)
apart p q (inl h) (inr k) = let e = k.0 in omega (arith, h, e)
apart p q (inr h) (inl k) = let e = h.0 in omega (arith, k, e)
apart p q (inr h) (inr k) = let l = h.1 in let m = k.1 in omega (arith, l, m)

abbrev fetched_of : CodePoint → Fetched
fetched_of c = record { word = c.word; length = c.length }

made : Point → Fetched → Instr → Flow → CodePoint
made p at instr flow = record { point = p; word = at.word; length = at.length; instr = instr; flow = flow }

from_parts : (c d : CodePoint) → c.point ≡ d.point → fetched_of c ≡ fetched_of d → c.instr ≡ d.instr → c.flow ≡ d.flow → c ≡ d
unfolding made
from_parts c d p at instr flow =
    let same : made c.point (fetched_of c) c.instr c.flow ≡ made d.point (fetched_of d) d.instr d.flow =
    λ i. made (p i) (at i) (instr i) (flow i) in
    same

module _ (fetches : Fetches) (entry : ℕ) where
  one_code : (c d : CodePoint) → IsCode fetches c → IsCode fetches d → c.point ≡ d.point → c ≡ d
  one_code c d h k is =
      let address : d.point.address ≡ c.point.address = ap (λ (p : Point). p.address) (sym is) in
      let instr = subst (λ (a : ℕ). HasInstr fetches a (fetched_of d) d.instr) address k.instr in
      let flow = subst (λ (a : ℕ). HasFlow fetches a d.flow) address k.flow in
      from_parts c d is (one_fetch fetches c.point.address (fetched_of c) (fetched_of d) h.instr.fetched instr.fetched)
      (one_instr fetches c.point.address (fetched_of c) (fetched_of d) c.instr d.instr h.instr instr)
      (same_flow c.flow d.flow (judged_once fetches c.point.address (Ok c.flow) (Ok d.flow) h.flow flow))

  within : (a b : FlowPoints) → ArePoints fetches entry a → ArePoints fetches entry b → (c : CodePoint) → Contains a.points c
      → Contains b.points c
  within a b h k c there =
      let walk = All-contains (λ (d : CodePoint). FlowWalk fetches entry d.point) a.points c h.only there in
      let found = from_map (λ (d : CodePoint). d.point) b.points c.point (k.all c.point walk) in
      let same = one_code found.0 c (All-contains (IsCode fetches) b.points found.0 k.code found.1)
      (All-contains (IsCode fetches) a.points c h.code there) found.2 in
      subst (Contains b.points) same found.1

  pub one_points : (a b : FlowPoints) → ArePoints fetches entry a → ArePoints fetches entry b → a ≡ b
  one_points a b h k =
      let points = one_list (λ (c : CodePoint) d. IsBefore c.point d.point) (λ c d. apart c.point d.point) a.points b.points
      h.ascending k.ascending (within a b h k) (within b a k h) in
      let procedures = h.procedures_are ∙ ap (λ (cs : List CodePoint). dedup nat_eq (entries_of cs)) points
      ∙ sym k.procedures_are in
      let entries = h.entry_is ∙ sym k.entry_is in
      λ i. record { entry = entries i; points = points i; procedures = procedures i }
