use Rattle.std.proofs.Common.{◌≡◌, ◌<◌, ◌^◌, List, length, slice_get, AllPairs, Contains, IsSomeAnd, ap, subst, sym, ◌∙◌, rules, arith}
use Rattle.flow_points.specs.Walks.{point}
use Rattle.flow_points.specs.PointLists.{FlowPoints, IsBefore, places_of}
use Rattle.flow_points.specs.declared.code_points.CodePoint.{CodePoint}
use Rattle.flow_points.proofs.Ascent.{absent, found}
use Rattle.flow_points.proofs.points.Points.find.Goals as goal

pub overflow_cast-result : goal.overflow_cast-result
overflow_cast-result c =
    let few = c.self.invariant.are.few in
    let lt : c.in-Ok.at < length c.as_slice.result.now = c.in-Ok.ensures.within in
    let same = ap length c.as_slice.ensures in
    let small : c.in-Ok.at < 2 ^ 32 = omega arith in
    search rules

pub returns-in-Ok-clause-found : goal.returns-in-Ok-clause-found
returns-in-Ok-clause-found c =
    let lt : c.in-Ok.at < length c.as_slice.result.now = c.in-Ok.ensures.within in
    let here = found c.as_slice.result.now (point c.args.proc_entry c.args.address) c.in-Ok.at lt c.in-Ok.ensures.place in
    subst (λ (ps : List CodePoint). IsSomeAnd (slice_get ps c.in-Ok.at) (λ d. d.point ≡ point c.args.proc_entry c.args.address))
    (c.as_slice.ensures ∙ ap (λ (v : FlowPoints). v.points) c.self.view_is) here

pub returns-in-Err-clause-none : goal.returns-in-Err-clause-none
returns-in-Err-clause-none c =
    let p = point c.args.proc_entry c.args.address in
    λ there. absent c.as_slice.result.now p c.in-Err.field-0
    (subst (λ (ps : List CodePoint). AllPairs (λ d e. IsBefore d.point e.point) ps) (sym c.as_slice.ensures) c.self.invariant.are.ascending)
    c.in-Err.ensures.place
    (subst (λ (ps : List CodePoint). Contains (places_of ps) (point c.args.proc_entry c.args.address))
    (sym (c.as_slice.ensures ∙ ap (λ (v : FlowPoints). v.points) c.self.view_is)) there)
