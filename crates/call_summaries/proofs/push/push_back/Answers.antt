use Rattle.std.proofs.Common.{ℕ, List, ap₂, ◌∙◌, sym, subst}
use Rattle.map_modules.specs.Matrices.{linear_extension}
use Rattle.affine_prog.specs.declared.Assign.{Assign}
use Rattle.affine_prog.specs.Spans.{IsMapTo}
use Rattle.affine_prog.proofs.Lemmas.{ArePlaced}
use Rattle.row_engine.specs.Growth.{Takes}
use Rattle.row_engine.proofs.Pushing.{grown_none, grown_all, grown_by, grown_not}
use Rattle.call_summaries.specs.Sound.{IsReturned}
use Rattle.call_summaries.specs.Offers.{Returned}
use Rattle.call_summaries.specs.Pushes.{BackBy}
use Rattle.call_summaries.proofs.ByNumber.{before_placed}
use Rattle.call_summaries.proofs.Pushing.{row_constant, return_less, return_pushes}
use Rattle.call_summaries.proofs.push.push_back.Goals as goal

pub returns-in-Do : goal.returns-in-Do
returns-in-Do g c =
    let p = c.args.program.now in let e = c.args.edge.now in
    grown_all (λ x. x) (grown_none 289 (IsMapTo p) c.args.nodes.now c.args.steps.now (subst (λ kind. BackBy p e.from e.to kind c.args.nodes.now c.args.nodes.now c.args.row.now) (sym c.in-Do.is) tt))

pub returns-in_err-callers-in-Call : goal.returns-in_err-callers-in-Call
returns-in_err-callers-in-Call g c = grown_not 289 (IsMapTo c.args.program.now) c.args.nodes.now c.args.steps.now c.from_residual.result c.from_residual.ensures.0

pub take_callers-requires-clause-placed : goal.take_callers-requires-clause-placed
take_callers-requires-clause-placed g c =
    subst ArePlaced (sym c.as_slice.ensures) (before_placed c.args.program.now c.requires.formed c.args.edge.now c.requires.edge c.in-Call.callee c.in-Call.before c.in-Call.is)

pub take_callers-requires-clause-callers : goal.take_callers-requires-clause-callers
take_callers-requires-clause-callers g c =
    row_constant c.args.program.now c.requires.formed c.args.nodes.now c.known.ensures.leading c.requires.sound c.args.edge.now.from c.as_slice-in-Call.result.now
    (c.as_slice-in-Call.ensures ∙ c.in_ok-callers-in-Call.ensures)

pub returns-in_ok-callers-in-Call : goal.returns-in_ok-callers-in-Call
returns-in_ok-callers-in-Call g c =
    let callers_are = c.as_slice-in-Call.ensures ∙ c.in_ok-callers-in-Call.ensures in
    let extended_is = c.extend_call-extended.ensures.linear ∙ ap₂ (λ (r k : ℕ). linear_extension r k c.args.row.now) c.sets_at-sets.ensures.registers c.sets_at-sets.ensures.slots in
    let own = subst (λ kind. IsReturned c.args.program.now kind c.args.row.now) c.in-Call.is c.requires.own in
    let takes = subst (λ (b : List Assign). Takes 289 (Returned b c.extend_call-extended.result c.args.edge.now.to c.as_slice-in-Call.result.now) c.args.nodes.now c.take_callers.new.nodes c.take_callers.result c.args.steps.now c.take_callers.new.steps)
    c.as_slice.ensures c.take_callers.ensures in
    grown_by
    (return_less c.args.program.now c.requires.formed c.args.edge.now c.requires.edge c.in-Call.callee c.in-Call.before c.in-Call.is c.args.nodes.now c.known.ensures.leading c.requires.sound c.args.row.now c.extend_call-extended.result
    own extended_is c.as_slice-in-Call.result.now callers_are)
    (return_pushes c.args.program.now c.requires.formed c.args.edge.now c.requires.edge c.in-Call.callee c.in-Call.before c.in-Call.is c.args.nodes.now c.known.ensures.leading c.requires.sound c.args.row.now c.extend_call-extended.result
    own extended_is c.as_slice-in-Call.result.now callers_are c.take_callers.new.nodes (takes.grows.leading c.known.ensures.leading))
    takes
