use Rattle.std.proofs.Common.{rules, ℕ, List, ◌<◌, length, get_or, ap, refl, sym, subst, ◌∙◌}
use Rattle.affine_prog.specs.declared.Proc.{Proc}
use Rattle.affine_prog.specs.Spans.{IsMapTo}
use Rattle.row_engine.proofs.Pushing.{grown_by, grown_not}
use Rattle.call_summaries.specs.Openings.{AreOpenings}
use Rattle.call_summaries.proofs.ByNumber.{slots_at, entry_at, slots_disjoint, entry_below}
use Rattle.call_summaries.proofs.OpeningAll.{opening_less, opens_one}
use Rattle.call_summaries.proofs.openings.open_one.Goals as goal

abbrev none : Proc
none = record { entry = 0; exit = 0; slots = 0 }

pub openings-requires : goal.openings-requires
openings-requires g c = slots_disjoint c.args.program.now c.args.p c.as_slice.result.now none c.requires.formed c.requires.proc c.as_slice.ensures

pub returns-in_err-rows : goal.returns-in_err-rows
returns-in_err-rows g c = grown_not 289 (IsMapTo c.args.program.now) c.args.nodes.now c.args.steps.now c.from_residual.result c.from_residual.ensures.0

pub offer-requires : goal.offer-requires
offer-requires g c =
    let fact : (get_or c.as_slice.result.now c.args.p none).entry < length c.args.nodes.now.bases = subst (λ (n : ℕ). (get_or c.as_slice.result.now c.args.p none).entry < n) (sym c.requires.nodes)
    (entry_below c.args.program.now c.args.p c.as_slice.result.now none c.requires.formed c.requires.proc c.as_slice.ensures) in
    (search rules, (search rules, fact))

pub returns : goal.returns
returns g c =
    let p = c.args.program.now in let proc = get_or c.as_slice.result.now c.args.p none in
    let slots_are = ap (λ (l : List Proc). (get_or l c.args.p none).slots) c.as_slice.ensures ∙ sym (slots_at p c.args.p none c.requires.proc) in
    let entry_is = ap (λ (l : List Proc). (get_or l c.args.p none).entry) c.as_slice.ensures ∙ sym (entry_at p c.args.p none c.requires.proc) in
    let apart = slots_disjoint p c.args.p c.as_slice.result.now none c.requires.formed c.requires.proc c.as_slice.ensures in
    let are = subst (AreOpenings p.registers proc.slots) (sym c.as_slice-2.ensures) c.in_ok-rows.ensures in
    grown_by
    (opening_less p c.requires.formed c.args.p c.requires.proc p.registers proc.slots proc.entry refl slots_are entry_is apart c.as_slice-2.result.now are)
    (opens_one p c.requires.formed c.args.p c.requires.proc p.registers proc.slots proc.entry refl slots_are entry_is apart c.as_slice-2.result.now are c.offer.new.self (c.offer.ensures.grows.leading c.known.ensures.leading))
    c.offer.ensures
