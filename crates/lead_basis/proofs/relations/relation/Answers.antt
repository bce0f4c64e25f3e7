use Rattle.std.proofs.Common.{slice_set, ◌≡◌, ℕ, suc, ◌-◌, ◌<◌, List, ap, sym, subst, ◌∙◌, arith}
use Rattle.word_rows.specs.Rows.{lead}
use Rattle.lead_basis.proofs.Laws.{leads_at}
use Rattle.lead_basis.proofs.Settling.{relation_from, relation_step}
use Rattle.lead_basis.proofs.relations.relation.Goals as goal

pub loop-i-init : goal.loop-i-init
loop-i-init c =
    let word_fits = c.ranges.word.fits in
    let r = relation_from 17 c.args.at c.args.position c.args.word c.args.basis.now c.requires.basis c.requires.at c.requires.position (omega arith) c.requires.word c.requires.later in
    record { within = c.requires.at; done = rw (c.with-row.ensures ∙ ap (λ (x : List ℕ). slice_set x c.args.position c.args.word) c.zero.ensures) r }

pub settle-requires : goal.settle-requires
settle-requires c =
    let some = c.loop-i-test.true in
    let in_list = c.loop-i.invariant.within in
    let l = leads_at 17 c.args.basis.now (c.loop-i.i - 1) c.index-basis-i.result c.requires.basis (omega arith) in
    subst (λ (x : List ℕ). lead x < 17) (sym c.index-basis-i.is) l.within

pub loop-i-preserved : goal.loop-i-preserved
loop-i-preserved c =
    let some = c.loop-i-test.true in
    let in_list = c.loop-i.invariant.within in
    let up : suc (c.loop-i.i - 1) ≡ c.loop-i.i = omega arith in
    let more = relation_step 17 (c.loop-i.i - 1) c.args.position c.args.word c.args.basis.now c.index-basis-i.result c.loop-i.row c.requires.basis (omega arith) c.requires.position c.requires.word c.index-basis-i.is (rw up c.loop-i.invariant.done) in
    record { within = omega arith; done = rw c.settle.ensures more }
