use Rattle.std.proofs.Common.{◌≡◌, get_or, sym, subst, ◌∙◌, arith}
use Rattle.std.proofs.lemmas.Bool.{false≢true}
use Rattle.refute_path.specs.Gains.{Gains, IsBack}
use Rattle.refute_path.proofs.Gaining.{got_default, gains_none, no_return, still_within, back_more}
use Rattle.refute_path.proofs.turns.push_back.Goals as goal

pub returns-then-not-returns_from : goal.returns-then-not-returns_from
returns-then-not-returns_from g c =
    let p = c.args.program.now in let items = c.args.items.now in let x = get_or c.as_slice.result.now c.args.place c.index-as_slice-place.result in
    gains_none p items c.args.bases.now.items (IsBack p items c.args.place c.args.place c.args.e) c.requires.arena
    (λ u m (j, below, s).
    no_return p items c.args.place c.args.e x (got_default c.as_slice.result.now items c.args.place c.index-as_slice-place.result c.as_slice.ensures c.requires.place)
    (λ q w v before along same. false≢true (sym c.if-not-returns_from.true ∙ c.returns_from.ensures q w v before along same)) j u m s)

pub loop-j-init : goal.loop-j-init
loop-j-init g c =
    gains_none c.args.program.now c.args.items.now c.args.bases.now.items (IsBack c.args.program.now c.args.items.now c.args.place 0 c.args.e) c.requires.arena
    (λ u m (j, below, s). omega arith)

pub push_pair-requires-clause-arena : goal.push_pair-requires-clause-arena
push_pair-requires-clause-arena g c = c.loop-j.invariant.extends.arena

pub push_pair-requires-clause-caller : goal.push_pair-requires-clause-caller
push_pair-requires-clause-caller g c =
    let w = c.requires.place in let t = c.loop-j-test.true in
    still_within c.args.program.now c.args.items.now c.args.bases.now.items c.loop-j.items c.loop-j.bases.items c.loop-j.invariant.extends c.loop-j.j (omega arith)

pub push_pair-requires-clause-callee : goal.push_pair-requires-clause-callee
push_pair-requires-clause-callee g c =
    still_within c.args.program.now c.args.items.now c.args.bases.now.items c.loop-j.items c.loop-j.bases.items c.loop-j.invariant.extends c.args.place c.requires.place

pub loop-j-preserved : goal.loop-j-preserved
loop-j-preserved g c =
    back_more c.args.program.now c.args.items.now c.loop-j.items c.push_pair.new.items c.args.bases.now.items c.loop-j.bases.items c.push_pair.new.bases.items c.args.place c.args.e c.loop-j.j
    c.loop-j.invariant c.in_ok-push_pair.ensures

pub returns : goal.returns
returns g c =
    let e : c.loop-j.j ≡ c.args.place = let t = c.loop-j-test.false in let a = c.loop-j.auto.j-end in omega arith in
    subst (λ n. Gains c.args.program.now c.args.items.now c.loop-j.items c.args.bases.now.items c.loop-j.bases.items (IsBack c.args.program.now c.args.items.now c.args.place n c.args.e)) e c.loop-j.invariant
