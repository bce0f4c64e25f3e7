use Rattle.std.proofs.Common.{◌+◌, ◌-◌, length, take, refl}
use Rattle.row_read.specs.Fronts.{IsReadUpTo}
use Rattle.row_read.proofs.Ahead.{ahead, begins}
use Rattle.row_read.proofs.Stops.{ended, stopped}
use Rattle.row_read.proofs.fronts.read_fronts.Goals as goal

pub loop-word-init : goal.loop-word-init
loop-word-init c = begins c.args.names.now c.args.procedure c.args.text.now c.requires.shape

pub read_front-requires-clause-shape : goal.read_front-requires-clause-shape
read_front-requires-clause-shape c =
    let a = ahead c.args.names.now c.args.procedure c.args.text.now c.loop-word.rest.now c.in-Some.word.now c.in-Some.behind.now c.loop-word.place
    c.loop-word.invariant c.in-Some.ensures in
    record { terms = take (c.loop-word.place + 1) a.terms; constant = 0; fit = a.front_fit; text_is = a.front_is }

pub returns-in-Err : goal.returns-in-Err
returns-in-Err c =
    let a = ahead c.args.names.now c.args.procedure c.args.text.now c.loop-word.rest.now c.in-Some.word.now c.in-Some.behind.now c.loop-word.place
    c.loop-word.invariant c.in-Some.ensures in
    stopped c.args.names.now c.args.procedure c.args.text.now c.loop-word.rest.now c.in-Some.behind.now c.loop-word.place
    (length c.args.text.now - length c.loop-word.rest.now + length c.in-Some.word.now) (c.loop-word.place + 1) c.in-Err.refusal a refl
    (c.in-Err.ensures (take (c.loop-word.place + 1) a.terms) 0 a.front_fit a.front_is)

pub loop-word-preserved : goal.loop-word-preserved
loop-word-preserved c =
    let a = ahead c.args.names.now c.args.procedure c.args.text.now c.loop-word.rest.now c.in-Some.word.now c.in-Some.behind.now c.loop-word.place
    c.loop-word.invariant c.in-Some.ensures in
    let told = c.in-Ok.ensures (take (c.loop-word.place + 1) a.terms) 0 a.front_fit a.front_is in
    a.next told.0

pub returns : goal.returns
returns c =
    let u : IsReadUpTo c.args.names.now c.args.procedure c.args.text.now c.loop-word.rest.now c.loop-word.place = c.loop-word.invariant in
    ended c.args.names.now c.args.procedure c.args.text.now c.loop-word.rest.now c.loop-word.place (c.loop-word.place + 1) c.read_front-2.result u
    c.in_default.ensures refl (c.read_front-2.ensures u.terms u.constant u.fit u.text_is)
