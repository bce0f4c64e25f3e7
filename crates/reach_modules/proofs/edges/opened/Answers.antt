use Rattle.std.proofs.Common.{◌≡◌, flat_map}
use Rattle.std.proofs.lemmas.Result.{IfOk-weaker}
use Rattle.affine_prog.specs.Programs.{slots_of}
use Rattle.affine_prog.specs.Laws.{IsOpening}
use Rattle.reach_modules.specs.Made.{MakesEach, opened_of}
use Rattle.reach_modules.proofs.Lookups.{opened_makes, positions_below}
use Rattle.reach_modules.proofs.edges.opened.Goals as goal

pub each_opened-requires : goal.each_opened-requires
each_opened-requires c = positions_below c.sets_of-sets.result.1 c.in_ok-slots.slots c.as_slice.result.now c.in_ok-slots.ensures c.as_slice.ensures

pub returns : goal.returns
returns c =
    let program = c.args.program.now in let q = c.args.callee in let rows = c.args.rows.now in let sets = c.sets_of-sets.result in let given = c.as_slice.result.now in let keep = c.extend_call-keep.result in
    IfOk-weaker c.each_opened.result (λ all. all ≡ flat_map (opened_of given keep) rows) (MakesEach (IsOpening program.registers (slots_of program q)) rows)
    (λ all e. opened_makes program c.requires.formed q sets.0 sets.1 c.in_ok-slots.slots given keep c.identity.result rows all c.requires.proc c.sets_of-sets.ensures.registers c.sets_of-sets.ensures.slots
    c.in_ok-slots.ensures c.as_slice.ensures c.identity.ensures c.extend_call-keep.ensures.linear e)
    c.each_opened.ensures
