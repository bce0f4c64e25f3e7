use Rattle.std.proofs.Common.{◌≡◌, ap, ◌∙◌, flat_map}
use Rattle.std.proofs.lemmas.Result.{IfOk-weaker}
use Rattle.affine_prog.specs.Programs.{slots_of, owner_of}
use Rattle.reach_modules.specs.Made.{MakesEach, returned_of}
use Rattle.reach_modules.specs.Moves.{IsReturn}
use Rattle.reach_modules.proofs.Lookups.{returned_makes}
use Rattle.reach_modules.proofs.edges.returned.Goals as goal

pub returns : goal.returns
returns c =
    let program = c.args.program.now in let s = slots_of program (owner_of program c.args.from) in let rows = c.args.rows.now in let exits = c.exit_rows-exits.result.now in let sets = c.sets_of.result in
    IfOk-weaker c.each_returned.result (λ all. all ≡ flat_map (returned_of sets.0 sets.1 exits) rows) (MakesEach (IsReturn program s c.args.callee) rows)
    (λ all e. returned_makes program c.requires.formed s c.args.callee sets.0 sets.1 exits rows all c.exit_rows-exits.ensures.rows c.exit_rows-exits.ensures.exact c.sets_of.ensures.registers
    (c.sets_of.ensures.slots ∙ ap (slots_of program) c.proc_of.ensures) e)
    c.each_returned.ensures
