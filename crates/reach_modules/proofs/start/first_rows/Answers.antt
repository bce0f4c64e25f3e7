use Rattle.std.proofs.Common.{ap, ◌∙◌, ◌++◌, set}
use Rattle.std.proofs.lemmas.Result.{IfOk-weaker}
use Rattle.row_images.specs.States.{Spans}
use Rattle.affine_prog.specs.Programs.{slots_of}
use Rattle.affine_prog.specs.Laws.{IsOpening}
use Rattle.reach_modules.specs.Made.{MakesEach, opened}
use Rattle.reach_modules.specs.Moves.{IsFirst}
use Rattle.reach_modules.proofs.Lookups.{positions_below}
use Rattle.reach_modules.proofs.Starting.{firsts_span}
use Rattle.reach_modules.proofs.start.first_rows.Goals as goal

pub push_opened-requires : goal.push_opened-requires
push_opened-requires c = positions_below c.args.program.now.registers c.in_ok-registers.registers c.as_slice.result.now c.in_ok-registers.ensures c.as_slice.ensures

pub returns : goal.returns
returns c =
    let p = c.args.program.now in let given = c.as_slice.result.now in let none = c.new-starts.result in let listed = c.as_slice-2.result.now in
    IfOk-weaker c.opened.result (MakesEach (IsOpening p.registers (slots_of p p.start)) listed) (λ rows. Spans rows (IsFirst p))
    (λ rows each. firsts_span p c.in_ok-registers.registers given none c.push_opened.new.rows listed rows c.in_ok-registers.ensures c.as_slice.ensures c.new-starts.ensures
    (c.in_ok-push_opened.ensures ∙ ap (λ kept. none ++ opened given kept 1) (c.with.ensures ∙ ap (λ zeros. set zeros 16 1) c.zero.ensures)) c.as_slice-2.ensures each)
    c.opened.ensures
