use Rattle.std.proofs.Common.{[], ◌∷◌, sym, ◌∙◌}
use Rattle.std.proofs.lemmas.Bool.{false≢true}
use Rattle.run_watch.specs.Moments.{moment_of}
use Rattle.run_watch.specs.Runs.{Scene, Spot, scene_of, sight_of}
use Rattle.run_watch.proofs.Turning.{IsHere, some_within, at_point, off_points, budget_at, altered_at, deep_at, can_step, tried_by, if_ok_then}
use Rattle.run_watch.proofs.Seeing.{zip_same, seen_none}
use Rattle.run_watch.proofs.turns.tried.Goals as goal

pub returns-in_default : goal.returns-in_default
returns-in_default g c =
    let scene : Scene = scene_of c.args.points.now c.args.offsets.now c.args.report.now c.args.code.now in
    let a : Spot = record { machine = c.args.machine.now; stack = c.args.stack.now } in (
      [],
      off_points scene c.args.limit a c.closing-here.result c.procedure.result c.stop_off_points.result c.closing-here.ensures
          c.procedure.ensures c.in_default.ensures.none c.stop_off_points.ensures.spent c.stop_off_points.ensures.lost,
      zip_same _ _ (λ w. seen_none _ _),
    )

pub code-code_point-requires : goal.code-code_point-requires
code-code_point-requires g c = some_within _ _ _ c.in-Some.ensures.found

pub returns-then-here-limit : goal.returns-then-here-limit
returns-then-here-limit g c =
    let scene : Scene = scene_of c.args.points.now c.args.offsets.now c.args.report.now c.args.code.now in
    let a : Spot = record { machine = c.args.machine.now; stack = c.args.stack.now } in
    let is : IsHere scene a c.in-Some.at c.code-code_point.result c.closing-here.result (moment_of c.context-ctx.result) =
    record {
      at = at_point scene a c.in-Some.at c.code-code_point.result c.closing-here.result c.procedure.result c.closing-here.ensures
          c.procedure.ensures c.code-code_point.ensures c.in-Some.ensures.found;
      closing = c.closing-here.ensures;
      moment_is = c.context-ctx.ensures;
    } in (
      sight_of (moment_of c.context-ctx.result) c.closing-here.result ∷ [],
      budget_at scene c.args.limit a c.in-Some.at c.code-code_point.result c.closing-here.result (moment_of c.context-ctx.result)
          is c.if-here-limit.true,
      c.show.ensures,
    )

pub returns-then-not-has_word : goal.returns-then-not-has_word
returns-then-not-has_word g c =
    let scene : Scene = scene_of c.args.points.now c.args.offsets.now c.args.report.now c.args.code.now in
    let a : Spot = record { machine = c.args.machine.now; stack = c.args.stack.now } in
    let is : IsHere scene a c.in-Some.at c.code-code_point.result c.closing-here.result (moment_of c.context-ctx.result) =
    record {
      at = at_point scene a c.in-Some.at c.code-code_point.result c.closing-here.result c.procedure.result c.closing-here.ensures
          c.procedure.ensures c.code-code_point.ensures c.in-Some.ensures.found;
      closing = c.closing-here.ensures;
      moment_is = c.context-ctx.ensures;
    } in (
      [],
      altered_at scene c.args.limit a c.in-Some.at c.code-code_point.result c.closing-here.result (moment_of c.context-ctx.result)
          is c.if-here-limit.false (λ same. false≢true (sym c.if-not-has_word.true ∙ c.has_word.ensures.1 same)),
      zip_same _ _ (λ w. seen_none _ _),
    )

pub returns-then-is_too_deep : goal.returns-then-is_too_deep
returns-then-is_too_deep g c =
    let scene : Scene = scene_of c.args.points.now c.args.offsets.now c.args.report.now c.args.code.now in
    let a : Spot = record { machine = c.args.machine.now; stack = c.args.stack.now } in
    let is : IsHere scene a c.in-Some.at c.code-code_point.result c.closing-here.result (moment_of c.context-ctx.result) =
    record {
      at = at_point scene a c.in-Some.at c.code-code_point.result c.closing-here.result c.procedure.result c.closing-here.ensures
          c.procedure.ensures c.code-code_point.ensures c.in-Some.ensures.found;
      closing = c.closing-here.ensures;
      moment_is = c.context-ctx.ensures;
    } in (
      sight_of (moment_of c.context-ctx.result) c.closing-here.result ∷ [],
      deep_at scene c.args.limit a c.in-Some.at c.code-code_point.result c.closing-here.result (moment_of c.context-ctx.result)
          c.earlier_count.result c.earlier_count.ensures is c.if-here-limit.false (c.has_word.ensures.0 c.if-not-has_word.false)
          (c.is_too_deep.ensures.0 c.if-is_too_deep.true),
      c.show-then-is_too_deep.ensures,
    )

pub returns : goal.returns
returns g c =
    let scene : Scene = scene_of c.args.points.now c.args.offsets.now c.args.report.now c.args.code.now in
    let a : Spot = record { machine = c.args.machine.now; stack = c.args.stack.now } in
    let is : IsHere scene a c.in-Some.at c.code-code_point.result c.closing-here.result (moment_of c.context-ctx.result) =
    record {
      at = at_point scene a c.in-Some.at c.code-code_point.result c.closing-here.result c.procedure.result c.closing-here.ensures
          c.procedure.ensures c.code-code_point.ensures c.in-Some.ensures.found;
      closing = c.closing-here.ensures;
      moment_is = c.context-ctx.ensures;
    } in
    if_ok_then _ _ c.step.result
    (λ outcome stepped. (
      stepped.0,
      tried_by scene c.args.limit a _ c.in-Some.at c.code-code_point.result c.closing-here.result (moment_of c.context-ctx.result)
          stepped.0 outcome c.requires.limit c.requires.within is
          (can_step scene c.args.limit a c.in-Some.at c.code-code_point.result c.closing-here.result (moment_of c.context-ctx.result)
          c.earlier_count.result c.earlier_count.ensures is c.if-here-limit.false (c.has_word.ensures.0 c.if-not-has_word.false)
          (λ deep. false≢true (sym c.if-is_too_deep.false ∙ c.is_too_deep.ensures.1 deep)))
          stepped.1,
      stepped.2,
    ))
    c.step.ensures
