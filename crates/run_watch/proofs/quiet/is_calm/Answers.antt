use Rattle.std.proofs.Common.{rules, ◌≡◌, ◌+◌, List, length, None, IfSome, IsSomeAnd, find, option_map, refl, sym, subst, ap, ◌∙◌}
use Rattle.report_text.specs.Reports.{Ascend}
use Rattle.report_text.specs.declared.points.PointRows.{PointRows}
use Rattle.rv_step.specs.Machines.{hart_of}
use Rattle.affine_lift.specs.Lifting.{WritesSlots}
use Rattle.run_watch.specs.Activations.{AreValues}
use Rattle.run_watch.specs.Moments.{slots_by}
use Rattle.run_watch.specs.Runs.{Scene, Spot, scene_of, told_at, is_told_of}
use Rattle.run_watch.specs.Quiet.{IsLeft, stored_to, told_detail}
use Rattle.run_watch.proofs.Silent.{calm_at}
use Rattle.run_watch.proofs.quiet.is_calm.Goals as goal

pub told_near-requires : goal.told_near-requires
told_near-requires c = subst (λ (told : List PointRows). ∥ Ascend told ∥₁) (sym c.as_slice-2.ensures) c.args.report.now.ascending

pub returns-then-are_kept : goal.returns-then-are_kept
returns-then-are_kept c all =
    let scene : Scene = scene_of c.args.points.now c.args.offsets.now c.args.report.now c.args.code.now in
    let a : Spot = record { machine = c.args.machine.now; stack = c.args.stack.now } in
    let are : AreValues scene.names a.stack.last (hart_of a.machine) c.seen_words-words.result = search rules in
    let writes : WritesSlots scene.points.points scene.names c.args.code_point.now c.slot_writes.result =
    subst (λ o. IsSomeAnd o (λ d. WritesSlots scene.points.points scene.names d c.slot_writes.result)) c.requires.is_at.code c.slot_writes.ensures in
    let none : told_detail (told_at scene.told c.args.code_point.now.point) c.seen_words-words.result ≡ None =
    subst (λ o. told_detail (option_map (λ t. t.state) o) c.seen_words-words.result ≡ None)
    (c.told_near.ensures ∙ ap (λ (told : List PointRows). find (is_told_of c.args.code_point.now.point) told) c.as_slice-2.ensures) (c.if-are_kept.ensures refl) in
    let left : IfSome (stored_to c.args.instr (hart_of a.machine))
    (IsLeft (slots_by scene.names a.stack.earlier a.stack.last) (length a.stack.earlier + 1) c.slot_writes.result scene.code) = search rules in
    calm_at scene a c.args.at c.args.code_point.now c.args.instr c.seen_words-words.result c.slot_writes.result are writes none left
