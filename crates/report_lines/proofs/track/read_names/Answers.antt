use Rattle.std.proofs.Common.{List, ℕ, [], ◌∷◌, ◌++◌, ap, sym, ◌∙◌, append_assoc, subst}
use Rattle.report_lines.specs.Parts.{parts_of}
use Rattle.report_lines.specs.Tracks.{AreReadNames}
use Rattle.report_lines.proofs.Cuts.{one_part, parts_cut}
use Rattle.report_lines.proofs.Listed.{push_refused, pushed}
use Rattle.report_lines.proofs.track.read_names.Goals as goal

pub returns-in-Err : goal.returns-in-Err
returns-in-Err c =
    let so_far = c.loop-text.invariant in
    let cut = ap (parts_of 44) c.in-Some.ensures.0 ∙ parts_cut 44 c.in-Some.text.now c.in-Some.behind.now c.in-Some.ensures.1 in
    push_refused (parts_of 44 c.args.list.now) so_far.0 c.in-Some.text.now (parts_of 44 c.in-Some.behind.now) c.loop-text.names c.push_name.new.names c.in-Err.fault
    (so_far.1 ∙ ap (λ (ps : List (List ℕ)). so_far.0 ++ ps) cut) c.in-Err.ensures

pub loop-text-preserved : goal.loop-text-preserved
loop-text-preserved c =
    let so_far = c.loop-text.invariant in
    let cut = ap (parts_of 44) c.in-Some.ensures.0 ∙ parts_cut 44 c.in-Some.text.now c.in-Some.behind.now c.in-Some.ensures.1 in (
      so_far.0 ++ c.in-Some.text.now ∷ [],
      so_far.1 ∙ ap (λ (ps : List (List ℕ)). so_far.0 ++ ps) cut ∙ sym (append_assoc so_far.0 (c.in-Some.text.now ∷ []) (parts_of 44 c.in-Some.behind.now)),
      pushed so_far.0 c.in-Some.text.now c.loop-text.names c.push_name.new.names c.in-Ok.field-0 so_far.2 c.in-Ok.ensures,
    )

pub returns-in-Err-push_name : goal.returns-in-Err-push_name
returns-in-Err-push_name c =
    let so_far = c.loop-text.invariant in
    push_refused (parts_of 44 c.args.list.now) so_far.0 c.loop-text.rest.now [] c.loop-text.names c.push_name-2.new.names c.in-Err-push_name.fault
    (so_far.1 ∙ ap (λ (ps : List (List ℕ)). so_far.0 ++ ps) (one_part 44 c.loop-text.rest.now c.in_default.ensures)) c.in-Err-push_name.ensures

pub returns-in-Ok-push_name : goal.returns-in-Ok-push_name
returns-in-Ok-push_name c =
    let so_far = c.loop-text.invariant in
    let all = so_far.1 ∙ ap (λ (ps : List (List ℕ)). so_far.0 ++ ps) (one_part 44 c.loop-text.rest.now c.in_default.ensures) in
    subst (λ (ts : List (List ℕ)). AreReadNames ts c.push_name-2.new.names) (sym all)
    (pushed so_far.0 c.loop-text.rest.now c.loop-text.names c.push_name-2.new.names c.in-Ok-push_name.field-0 so_far.2 c.in-Ok-push_name.ensures)
