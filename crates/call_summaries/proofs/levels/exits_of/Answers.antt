use Rattle.std.proofs.Common.{ℕ, List, ◌<◌, ◌+◌, length, get_or, set, ap, sym, subst, ◌∙◌, arith}
use Rattle.std.proofs.lemmas.List.{get_or_default}
use Rattle.affine_prog.specs.declared.Proc.{Proc}
use Rattle.call_summaries.proofs.Moving.{MovedSoFar, moved_none, exit_within, moved_more}
use Rattle.call_summaries.proofs.levels.exits_of.Goals as goal

abbrev none : Proc
none = record { entry = 0; exit = 0; slots = 0 }

pub loop-proc-init : goal.loop-proc-init
loop-proc-init c = moved_none c.args.program.now c.args.levels.items c.new-exits.result.items c.new-exits.ensures.items

pub index_mut-requires : goal.index_mut-requires
index_mut-requires c =
    let items = c.as_slice-proc-items.result.now in let n = c.loop-proc.proc-index in let proc = get_or items n none in let procs = c.args.program.now.procs in
    let within : n < length procs = let l = ap (λ (l : List Proc). length l) c.as_slice-proc-items.ensures in let t = c.loop-proc-test.true in omega arith in
    let is = ap (λ (l : List Proc). get_or l n none) c.as_slice-proc-items.ensures ∙ get_or_default procs n none proc within in
    subst (λ (l : ℕ). proc.exit < l) (sym c.loop-proc.levels.ok.0)
    (exit_within c.args.program.now c.requires.formed c.args.levels.items c.loop-proc.levels.items c.loop-proc.exits.items n c.requires.nodes c.loop-proc.invariant proc within is)

pub loop-proc-preserved : goal.loop-proc-preserved
loop-proc-preserved c =
    let items = c.as_slice-proc-items.result.now in let n = c.loop-proc.proc-index in let proc = get_or items n none in let procs = c.args.program.now.procs in
    let within : n < length procs = let l = ap (λ (l : List Proc). length l) c.as_slice-proc-items.ensures in let t = c.loop-proc-test.true in omega arith in
    let is = ap (λ (l : List Proc). get_or l n none) c.as_slice-proc-items.ensures ∙ get_or_default procs n none proc within in
    subst (λ (b : List (List ℕ)). MovedSoFar c.args.program.now c.args.levels.items (set c.loop-proc.levels.items proc.exit b) c.push.new.self.items (n + 1)) (sym (c.replace-basis.ensures.after ∙ c.new.ensures))
    (moved_more c.args.program.now c.requires.formed c.args.levels.items c.loop-proc.levels.items c.loop-proc.exits.items n c.requires.nodes c.loop-proc.invariant proc within is
    c.replace-basis.result c.push.new.self.items
    (c.replace-basis.ensures.value ∙ c.index_mut.ensures.value ∙ ap (λ (d : List (List ℕ)). get_or c.loop-proc.levels.items proc.exit d) (sym c.replace-basis.ensures.value)) c.in-Ok.ensures.items)
