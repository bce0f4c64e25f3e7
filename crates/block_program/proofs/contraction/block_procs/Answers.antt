use Rattle.std.proofs.Common.{◌≡◌, ◌<◌, ◌+◌, ap, sym, subst, ◌∙◌, arith, length, List, take, slice_index_or}
use Rattle.std.specs.Prelude.{unwrap_or, None}
use Rattle.std.specs.List.{AllZip}
use Rattle.std.proofs.lemmas.List.{get_or_default}
use Rattle.std.proofs.lemmas.List.Elements.{all_zip_more}
use Rattle.affine_prog.specs.declared.Proc.{Proc}
use Rattle.merged_heads.specs.BlockPrograms.{IsBlockProc}
use Rattle.block_program.specs.Numbers.{IsNumber}
use Rattle.block_program.proofs.Procs.{place_read}
use Rattle.block_program.proofs.Placed.{entry_is_head, exit_is_head, head_number}
use Rattle.block_program.proofs.contraction.block_procs.Goals as goal

pub number_of-entry-requires : goal.number_of-entry-requires
number_of-entry-requires c =
    let h = entry_is_head c.args.program.now c.requires.formed c.args.merging.now c.requires.merged c.loop-proc.proc-index (record { entry = 0; exit = 0; slots = 0 }) (place_read _ _ _ c.as_slice-proc-items.ensures c.loop-proc-test.true) in
    omega (arith, h.node, ap (λ (ps : List Proc). (slice_index_or ps c.loop-proc.proc-index (record { entry = 0; exit = 0; slots = 0 })).entry) c.as_slice-proc-items.ensures, c.requires.numbers.long)

pub number_of-exit-requires : goal.number_of-exit-requires
number_of-exit-requires c =
    let h = exit_is_head c.args.program.now c.requires.formed c.args.merging.now c.requires.merged c.loop-proc.proc-index (record { entry = 0; exit = 0; slots = 0 }) (place_read _ _ _ c.as_slice-proc-items.ensures c.loop-proc-test.true) in
    omega (arith, h.node, ap (λ (ps : List Proc). (slice_index_or ps c.loop-proc.proc-index (record { entry = 0; exit = 0; slots = 0 })).exit) c.as_slice-proc-items.ensures, c.requires.numbers.long)

pub loop-proc-preserved : goal.loop-proc-preserved
loop-proc-preserved c =
    let program = c.args.program.now in
    let heads = c.args.heads.now in
    let k = c.loop-proc.proc-index in
    let d : Proc = record { entry = 0; exit = 0; slots = 0 } in
    let within : k < length program.procs = omega (arith, c.loop-proc-test.true, ap length c.as_slice-proc-items.ensures) in
    let p : Proc = slice_index_or program.procs k d in
    let read : slice_index_or c.as_slice-proc-items.result.now k d ≡ p = ap (λ (xs : List Proc). slice_index_or xs k d) c.as_slice-proc-items.ensures in
    let one : IsNumber heads p.entry c.number_of-entry.result =
    subst (IsNumber heads p.entry) (sym (c.number_of-entry.ensures ∙ ap (λ (x : Proc). unwrap_or (slice_index_or c.args.numbers.now x.entry None) 0) read)) (head_number program c.args.merging.now heads c.args.numbers.now c.requires.numbers p.entry (entry_is_head program c.requires.formed c.args.merging.now c.requires.merged k d within)) in
    let two : IsNumber heads p.exit c.number_of-exit.result =
    subst (IsNumber heads p.exit) (sym (c.number_of-exit.ensures ∙ ap (λ (x : Proc). unwrap_or (slice_index_or c.args.numbers.now x.exit None) 0) read)) (head_number program c.args.merging.now heads c.args.numbers.now c.requires.numbers p.exit (exit_is_head program c.requires.formed c.args.merging.now c.requires.merged k d within)) in
    let pushed = c.in_ok-push.ensures {u = tt} in
    subst (AllZip (IsBlockProc heads) (take (k + 1) program.procs)) (sym pushed.ok)
    (all_zip_more (IsBlockProc heads) program.procs c.loop-proc.procs k p _ within (get_or_default program.procs k d p within) c.loop-proc.invariant
    (record { entry_within = one.within; entry = one.is; exit_within = two.within; exit = two.is; slots = ap (λ (x : Proc). x.slots) read }))
