use Rattle.std.proofs.Common.{ap, sym, ◌∙◌, arith, length, List, Option, ℕ, slice_index_or}
use Rattle.std.proofs.lemmas.List.{get_or-map}
use Rattle.affine_prog.specs.declared.Proc.{Proc}
use Rattle.merged_heads.proofs.check.are_heads.Goals as goal

pub bounds-numbers-proc : goal.bounds-numbers-proc
bounds-numbers-proc c =
    let d : Proc = record { entry = 0; exit = 0; slots = 0 } in
    let o = c.requires.formed.procs c.args.p c.requires.proc in
    let same = ap (λ (xs : List Proc). (slice_index_or xs c.args.p d).entry) c.as_slice.ensures ∙ sym (get_or-map (λ (p : Proc). p.entry) c.args.program.now.procs c.args.p d 0 c.requires.proc) in
    let long = ap (λ (xs : List (Option ℕ)). length xs) c.as_slice-numbers.ensures in
    omega (arith, o.entry, same, c.requires.long.edges_into, long)

pub bounds-numbers-proc-then-is_none : goal.bounds-numbers-proc-then-is_none
bounds-numbers-proc-then-is_none c =
    let d : Proc = record { entry = 0; exit = 0; slots = 0 } in
    let o = c.requires.formed.procs c.args.p c.requires.proc in
    let same = ap (λ (xs : List Proc). (slice_index_or xs c.args.p d).exit) c.as_slice.ensures ∙ sym (get_or-map (λ (p : Proc). p.exit) c.args.program.now.procs c.args.p d 0 c.requires.proc) in
    let long = ap (λ (xs : List (Option ℕ)). length xs) c.as_slice-numbers.ensures in
    omega (arith, o.exit, same, c.requires.long.edges_into, long)
