use Rattle.std.proofs.Common.{◌≡◌, arith}
use Rattle.gen_elf.specs.Generated.{start_code}
use Rattle.gen_elf.proofs.CodeAdded.{added_none, added_more, added_procedure}
use Rattle.gen_elf.proofs.generator.push_all_code.Goals as goal

pub loop-i-init : goal.loop-i-init
loop-i-init c = added_none c.push_code.new.file.items

pub loop-i-preserved : goal.loop-i-preserved
loop-i-preserved c =
    added_procedure c.args.n _ _ _ c.loop-i.i c.loop-i.invariant (rw c.procedure_code.ensures.code at c.in_ok-push_code-2.ensures)

pub returns : goal.returns
returns c =
    let all : c.loop-i.i ≡ c.args.n = omega arith in
    rw all at (added_more _ _ _ start_code _ (rw c.start_code.ensures.code at c.in_ok-push_code.ensures) c.loop-i.invariant)
