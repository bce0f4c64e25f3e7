use Rattle.gen_elf.proofs.CodeAdded.{added_none, added_next}
use Rattle.gen_elf.proofs.code.push_code.Goals as goal

pub loop-instr-init : goal.loop-instr-init
loop-instr-init c = added_none c.args.file.now.items

pub loop-instr-preserved : goal.loop-instr-preserved
loop-instr-preserved c =
    added_next _ _ _ c.encode.result c.args.code.now c.loop-instr.instr-index _ c.loop-instr-test.true c.loop-instr.invariant
    c.encode.ensures.means (rw c.from.ensures at c.in_ok-push_number.ensures)
