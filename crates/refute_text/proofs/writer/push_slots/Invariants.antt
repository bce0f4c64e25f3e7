-- What is written and what stands for the names to come is the whole text.
use Rattle.std.proofs.Common.{◌≡◌, ◌++◌, drop}
use Rattle.refute_text.specs.Text.{slots_text}
use Rattle.refute_text.proofs.writer.push_slots.Given as goal

abbrev pub invariant-loop-i : goal.invariant-loop-i
invariant-loop-i l =
    l.text.items ++ slots_text l.procedure (drop l.i l.names) (drop l.i l.slots) ≡ l.initial.text.items ++ slots_text l.procedure l.names l.slots
