-- What is written and what stands for the heads to come is the whole text.
use Rattle.std.proofs.Common.{◌≡◌, ◌++◌, drop}
use Rattle.std.specs.List.{flat_map}
use Rattle.proof_text.specs.Text.{head_text}
use Rattle.proof_text.proofs.writer.push_heads.Given as goal

abbrev pub invariant-loop-head : goal.invariant-loop-head
invariant-loop-head l =
    l.text.items ++ flat_map head_text (drop l.head-index l.heads) ≡ l.initial.text.items ++ flat_map head_text l.heads
