-- What is written and what stands for the entries to come is the whole text.
use Rattle.std.proofs.Common.{◌≡◌, ◌++◌, drop}
use Rattle.std.specs.List.{flat_map}
use Rattle.proof_text.specs.Text.{entry_text}
use Rattle.proof_text.proofs.writer.push_entries.Given as goal

abbrev pub invariant-loop-entry : goal.invariant-loop-entry
invariant-loop-entry l =
    l.text.items ++ flat_map entry_text (drop l.entry-index l.entries) ≡ l.initial.text.items ++ flat_map entry_text l.entries
