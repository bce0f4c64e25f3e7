-- What is written and what stands for the rows to come is the whole text.
use Rattle.std.proofs.Common.{◌≡◌, ◌++◌, drop}
use Rattle.std.specs.List.{flat_map}
use Rattle.proof_text.specs.Text.{row_text}
use Rattle.proof_text.proofs.writer.push_rows.Given as goal

abbrev pub invariant-loop-row : goal.invariant-loop-row
invariant-loop-row l =
    l.text.items ++ flat_map row_text (drop l.row-index l.rows) ≡ l.initial.text.items ++ flat_map row_text l.rows
