-- The names so far have words as procedures.
use Rattle.std.proofs.Common.{All, take}
use Rattle.report_lines.specs.NameTexts.{IsAddressed}
use Rattle.row_read.proofs.row.are_addressed.Given as goal

abbrev pub invariant-loop-name : goal.invariant-loop-name
invariant-loop-name l = All IsAddressed (take l.name-index l.names)
