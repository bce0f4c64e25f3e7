use Rattle.std.proofs.Common.{subst, List}
use Rattle.report_text.specs.declared.names.Name.{Name}
use Rattle.report_lines.specs.Relations.{IsRelationReading}
use Rattle.report_read.proofs.StepsJudged.{relation_behind}
use Rattle.report_read.proofs.judging.relation_in.Goals as goal

pub returns-in-Some : goal.returns-in-Some
returns-in-Some c =
    relation_behind c.args.draft.now.tracked.names c.args.entry c.args.piece.now c.in-Some.text.now c.read_relation.result c.in-Some.ensures
    (subst (λ (ns : List Name). IsRelationReading ns c.args.entry c.in-Some.text.now c.read_relation.result) c.as_slice.ensures c.read_relation.ensures)
