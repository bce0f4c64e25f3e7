use Rattle.std.proofs.Common.{◌≡◌, ◌∙◌, false, true}
use Rattle.proof_lines.specs.declared.lines.Line.TheVariants.{Head, Entry, Row, Claims}
use Rattle.proof_lines.proofs.Heads.{row_begins}
use Rattle.proof_lines.proofs.lines.claims_line.Goals as goal

pub returns-else-is_claims : goal.returns-else-is_claims
returns-else-is_claims c (Head p a) fits e = c.requires.no_head _ e
returns-else-is_claims c (Entry p) fits e = c.requires.no_entry _ e
returns-else-is_claims c (Row row) fits e = c.requires.no_row _ (e ∙ row_begins c.args.width row fits)
returns-else-is_claims c Claims fits e = let f : false ≡ true = c.if-is_claims.ensures.1 e in absurd cc
