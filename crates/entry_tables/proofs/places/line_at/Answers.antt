use Rattle.std.proofs.Common.{sym, ◌∙◌}
use Rattle.entry_tables.proofs.Reading.{no_line}
use Rattle.entry_tables.proofs.places.line_at.Goals as goal

pub returns-in-None-decode_with_length-clause-line : goal.returns-in-None-decode_with_length-clause-line
returns-in-None-decode_with_length-clause-line c =
    no_line c.args.image.now c.args.a c.in-Some.at (sym c.code_at.ensures ∙ c.in-Some.is) c.in-None-decode_with_length.ensures.only
