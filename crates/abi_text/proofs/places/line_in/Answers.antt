use Rattle.std.proofs.Common.{List, sym, ap, ◌∙◌}
use Rattle.std.specs.Prelude.{option_copied}
use Rattle.entry_tables.specs.declared.rows.Point.{Point}
use Rattle.entry_tables.specs.Settling.{point_at}
use Rattle.abi_text.proofs.Lined.{lined_at}
use Rattle.abi_text.proofs.places.line_in.Goals as goal

pub returns-in-Some-clause-formed : goal.returns-in-Some-clause-formed
returns-in-Some-clause-formed c =
    (lined_at c.args.image.now c.args.rows.now.points c.args.p c.args.a c.in-Some.point.now c.requires
    (ap (λ (points : List Point). point_at points c.args.p c.args.a) (sym c.as_slice.ensures) ∙ sym c.point_at.ensures ∙ ap option_copied c.in-Some.is)).formed
