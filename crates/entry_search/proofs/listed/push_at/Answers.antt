use Rattle.std.proofs.Common.{sym, subst}
use Rattle.entry_tables.specs.Settling.{AreLined}
use Rattle.entry_search.proofs.Lining.{lined_more}
use Rattle.entry_search.proofs.listed.push_at.Goals as goal

pub returns-in-Ok : goal.returns-in-Ok
returns-in-Ok c = subst (AreLined c.args.image.now) (sym c.in-Ok.ensures.ok) (lined_more _ _ _ c.requires c.lined_point-point.ensures.lined)
