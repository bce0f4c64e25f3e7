use Rattle.std.proofs.Common.{List, sym, subst}
use Rattle.std.specs.Prelude.{IfSome}
use Rattle.rv_decode.specs.Instructions.{IsWellFormed}
use Rattle.entry_tables.specs.declared.rows.Point.{Point}
use Rattle.entry_tables.specs.Settling.{point_at, line_of}
use Rattle.entry_walks.proofs.Formed.{line_formed}
use Rattle.entry_walks.proofs.walks.flow_here.Goals as goal

pub flow_at-requires : goal.flow_at-requires
flow_at-requires c =
    subst (λ line. IfSome line (λ line. IsWellFormed line.instr)) (sym c.place_at-place.ensures.line)
    (subst (λ (points : List Point). IfSome (line_of (point_at points c.args.p c.args.a)) (λ line. IsWellFormed line.instr)) (sym c.as_slice.ensures)
    (line_formed c.args.image.now c.args.rows.now.points c.args.p c.args.a c.requires))
