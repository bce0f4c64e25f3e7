use Rattle.std.proofs.Common.{[], slice_index, Contains, subst, sym, ◌∙◌}
use Rattle.std.proofs.lemmas.List.{get_or_default}
use Rattle.row_modules.specs.Modules.{SameModule}
use Rattle.lead_basis.proofs.Laws.{basis_rows}
use Rattle.affine_prog.specs.Spans.{IsMapOf}
use Rattle.reach_modules.proofs.edges.exit_rows.Goals as goal

pub returns-clause-rows : goal.returns-clause-rows
returns-clause-rows c = rw c.rows.ensures (basis_rows 289 c.index-bases-places.result c.known.ensures.basis)

pub returns-clause-exact : goal.returns-clause-exact
returns-clause-exact c =
    let q = c.args.q in let bases = c.args.bases.now in let own = c.index-bases-places.result in
    subst (λ rows. SameModule 289 (Contains rows) (IsMapOf c.args.program.now q))
    (get_or_default bases (slice_index c.args.places.now q) [] own (c.requires.places.within q c.requires.proc) ∙ sym c.index-bases-places.is ∙ sym c.rows.ensures)
    (c.requires.places.exact q c.requires.proc)
