use Rattle.std.proofs.Common.{refl, rules, subst, List, ◌∙◌, sym}
use Rattle.std.proofs.lemmas.Bool.Decides.{Decides-eqb}
use Rattle.std.proofs.lemmas.Slice.Eq.{slice_eq-Decides}
use Rattle.report_text.specs.declared.names.Name.{Name}
use Rattle.report_read.specs.Drafts.{IsRegisterOf}
use Rattle.report_read.proofs.steps.cert_step.Goals as goal

pub returns-then-eq : goal.returns-then-eq
returns-then-eq c =
    c.with_cert.ensures c.args.number c.args.name.now (record {
      place_is = c.in-Procedure.is;
      version_is = c.if-draft-ne2.false;
      known = subst (λ (ns : List Name). IsRegisterOf ns c.args.name.now) c.as_slice.ensures (c.is_register_of.ensures.0 (search rules));
      register_is = let place = rw c.as_slice-in-Procedure.ensures at c.nth_certified.ensures.place in sym place ∙ c.in-Some.is;
      name_is = (slice_eq-Decides Decides-eqb c.args.name.now c.as_bytes.result.now c.eq.result c.eq.ensures).0 c.if-eq.true ∙ c.as_bytes.ensures.value ∙ c.register_name.ensures;
      procedure_is = refl;
    })
