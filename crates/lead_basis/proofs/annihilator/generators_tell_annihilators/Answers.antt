use Rattle.lead_basis.proofs.Annihilating.{same_annihilators}
use Rattle.lead_basis.proofs.annihilator.generators_tell_annihilators.Goals as goal

pub returns : goal.returns
returns g c = record {
  of_module = λ p q same visible a. same_annihilators g.P.RowSet.member g.Q.RowSet.member p same visible a;
  of_generators = λ p q same visible a.
      let here = same_annihilators g.P.RowSet.member g.Q.RowSet.member p same visible a in
      let there = same_annihilators g.Q.RowSet.member g.Q.RowSet.member q (record { there = λ v i. i; back = λ v i. i }) visible a in
      (λ n. there.1 (here.0 n), λ n. here.1 (there.0 n));
}
