use Rattle.std.proofs.Common.{◌∙◌, refl, sym}
use Rattle.std.proofs.lemmas.Bool.{false≢true}
use Rattle.affine_lift.specs.Tracking.{no_such_procedure, repeated}
use Rattle.affine_lift.proofs.names.further_name.Goals as goal

pub returns-in-Err-clause-name : goal.returns-in-Err-clause-name
returns-in-Err-clause-name c = c.in-Err.ensures.refused c.args.procedures.now c.args.names.now

pub returns-then-not-is_in-clause-name : goal.returns-then-not-is_in-clause-name
returns-then-not-is_in-clause-name c =
    no_such_procedure c.in-Ok.name c.in-Ok.ensures.named (λ there. false≢true (sym c.if-not-is_in.true ∙ c.is_in.ensures.1 there)) refl

pub returns-then-is_listed-clause-name : goal.returns-then-is_listed-clause-name
returns-then-is_listed-clause-name c =
    repeated c.in-Ok.name c.in-Ok.ensures.named (c.is_in.ensures.0 c.if-not-is_in.false) (c.is_listed.ensures.0 c.if-is_listed.true) refl

pub returns-clause-name : goal.returns-clause-name
returns-clause-name c = record {
  named = c.in-Ok.ensures.named;
  within = c.is_in.ensures.0 c.if-not-is_in.false;
  other = λ there. false≢true (sym c.if-is_listed.false ∙ c.is_listed.ensures.1 there);
}
