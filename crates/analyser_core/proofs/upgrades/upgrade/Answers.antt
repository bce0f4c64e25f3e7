use Rattle.std.proofs.Common.{arith}
use Rattle.std.proofs.lemmas.Grind.{merely}
use Rattle.analyser_core.proofs.Upgrading.{known_procedures, wants_memory}
use Rattle.analyser_core.proofs.WordsTold.{certs_told_at}
use Rattle.analyser_core.proofs.upgrades.upgrade.Goals as goal

pub certs_at-requires-clause-within : goal.certs_at-requires-clause-within
certs_at-requires-clause-within g c =
    rw (c.deref.ensures.value, c.in_ok-procedures.ensures {u = tt}, c.as_slice.ensures)
    (known_procedures c.args.points.now c.args.report c.known.ensures c.in_default.ensures.none.1)

pub returns-in_err-program : goal.returns-in_err-program
returns-in_err-program g c =
    wants_memory c.args.points.now c.args.report c.from_residual.result c.from_residual.ensures.1 c.in_default.ensures.none

pub returns-in_err-blocks : goal.returns-in_err-blocks
returns-in_err-blocks g c =
    wants_memory c.args.points.now c.args.report c.from_residual-in_err-blocks.result c.from_residual-in_err-blocks.ensures.1 c.in_default.ensures.none

pub returns-in_err-procedures : goal.returns-in_err-procedures
returns-in_err-procedures g c =
    wants_memory c.args.points.now c.args.report c.from_residual-in_err-procedures.result c.from_residual-in_err-procedures.ensures.1 c.in_default.ensures.none

pub returns-in_err-certs : goal.returns-in_err-certs
returns-in_err-certs g c =
    wants_memory c.args.points.now c.args.report c.from_residual-in_err-certs.result c.from_residual-in_err-certs.ensures.1 c.in_default.ensures.none

pub invariant_of-result : goal.invariant_of-result
invariant_of-result g c =
    let told = rw (c.deref.ensures.value, c.in_ok-procedures.ensures {u = tt}, c.as_slice.ensures) at c.in_ok-certs.ensures in
    record {
      versions = (omega arith, omega arith);
      without = merely (λ one. absurd (omega (arith, one)));
      certified = merely (λ two. certs_told_at c.in_ok-program.program c.args.points.now c.args.report.tracked.names
          c.args.report.points c.in_ok-certs.certs told.lines told.certified told.words);
      ascending = c.args.report.ascending;
      reduced = c.args.report.reduced;
    }
