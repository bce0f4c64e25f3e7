use Rattle.std.proofs.Common.{List, ℕ, Contains, get_or, sym, subst}
use Rattle.std.proofs.lemmas.List.{drop_more, drop_all}
use Rattle.analyser_core.proofs.LinesRead.{procedure_more, all_certified}
use Rattle.analyser_core.proofs.certify.certify.Goals as goal

pub summary_of-summary-requires-clause-there : goal.summary_of-summary-requires-clause-there
summary_of-summary-requires-clause-there c =
    subst (λ (all : List ℕ). Contains all (get_or c.args.procedures.now c.loop-entry.entry-index 0)) (sym c.procedures.ensures) (c.requires.within c.loop-entry.entry-index 0 c.loop-entry-test.true)

pub loop-entry-preserved : goal.loop-entry-preserved
loop-entry-preserved c =
    let s = c.summary_of-summary.ensures in
    let at = rw c.procedures.ensures at s.at in
    let basis = rw s.is at c.known.ensures.basis in
    let read = rw (s.is, c.as_slice.ensures) at c.in_ok-lines.ensures in
    procedure_more c.args.program.now c.args.points.now c.args.tracked.now.names c.requires.formed c.requires.lifted c.args.exits.now c.requires.exits
    c.certificates_tell_of_paths.ensures c.args.procedures.now c.loop-entry.entry-index s.place _ c.loop-entry.certs c.in_ok-lines.lines _ at
    (drop_more c.args.procedures.now c.loop-entry.entry-index 0 c.loop-entry-test.true) basis read (c.in_ok-append.ensures {u = tt}) c.loop-entry.invariant

pub returns : goal.returns
returns c =
    all_certified c.args.program.now c.args.points.now c.args.tracked.now.names c.requires.formed c.requires.lifted c.args.exits.now c.requires.exits
    c.certificates_tell_of_paths.ensures c.args.procedures.now c.loop-entry.entry-index c.loop-entry.certs
    (drop_all c.loop-entry.entry-index c.args.procedures.now c.loop-entry-test.false) c.loop-entry.invariant
