-- What stands behind the ones so far is looked for among the names to come.
use Rattle.std.proofs.Common.{◌≡◌, ◌+◌, ◌≤◌, drop}
use Rattle.std.specs.Prelude.{slice_get}
use Rattle.report_text.specs.Certificates.{certified_names}
use Rattle.report_read.proofs.steps.nth_certified.Given as goal

abbrev pub invariant-loop-name : goal.invariant-loop-name
invariant-loop-name l = record {
  same : slice_get (certified_names (drop l.name-index l.names)) l.left ≡ slice_get (certified_names l.names) l.count;
  few : l.count ≤ l.left + l.name-index;
}
