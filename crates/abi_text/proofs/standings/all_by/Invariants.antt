use Rattle.std.proofs.Common.{◌≡◌, drop}
use Rattle.abi_text.specs.Standings.{all_by}
use Rattle.abi_text.proofs.standings.all_by.Given as goal

abbrev pub invariant-loop-one : goal.invariant-loop-one
invariant-loop-one l = all_by l.image l.rows l.q (drop l.one-index l.found) ≡ all_by l.image l.rows l.q l.found
