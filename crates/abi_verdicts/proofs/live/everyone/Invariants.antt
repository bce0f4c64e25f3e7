use Rattle.std.proofs.Common.{◌≡◌, ℕ, ◌<◌, true, slice_get, Some}
use Rattle.entry_walks.specs.Walks.{is_among}
use Rattle.abi_verdicts.specs.declared.ways.End.{End}
use Rattle.abi_verdicts.proofs.live.everyone.Given as goal

abbrev pub invariant-loop-end : goal.invariant-loop-end
invariant-loop-end l = (j : ℕ) (e : End) → j < l.end-index → slice_get l.ends j ≡ Some e → is_among l.all e.procedure ≡ true
