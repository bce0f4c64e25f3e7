use Rattle.std.proofs.Common.{◌+◌, ◌-◌, ◌*◌, length}
use Rattle.word_rows.specs.Rows.{lead}
use Rattle.lead_basis.proofs.place.+place.Given as goal

abbrev pub decreases-add : goal.decreases-add
decreases-add g l = 2 * (length l.row.now - lead l.row.now)

abbrev pub decreases-exchange : goal.decreases-exchange
decreases-exchange g l = 2 * (length l.row.now - lead l.row.now)

abbrev pub decreases-place : goal.decreases-place
decreases-place g l = 2 * (length l.row.now - lead l.row.now) + 1
