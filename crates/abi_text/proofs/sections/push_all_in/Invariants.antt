use Rattle.std.proofs.Common.{◌≡◌, ◌++◌, drop}
use Rattle.abi_text.specs.Texts.{all_in}
use Rattle.abi_text.proofs.sections.push_all_in.Given as goal

abbrev pub invariant-loop-routine : goal.invariant-loop-routine
invariant-loop-routine l =
    l.text.items ++ all_in l.image l.rows l.why l.routines l.width l.part (drop l.routine-index l.routines)
    ≡ l.initial.text.items ++ all_in l.image l.rows l.why l.routines l.width l.part l.routines
