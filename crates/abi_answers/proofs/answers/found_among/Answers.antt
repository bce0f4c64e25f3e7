use Rattle.std.proofs.Common.{◌≡◌, true, List, subst}
use Rattle.abi_verdicts.specs.declared.ways.End.{End}
use Rattle.abi_verdicts.specs.Ends.{are_told}
use Rattle.abi_routines.specs.Findings.{AreRoutines}
use Rattle.abi_answers.specs.Answers.{saved}
use Rattle.abi_answers.proofs.answers.found_among.Goals as goal

pub returns-in-Ok : goal.returns-in-Ok
returns-in-Ok c = record {
  ending = c.args.ending.now;
  ends = subst (λ (e : List End). are_told c.args.ending.now e ≡ true) c.requires.ends c.requires.told;
  told = subst (λ (e : List End). AreRoutines c.args.image.now c.args.rows.now e c.args.ending.now saved c.in-Ok.all) c.requires.ends c.in-Ok.ensures.told;
  each = c.in-Ok.ensures.each;
}
