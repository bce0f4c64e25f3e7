use Rattle.std.proofs.Common.{subst}
use Rattle.refute_text.specs.Named.{IsSoundIn}
use Rattle.refute_text.proofs.Sound.{sound_named}
use Rattle.refute_text.proofs.writer.write_refuted.Goals as goal

pub push_broken-requires-clause-named : goal.push_broken-requires-clause-named
push_broken-requires-clause-named c =
    let program = c.args.program.now in
    sound_named program c.in-Broken.found.derivs (subst (IsSoundIn program) c.in-Broken.is c.requires.sound)
