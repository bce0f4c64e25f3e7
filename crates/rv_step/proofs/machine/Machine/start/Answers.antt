use Rattle.std.proofs.Common.{refl, arith}
use Rattle.std.proofs.lemmas.Grind.{common_steps}
use Rattle.rv_step.proofs.ImageLoaded.{loaded_is_byte}
use Rattle.rv_step.proofs.RangesCovered.{fetched_below}
use Rattle.rv_step.proofs.machine.Machine.start.Goals as goal

pub returns-clause-starts : goal.returns-clause-starts
returns-clause-starts c = record {
  hart = record {
    pc = fetched_below c.args.image.now c.args.image.now.entry c.known.ensures.entry_code;
    registers = c.zero_first.ensures.count;
    words = c.zero_first.ensures.words;
    zero_is = c.zero_first.ensures.zero;
    bytes = λ a small. let b = loaded_is_byte c.args.image.now c.known.ensures.bytes a in let e = c.in-Ok.ensures a in omega arith;
    units = c.known.ensures.units;
  };
  entry = refl;
  code = c.in-Ok-code_ranges.ensures;
  unit = refl;
  bytes = λ a b e. let f = c.in-Ok.ensures a in grind (arith, common_steps);
}
