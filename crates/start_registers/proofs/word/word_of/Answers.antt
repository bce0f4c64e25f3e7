use Rattle.start_registers.specs.Settings.{hexadecimal}
use Rattle.start_registers.proofs.WordTexts.{decimal_is}
use Rattle.start_registers.proofs.word.word_of.Goals as goal

pub returns-in-Some : goal.returns-in-Some
returns-in-Some c = hexadecimal c.in-Some.ensures

pub returns-in-None : goal.returns-in-None
returns-in-None c = decimal_is c.args.text.now c.read_dec.result c.in-None.ensures (rw c.as_bytes.ensures.value at c.read_dec.ensures)
