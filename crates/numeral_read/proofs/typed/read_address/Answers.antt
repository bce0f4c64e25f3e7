use Rattle.numeral_read.proofs.Addresses.{numeral_is_address}
use Rattle.numeral_read.proofs.typed.read_address.Goals as goal

pub returns : goal.returns
returns c = numeral_is_address c.args.text.now c.in-Some.digits.now c.number_of.result c.in-Some.ensures c.if-digits-gt16.false c.number_of.ensures
