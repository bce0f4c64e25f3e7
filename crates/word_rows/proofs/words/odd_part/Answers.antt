use Rattle.std.proofs.Common.{arith, w64}
use Rattle.std.proofs.lemmas.Nat.Bits.{bit_at-trailing_zeros}
use Rattle.word_rows.proofs.Zeros.{split_at_zeros}
use Rattle.word_rows.proofs.words.odd_part.Goals as goal

pub returns-clause-product : goal.returns-clause-product
returns-clause-product c =
    split_at_zeros c.args.w _ (bit_at-trailing_zeros w64 c.args.w (omega arith) c.ranges.w.fits).2

pub returns-clause-odd : goal.returns-clause-odd
returns-clause-odd c = (bit_at-trailing_zeros w64 c.args.w (omega arith) c.ranges.w.fits).1
