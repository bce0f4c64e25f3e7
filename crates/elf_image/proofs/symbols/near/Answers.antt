use Rattle.std.proofs.Common.{sym, arith, take_all}
use Rattle.std.proofs.lemmas.List.{length-take-le}
use Rattle.elf_image.proofs.symbols.near.Goals as goal

pub slice_bounds-result-end : goal.slice_bounds-result-end
slice_bounds-result-end c = sym (length-take-le 256 c.args.bytes.now (let far = c.if-bytes-gt256.true in omega arith))

pub returns-else-bytes-gt256 : goal.returns-else-bytes-gt256
returns-else-bytes-gt256 c = sym (take_all 256 c.args.bytes.now (let short = c.if-bytes-gt256.false in omega arith))
