use Rattle.std.proofs.Common.{arith}
use Rattle.std.proofs.lemmas.Option.{slice_get_within}
use Rattle.analyser_core.proofs.certify.summary_of.Goals as goal

pub bounds-exits-place_of : goal.bounds-exits-place_of
bounds-exits-place_of c =
    let within = slice_get_within c.args.procedures.now c.place_of.result c.args.entry c.place_of.ensures in
    omega (arith, within, c.requires.count)
