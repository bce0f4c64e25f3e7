-- What is told, and what stands for the lines to come, is told of all.
use Rattle.std.proofs.Common.{◌≡◌, ◌++◌, drop, map}
use Rattle.analyser_core.specs.Certified.{told_in, told_of}
use Rattle.analyser_core.proofs.certify.words_of.Given as goal

abbrev pub invariant-loop-line : goal.invariant-loop-line
invariant-loop-line l = map told_of l.words ++ map told_in (drop l.line-index l.certs) ≡ map told_in l.certs
