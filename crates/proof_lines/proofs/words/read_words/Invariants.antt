-- The words so far are those of the first parts.
use Rattle.std.proofs.Common.{length}
use Rattle.report_lines.specs.Parts.{parts_of}
use Rattle.proof_lines.proofs.WordTexts.{AreFirst}
use Rattle.proof_lines.proofs.words.read_words.Given as goal

abbrev pub decreases-loop-part : goal.decreases-loop-part
decreases-loop-part l = length l.rest

abbrev pub invariant-loop-part : goal.invariant-loop-part
invariant-loop-part l = AreFirst l.width (parts_of 32 l.text) l.words l.least (parts_of 32 l.rest)
