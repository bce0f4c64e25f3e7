use Rattle.std.proofs.Common.{[], ap, subst, ◌∙◌}
use Rattle.report_lines.specs.Parts.{parts_of}
use Rattle.report_lines.proofs.Cuts.{one_part, parts_cut}
use Rattle.proof_lines.proofs.WordTexts.{AreFirst, all_read, none_more, one_more}
use Rattle.proof_lines.proofs.words.read_words.Goals as goal

pub returns-in-None : goal.returns-in-None
returns-in-None c =
    let cut = ap (parts_of 32) c.in-Some.ensures.0 ∙ parts_cut 32 c.in-Some.part.now c.in-Some.behind.now c.in-Some.ensures.1 in
    none_more c.args.width (parts_of 32 c.args.text.now) (parts_of 32 c.in-Some.behind.now) c.loop-part.words c.loop-part.least c.in-Some.part.now c.requires
    (subst (AreFirst c.args.width (parts_of 32 c.args.text.now) c.loop-part.words c.loop-part.least) cut c.loop-part.invariant) c.in-None.ensures

pub loop-part-preserved : goal.loop-part-preserved
loop-part-preserved c =
    let cut = ap (parts_of 32) c.in-Some.ensures.0 ∙ parts_cut 32 c.in-Some.part.now c.in-Some.behind.now c.in-Some.ensures.1 in
    let more = one_more c.args.width (parts_of 32 c.args.text.now) (parts_of 32 c.in-Some.behind.now) c.loop-part.words c.loop-part.least c.in-Some.part.now c.in-Some-read_word.word
    (subst (AreFirst c.args.width (parts_of 32 c.args.text.now) c.loop-part.words c.loop-part.least) cut c.loop-part.invariant) c.in-Some-read_word.ensures in
    rw (c.in_ok-push-in-Some-read_word.ensures.ok, c.from-least.ensures) more

pub returns-in-None-read_word : goal.returns-in-None-read_word
returns-in-None-read_word c =
    none_more c.args.width (parts_of 32 c.args.text.now) [] c.loop-part.words c.loop-part.least c.loop-part.rest.now c.requires
    (subst (AreFirst c.args.width (parts_of 32 c.args.text.now) c.loop-part.words c.loop-part.least) (one_part 32 c.loop-part.rest.now c.in_default.ensures) c.loop-part.invariant) c.in-None-read_word.ensures

pub returns-in_ok-push-in-Some-read_word-2 : goal.returns-in_ok-push-in-Some-read_word-2
returns-in_ok-push-in-Some-read_word-2 c =
    let more = one_more c.args.width (parts_of 32 c.args.text.now) [] c.loop-part.words c.loop-part.least c.loop-part.rest.now c.in-Some-read_word-2.word
    (subst (AreFirst c.args.width (parts_of 32 c.args.text.now) c.loop-part.words c.loop-part.least) (one_part 32 c.loop-part.rest.now c.in_default.ensures) c.loop-part.invariant) c.in-Some-read_word-2.ensures in
    rw c.in_ok-push-in-Some-read_word-2.ensures.ok (all_read more)
