use Rattle.report_lines.proofs.Cuts.{one_part, parts_cut, some_part}
use Rattle.std.proofs.Common.{◌∷◌, ◌++◌, [], subst, ap, ◌∙◌}
use Rattle.report_lines.specs.Parts.{parts_of}
use Rattle.report_lines.specs.Fronts.{AreFurther}
use Rattle.report_lines.proofs.FrontsRead.{front_more, front_ends, front_ends_with, no_word, not_last}
use Rattle.report_lines.proofs.relation.read_behind.Goals as goal

pub loop-word-preserved : goal.loop-word-preserved
loop-word-preserved c whole terms front sum =
    let so_far = c.loop-word.invariant whole terms front sum in
    let word = rw c.in-Some-Multiple.field-0-is at c.in-Some-Multiple.ensures in (
      so_far.0 ++ (c.in-Some-Multiple.factor, c.in-Some-Multiple.name.now) ∷ [],
      front_more whole c.loop-word.rest.now c.in-Some.word.now c.in-Some.behind.now so_far.0 (c.in-Some-Multiple.factor, c.in-Some-Multiple.name.now) so_far.1 c.in-Some.ensures word.0 word.1,
      c.plus-sum.ensures so_far.0 so_far.2,
    )

pub returns-in-Some-Constant : goal.returns-in-Some-Constant
returns-in-Some-Constant c whole terms front sum all d fits e =
    let so_far = c.loop-word.invariant whole terms front sum in
    let word = rw c.in-Some-Constant.field-0-is at c.in-Some-Constant.ensures in
    let parts = ap (parts_of 32) c.in-Some.ensures.0 ∙ parts_cut 32 c.in-Some.word.now c.in-Some.behind.now c.in-Some.ensures.1 in
    not_last c.in-Some.word.now (parts_of 32 c.in-Some.behind.now) c.in-Some-Constant.field-0-0 (some_part 32 c.in-Some.behind.now) word.0 word.1
    (subst AreFurther parts (so_far.1.further all d fits e))

pub returns-in-None : goal.returns-in-None
returns-in-None c whole terms front sum all d fits e =
    let so_far = c.loop-word.invariant whole terms front sum in
    let parts = ap (parts_of 32) c.in-Some.ensures.0 ∙ parts_cut 32 c.in-Some.word.now c.in-Some.behind.now c.in-Some.ensures.1 in
    no_word c.in-Some.word.now (parts_of 32 c.in-Some.behind.now) c.in-None.ensures (subst AreFurther parts (so_far.1.further all d fits e))

pub returns-in-Some-Multiple-read_word : goal.returns-in-Some-Multiple-read_word
returns-in-Some-Multiple-read_word c whole terms front sum =
    let so_far = c.loop-word.invariant whole terms front sum in
    let word = rw c.in-Some-Multiple-read_word.field-0-is at c.in-Some-Multiple-read_word.ensures in
    let all = so_far.0 ++ (c.in-Some-Multiple-read_word.factor, c.in-Some-Multiple-read_word.name.now) ∷ [] in
    let ended = front_ends whole c.loop-word.rest.now so_far.0 (c.in-Some-Multiple-read_word.factor, c.in-Some-Multiple-read_word.name.now) so_far.1 c.in_default.ensures word.0 word.1 in
    (all, 0, ended.0, ended.1, c.with_constant.ensures c.args.names.now c.args.procedure all c.requires.few (c.plus.ensures so_far.0 so_far.2))

pub returns-in-Some-Constant-read_word : goal.returns-in-Some-Constant-read_word
returns-in-Some-Constant-read_word c whole terms front sum =
    let so_far = c.loop-word.invariant whole terms front sum in
    let word = rw c.in-Some-Constant-read_word.field-0-is at c.in-Some-Constant-read_word.ensures in
    let ended = front_ends_with whole c.loop-word.rest.now so_far.0 c.in-Some-Constant-read_word.word so_far.1 c.in_default.ensures word.0 word.1 in (
      so_far.0,
      c.in-Some-Constant-read_word.word,
      ended.0,
      ended.1,
      c.with_constant-in-Some-Constant-read_word.ensures c.args.names.now c.args.procedure so_far.0 c.requires.few so_far.2,
    )

pub returns-in-None-read_word : goal.returns-in-None-read_word
returns-in-None-read_word c whole terms front sum all d fits e =
    let so_far = c.loop-word.invariant whole terms front sum in
    no_word c.loop-word.rest.now [] c.in-None-read_word.ensures
    (subst AreFurther (one_part 32 c.loop-word.rest.now c.in_default.ensures) (so_far.1.further all d fits e))
