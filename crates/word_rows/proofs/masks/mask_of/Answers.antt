use Rattle.std.proofs.Common.{◌≡◌, ◌*◌, ◌/◌, length, ◌∙◌, arith, add-one}
use Rattle.std.proofs.lemmas.Simd.{length-chunk}
use Rattle.word_rows.proofs.Covered.{no_chunk, mask_grows, mask_with, mask_without, uncovered, mask_ends_with, mask_ends_without}
use Rattle.word_rows.proofs.masks.mask_of.Goals as goal
use Rattle.word_rows.proofs.masks.mask_of.Goals.{then-has+then-lead_of_lanes-lt-LANES, else-has, else-has-via-then-has+else-lead_of_lanes-lt-LANES, else-has-via-else-has}

pub loop-chunk-init : goal.loop-chunk-init
loop-chunk-init c = no_chunk c.args.words.now

pub overflow_add-mask : goal.overflow_add-mask
overflow_add-mask c = record { fits = mask_grows c.loop-chunk.chunk c.loop-chunk.mask c.args.words.now (let h = c.loop-chunk-test.true in let s = c.requires.within in omega arith) c.loop-chunk.invariant }

pub loop-chunk-preserved : goal.loop-chunk-preserved
loop-chunk-preserved c =
    let within = c.requires.within in
    let test = c.loop-chunk-test.true in
    let long = length-chunk (8 * c.loop-chunk.chunk) 8 c.args.words.now (omega arith) in
    rw add-one (elim c.if-has.branch [
      | then-has+then-lead_of_lanes-lt-LANES w ↦ w.mask-is ∙ mask_with c.loop-chunk.chunk c.loop-chunk.mask c.args.words.now (omega arith) c.loop-chunk.invariant (omega (arith, w.lead_of_lanes.ensures, w.if-lead_of_lanes-lt-LANES.true))
      | else-has w ↦ w.mask-is ∙ mask_without c.loop-chunk.chunk c.loop-chunk.mask c.args.words.now c.loop-chunk.invariant (elim w.else-has.branch [
        | else-has-via-then-has+else-lead_of_lanes-lt-LANES v ↦ omega (arith, v.lead_of_lanes.ensures, v.if-lead_of_lanes-lt-LANES.false)
        | else-has-via-else-has v ↦ uncovered c.loop-chunk.chunk c.args.chunks c.args.words.now c.requires.covers v.if-has.ensures
      ])
    ])

pub overflow_add-mask-then-lead_from-words : goal.overflow_add-mask-then-lead_from-words
overflow_add-mask-then-lead_from-words c =
    let e : c.loop-chunk.chunk ≡ length c.args.words.now / 8 = let h = c.loop-chunk-test.false in let k = c.loop-chunk.auto.chunk-end in omega arith in
    let within = c.requires.within in
    record { fits = mask_grows (length c.args.words.now / 8) c.loop-chunk.mask c.args.words.now (omega (arith, c.lead_from.ensures, c.if-lead_from-words.true)) (rw e at c.loop-chunk.invariant) }

pub returns-then-lead_from-words : goal.returns-then-lead_from-words
returns-then-lead_from-words c =
    let e : c.loop-chunk.chunk ≡ length c.args.words.now / 8 = let h = c.loop-chunk-test.false in let k = c.loop-chunk.auto.chunk-end in omega arith in
    mask_ends_with (length c.args.words.now / 8) c.loop-chunk.mask _ c.args.words.now c.requires.within (omega arith) (rw e at c.loop-chunk.invariant) c.lead_from.ensures c.if-lead_from-words.true

pub returns-else-lead_from-words : goal.returns-else-lead_from-words
returns-else-lead_from-words c =
    let e : c.loop-chunk.chunk ≡ length c.args.words.now / 8 = let h = c.loop-chunk-test.false in let k = c.loop-chunk.auto.chunk-end in omega arith in
    mask_ends_without (length c.args.words.now / 8) c.loop-chunk.mask _ c.args.words.now c.requires.within (omega arith) (omega arith) (rw e at c.loop-chunk.invariant) c.lead_from.ensures c.if-lead_from-words.false
