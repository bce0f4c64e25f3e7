use Rattle.std.proofs.Common.{List, ℕ, ◌+◌, ◌∷◌, Ok, refl, ap, length, length-append, subst, arith}
use Rattle.proof_read.specs.Fronts.{IsJudged, Left, Wrong, missing}
use Rattle.proof_read.specs.declared.steps.Step.{Step}
use Rattle.proof_read.proofs.Folding.{done_so, next_so, refused_so}
use Rattle.proof_read.proofs.front.read_lines.Goals as goal

pub returns-in-Err : goal.returns-in-Err
returns-in-Err c =
    refused_so c.loop-piece.number c.loop-piece.front c.loop-piece.rest.now c.in-Some.piece.now c.in-Some.behind.now
    (record { text_is = c.in-Some.ensures.0; clean = c.in-Some.ensures.1 }) c.args.text.now c.in-Err.fault c.loop-piece.invariant.so c.in-Err.ensures

pub returns-in-Done : goal.returns-in-Done
returns-in-Done c =
    let judged = subst (λ (s : Step). IsJudged c.loop-piece.number c.loop-piece.front c.in-Some.piece.now (Ok s)) c.in-Done.is c.in-Ok.ensures in
    c.loop-piece.invariant.so (Left c.in-Done.front (c.loop-piece.number + 1) c.in-Some.behind.now)
    (done_so c.loop-piece.number c.loop-piece.front c.loop-piece.rest.now c.in-Some.piece.now c.in-Some.behind.now
    (record { text_is = c.in-Some.ensures.0; clean = c.in-Some.ensures.1 }) c.in-Done.front judged)

pub loop-piece-preserved : goal.loop-piece-preserved
loop-piece-preserved c =
    let i = c.loop-piece.invariant in
    let judged = subst (λ (s : Step). IsJudged c.loop-piece.number c.loop-piece.front c.in-Some.piece.now (Ok s)) c.in-Next.is c.in-Ok.ensures in
    record {
      few = omega (arith, i.few, ap (λ (xs : List ℕ). length xs) c.in-Some.ensures.0, length-append c.in-Some.piece.now (10 ∷ c.in-Some.behind.now));
      so = λ r j. i.so r (next_so c.loop-piece.number c.loop-piece.front c.loop-piece.rest.now c.in-Some.piece.now c.in-Some.behind.now
          (record { text_is = c.in-Some.ensures.0; clean = c.in-Some.ensures.1 }) c.in-Next.next r judged j);
    }

pub returns : goal.returns
returns c = c.loop-piece.invariant.so (Wrong c.loop-piece.number) (missing c.loop-piece.number c.loop-piece.front c.loop-piece.rest.now c.in_default.ensures refl)
