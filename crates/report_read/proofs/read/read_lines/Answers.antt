use Rattle.std.proofs.Common.{length, length-append, ◌≡◌, ◌∷◌, ◌∙◌, List, ℕ, ap, sym, subst, refl, arith}
use Rattle.report_lines.specs.Parts.{parts_of}
use Rattle.report_lines.proofs.Cuts.{one_part, parts_cut, some_part}
use Rattle.report_read.specs.declared.draft.Draft.{Draft}
use Rattle.report_read.specs.Judging.{IsJudged}
use Rattle.report_read.specs.Telling.{begun}
use Rattle.report_read.proofs.Kept.{IsKept}
use Rattle.report_read.proofs.KeptNext.{next_kept}
use Rattle.report_read.proofs.Headers.{next_header}
use Rattle.report_read.proofs.Folding.{end_refused_so, judged_next, whole_so, refused_so}
use Rattle.report_read.proofs.WholeCerts.{with_certs, without_certs}
use Rattle.report_read.proofs.read.read_lines.Goals as goal

pub returns-in-Err : goal.returns-in-Err
returns-in-Err c =
    let cut : parts_of 10 c.loop-piece.rest.now ≡ c.in-Some.piece.now ∷ parts_of 10 c.in-Some.behind.now =
    ap (parts_of 10) c.in-Some.ensures.0 ∙ parts_cut 10 c.in-Some.piece.now c.in-Some.behind.now c.in-Some.ensures.1 in
    refused_so c.in-Some.piece.now (parts_of 10 c.in-Some.behind.now) c.loop-piece.number c.loop-piece.draft c.in-Err.refusal
    (IsJudged (parts_of 10 c.args.text.now) 3 (begun c.args.version c.args.tracked)) (some_part 10 c.in-Some.behind.now)
    (λ r j. c.loop-piece.invariant.so r (subst (λ (ps : List (List ℕ)). IsJudged ps c.loop-piece.number c.loop-piece.draft r) (sym cut) j))
    c.in-Err.ensures

pub loop-piece-preserved : goal.loop-piece-preserved
loop-piece-preserved c =
    let i = c.loop-piece.invariant in
    let step = c.in-Ok.ensures in
    let cut : parts_of 10 c.loop-piece.rest.now ≡ c.in-Some.piece.now ∷ parts_of 10 c.in-Some.behind.now =
    ap (parts_of 10) c.in-Some.ensures.0 ∙ parts_cut 10 c.in-Some.piece.now c.in-Some.behind.now c.in-Some.ensures.1 in
    let header = next_header c.loop-piece.number c.loop-piece.draft step.0 c.in-Ok.next step.3 in
    record {
      few = omega (arith, i.few, ap (λ (xs : List ℕ). length xs) c.in-Some.ensures.0, length-append c.in-Some.piece.now (10 ∷ c.in-Some.behind.now));
      version_is = header.0 ∙ i.version_is;
      tracked_is = header.1 ∙ i.tracked_is;
      kept = next_kept c.loop-piece.number c.loop-piece.draft step.0 c.in-Ok.next i.kept step.1 step.3;
      so = λ r j. i.so r (subst (λ (ps : List (List ℕ)). IsJudged ps c.loop-piece.number c.loop-piece.draft r) (sym cut)
          (judged_next c.in-Some.piece.now (parts_of 10 c.in-Some.behind.now) c.loop-piece.number c.loop-piece.draft c.in-Ok.next r (some_part 10 c.in-Some.behind.now) step j));
    }

pub invariant_of-result : goal.invariant_of-result
invariant_of-result c =
    let i = c.loop-piece.invariant in
    let ended = c.in-Ok-judge_end.ensures in
    let kept = subst IsKept (sym ended.2) i.kept in
    record {
      versions = let v = ap (λ (x : Draft). x.version) ended.2 ∙ i.version_is in (omega (arith, v, c.requires.some), omega (arith, v, c.requires.most));
      without = ∣ without_certs c.in-Ok-judge_end.draft kept (ap (λ (x : Draft). x.place) ended.2 ∙ ended.0) ∣₁;
      certified = ∣ with_certs c.in-Ok-judge_end.draft kept (ap (λ (x : Draft). x.place) ended.2 ∙ ended.0) ∣₁;
      ascending = ∣ kept.ascending ∣₁;
      reduced = ∣ kept.reduced ∣₁;
    }

pub returns-in-Err-judge_end : goal.returns-in-Err-judge_end
returns-in-Err-judge_end c =
    let part = one_part 10 c.loop-piece.rest.now c.in_default.ensures in
    end_refused_so c.loop-piece.rest.now c.loop-piece.number c.loop-piece.draft c.in-Err-judge_end.refusal
    (IsJudged (parts_of 10 c.args.text.now) 3 (begun c.args.version c.args.tracked))
    (λ r j. c.loop-piece.invariant.so r (subst (λ (ps : List (List ℕ)). IsJudged ps c.loop-piece.number c.loop-piece.draft r) (sym part) j))
    c.in-Err-judge_end.ensures

pub returns-in-Ok-judge_end : goal.returns-in-Ok-judge_end
returns-in-Ok-judge_end c =
    whole_so (parts_of 10 c.args.text.now) (parts_of 10 c.loop-piece.rest.now) c.loop-piece.rest.now c.loop-piece.number
    (begun c.args.version c.args.tracked) c.loop-piece.draft c.in-Ok-judge_end.draft _
    (one_part 10 c.loop-piece.rest.now c.in_default.ensures) c.loop-piece.invariant.so c.in-Ok-judge_end.ensures
    (record { version_is = refl; tracked_is = refl; certs_are = refl; points_are = refl })
