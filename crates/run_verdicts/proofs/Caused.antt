-- A failure of a relation has an earlier cause.
use Rattle.std.proofs.Common.{◌≡◌, ◌⊎◌, ℕ, ◌<◌, List, take, Option, None, Some, inl, inr, refl, ap, sym, ◌∙◌, arith, length-take}
use Rattle.std.proofs.lemmas.Option.{slice_get_within}
use Rattle.elf_image.specs.declared.image.Image.{Image}
use Rattle.run_paths.specs.Lifts.{Lift}
use Rattle.run_watch.specs.Runs.{Sight, verdict}
use Rattle.run_watch.specs.declared.context.Found.{Found}
use Rattle.run_verdicts.specs.Relations.{IsCausedEarlier, IsTrueReport}
use Rattle.run_verdicts.specs.Whole.{AreCounted, IsOtherKind, IsWatchedRun}
use Rattle.report_text.specs.declared.reports.Report.{Report}
use Rattle.run_verdicts.specs.Runs.{IsQuiet}
use Rattle.run_verdicts.proofs.Counted.{counted_run}
use Rattle.run_verdicts.proofs.Verdicts.{IsFoundAt, found_in_all, found_where, nth_taken}
use Rattle.run_verdicts.proofs.Watched.{no_relation_fails_in}

module _ (seen : List Sight) (counted : AreCounted seen) where
  index_is : (kind : ℕ) (f : Found) (h : IsFoundAt kind seen f) → f.index ≡ h.i
  index_is kind f h = ap (λ (g : Found). g.index) h.found ∙ counted h.i h.s h.at

  -- a finding before a record
  earlier_cause : (kind : ℕ) (i : ℕ) (f found : Found) → IsOtherKind kind → found.index ≡ i
      → verdict kind None (take i seen) ≡ Some f
      → IsCausedEarlier seen found
  earlier_cause kind i f found other at is =
      let h = found_where kind (take i seen) f is in
      let inside = slice_get_within (take i seen) h.i h.s h.at in
      let below : h.i < i = omega (arith, inside, length-take i seen) in
      let there = sym (nth_taken seen i h.i below) ∙ h.at in
      let index : f.index ≡ h.i = ap (λ (g : Found). g.index) h.found ∙ counted h.i h.s there in
      record {
        kind = kind;
        other = other;
        cause = f;
        is = found_in_all kind i seen None f is;
        earlier = omega (arith, index, at, below);
      }

  -- a watch has a finding before a record, or all three find nothing
  cause_or_quiet : (i : ℕ) (found : Found) → found.index ≡ i → IsCausedEarlier seen found ⊎ IsQuiet (take i seen)
  cause_or_quiet i found at =
      by (verdict 2 None (take i seen)) (verdict 3 None (take i seen)) (verdict 4 None (take i seen)) refl refl refl
    where
      by : (stores returns code : Option Found) → verdict 2 None (take i seen) ≡ stores → verdict 3 None (take i seen) ≡ returns
          → verdict 4 None (take i seen) ≡ code → IsCausedEarlier seen found ⊎ IsQuiet (take i seen)
      by (Some f) returns code s r c = inl (earlier_cause 2 i f found (inl refl) at s)
      by None (Some f) code s r c = inl (earlier_cause 3 i f found (inr (inl refl)) at r)
      by None None (Some f) s r c = inl (earlier_cause 4 i f found (inr (inr refl)) at c)
      by None None None s r c = inr (record { stores = s; returns = r; code = c })

pub failures_are_caused : (image : Image) (lift : Lift) (report : Report) (limit : ℕ) (seen : List Sight) (found : Found)
    → IsWatchedRun image lift report limit seen → IsTrueReport lift report.points
    → verdict 1 None seen ≡ Some found
    → IsCausedEarlier seen found
failures_are_caused image lift report limit seen found w true_report is =
    let counted = counted_run image lift report limit seen w in
    let h = found_where 1 seen found is in
    elim (cause_or_quiet seen counted h.i found (index_is seen counted 1 found h)) [
      | inl cause ↦ cause
      | inr quiet ↦
          let none = no_relation_fails_in image lift report limit seen h.i h.s w true_report h.at quiet in
          let clash : Some h.detail ≡ None = sym h.is ∙ none in cc
    ]
