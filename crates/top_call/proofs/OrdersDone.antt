-- Orders whose input nothing refuses are done.
use Rattle.std.proofs.Common.{◌≡◌, ℕ, List, Option, Some, None, inl, inr, refl, arith}
use Rattle.gen_elf.specs.Generated.{IsInRange, IsOutOfRange}
use Rattle.analyser_core.specs.Heads.{most_heads}
use Rattle.analyser_core.specs.Accepted.{IsRefusal}
use Rattle.analyser_core.specs.declared.cert_line.CertLine.{CertLine}
use Rattle.analyser_core.specs.declared.refusal.Refusal.{Refusal}
use Rattle.analyser_core.specs.declared.refusal.Refusal.TheVariants.{Elf, Flow, Track, Heads}
use Rattle.report_text.specs.declared.reports.Report.{Report}
use Rattle.orders.specs.Orders.{Order, Usage, Analyse, Certify, ListCode, CheckRun, Generate, Upgrade, Narrow, Refute}
use Rattle.start_registers.specs.Settings.{IsStart}
use Rattle.call_ends.specs.Calls.{Call, IsAnswerOver}
use Rattle.call_ends.proofs.Laws.{ends_weaker}
use Rattle.order_answers.specs.Answers.{report_text, IsAnswer, refused, no_list, crowded, analysed, IsListing, listed, IsGenAnswer, out_of_range, generated}
use Rattle.order_answers.specs.FileRefusals.{IsListRefusal, too_long, no_image, bad_flow}
use Rattle.order_answers.specs.CertsText.{certs_text}
use Rattle.order_answers.specs.NarrowAnswers as narrow
use Rattle.order_answers.specs.NarrowAnswers.{AnswersNarrow}
use Rattle.order_answers.specs.RefuteAnswers as refute
use Rattle.order_answers.specs.RefuteAnswers.{AnswersRefute}
use Rattle.narrow_words.specs.Accepted.{IsNarrowRefusal}
use Rattle.refute_answers.specs.declared.refusal.RefuteRefusal.TheVariants.{File, NoSuchPoint, Row}
use Rattle.flow_points.specs.declared.code_points.Point.{Point}
use Rattle.row_read.specs.Points.{IsPointReading}
use Rattle.order_answers.specs.GenText.{gen_text}
use Rattle.order_answers.specs.ReportAnswers.{IsRun, IsUpgrade}
use Rattle.top_call.specs.Answers.{no_registers, run, no_start, not_asked, asked, wanting, IsAskedAt, IsCarriedOut}
use Rattle.top_call.specs.Completeness.{IsUnrefused, IsAskable, HasContents, IsReportFor, IsOld, IsUnhindered, Checked, Done, IsDone}
use Rattle.top_call.proofs.MadeUnrefused.{made_unrefused}
use Rattle.top_call.proofs.ReportsDone.{both_done, run_done, upgrade_done}

answer_done : (told : Report → List CertLine → List ℕ) (list bytes : List ℕ) (status : ℕ) (text : List ℕ) →
    IsUnrefused (IsRefusal bytes list) bytes → IsAnswer told list bytes status text → status ≡ 0
answer_done told list bytes status text free (refused status' text' (too_long s t longer is line)) = let short = free.short in omega arith
answer_done told list bytes status text free (refused status' text' (no_image s t refusal short why is line)) =
    let memory = free.only_memory (Elf refusal) why in absurd (cc)
answer_done told list bytes status text free (refused status' text' (bad_flow s t image refusal short of why is line)) =
    let memory = free.only_memory (Flow refusal) (image, of, why) in absurd (cc)
answer_done told list bytes status text free (no_list status' text' image points refusal short of has why other is line) =
    let memory = free.only_memory (Track refusal) (image, points, of, has, why, other) in absurd (cc)
answer_done told list bytes status text free (crowded status' text' short many is line) =
    let memory = free.only_memory (Heads most_heads) (refl, many) in absurd (cc)
answer_done told list bytes status text free (analysed status' text' report certs short what is line) = is

narrow_done : (list bytes : List ℕ) (status : ℕ) (text : List ℕ) → IsUnrefused (IsNarrowRefusal bytes list) bytes →
    AnswersNarrow list bytes status text → status ≡ 0
narrow_done list bytes status text free (narrow.refused status' text' (too_long s t longer is line)) = let short = free.short in omega arith
narrow_done list bytes status text free (narrow.refused status' text' (no_image s t refusal short why is line)) =
    let memory = free.only_memory (Elf refusal) why in absurd (cc)
narrow_done list bytes status text free (narrow.refused status' text' (bad_flow s t image refusal short of why is line)) =
    let memory = free.only_memory (Flow refusal) (image, of, why) in absurd (cc)
narrow_done list bytes status text free (narrow.no_list status' text' image points refusal short of has why other is line) =
    let memory = free.only_memory (Track refusal) (image, points, of, has, why, other) in absurd (cc)
narrow_done list bytes status text free (narrow.crowded status' text' short many is line) =
    let memory = free.only_memory (Heads most_heads) (refl, many) in absurd (cc)
narrow_done list bytes status text free (narrow.analysed status' text' report short what is line) = is

refute_done : (list : List ℕ) (at : Point) (row bytes : List ℕ) (status : ℕ) (text : List ℕ) → IsAskable bytes list at row →
    AnswersRefute list at row bytes status text → status ≡ 0
refute_done list at row bytes status text free (refute.refused status' text' (too_long s t longer is line)) = let short = free.short in omega arith
refute_done list at row bytes status text free (refute.refused status' text' (no_image s t refusal short why is line)) =
    let memory = free.only_memory (File (Elf refusal)) why in absurd (cc)
refute_done list at row bytes status text free (refute.refused status' text' (bad_flow s t image refusal short of why is line)) =
    let memory = free.only_memory (File (Flow refusal)) (image, of, why) in absurd (cc)
refute_done list at row bytes status text free (refute.no_list status' text' image points refusal short of has why other is line) =
    let memory = free.only_memory (File (Track refusal)) (image, points, of, has, why, other) in absurd (cc)
refute_done list at row bytes status text free (refute.crowded status' text' short many is line) =
    let memory = free.only_memory (File (Heads most_heads)) (refl, many) in absurd (cc)
refute_done list at row bytes status text free (refute.no_point status' text' short over is line) =
    let memory = free.only_memory (NoSuchPoint at.address) (refl, over) in absurd (cc)
refute_done list at row bytes status text free (refute.bad_row status' text' refusal short over is line) =
    let memory = free.only_memory (Row refusal) over in absurd (cc)
refute_done list at row bytes status text free (refute.told status' text' short what is) = is

listing_done : (bytes : List ℕ) (status : ℕ) (text : List ℕ) → IsUnrefused (IsListRefusal bytes) bytes → IsListing bytes status text → status ≡ 0
listing_done bytes status text free (refused status' text' (too_long s t longer is line)) = let short = free.short in omega arith
listing_done bytes status text free (refused status' text' (no_image s t refusal short why is line)) =
    let memory = free.only_memory (Elf refusal) why in absurd (cc)
listing_done bytes status text free (refused status' text' (bad_flow s t image refusal short of why is line)) =
    let memory = free.only_memory (Flow refusal) (image, of, why) in absurd (cc)
listing_done bytes status text free (listed status' text' short what is) = is

in_range_only : (n : ℕ) → IsInRange n → IsOutOfRange n → ⊥
in_range_only n within (inl below) = omega arith
in_range_only n within (inr above) = omega arith

gen_done : (n : ℕ) (list : List ℕ) (c : Call) (status : ℕ) (text : List ℕ) → IsUnhindered (Generate n list) c → IsGenAnswer n list status text →
    status ≡ 0
gen_done n list c status text (within, free) (out_of_range status' text' out is line) = absurd (in_range_only n within out)
gen_done n list c status text (within, free) (generated status' text' bytes made is) =
    answer_done (gen_text n bytes) list bytes status text (made_unrefused n list bytes made (free bytes made)) is

over_done : (contents : Option (List ℕ)) (IsFree : List ℕ → Type 0) (answer : List ℕ → ℕ → List ℕ → Type 0) →
    ((bytes : List ℕ) (status : ℕ) (text : List ℕ) → IsFree bytes → answer bytes status text → status ≡ 0) → HasContents contents IsFree →
    (status : ℕ) (text : List ℕ) → IsAnswerOver contents answer status text → IsAnswerOver contents (λ bytes. Done (answer bytes)) status text
over_done (Some bytes) IsFree answer zero free status text is = (is, zero bytes status text free is)
over_done None IsFree answer zero free status text is = absurd free

one_start : (regs : Option (List ℕ)) (start : List ℕ) → IsStart regs (Some start) → IsStart regs None → ⊥
one_start None start is none = cc none
one_start (Some text) start is none = none is.list

one_point : (at row : List ℕ) (point : Point) → IsAskedAt at row (Some point) → IsAskedAt at row None → ⊥
one_point at row point is (inl none) = none point.proc_entry point.address is.0.0 is.0.1 is.0.2
one_point at row point is (inr none) = none is.1

pub order_done : (order : Order) (c : Call) (answer : ℕ) → IsUnhindered order c → IsCarriedOut order c answer → IsDone order c answer
order_done Usage c answer free is = absurd free
order_done (Analyse file list) c answer free is =
    ends_weaker _ _ _ c answer (over_done (c.contents file) (λ bytes. IsUnrefused (IsRefusal bytes list) bytes) (IsAnswer report_text list) (answer_done report_text list) free) is
order_done (Certify file list) c answer free is =
    ends_weaker _ _ _ c answer (over_done (c.contents file) (λ bytes. IsUnrefused (IsRefusal bytes list) bytes) (IsAnswer certs_text list) (answer_done certs_text list) free) is
order_done (Narrow file list) c answer free is =
    ends_weaker _ _ _ c answer (over_done (c.contents file) (λ bytes. IsUnrefused (IsNarrowRefusal bytes list) bytes) (AnswersNarrow list) (narrow_done list) free) is
order_done (ListCode file) c answer free is =
    ends_weaker _ _ _ c answer (over_done (c.contents file) (λ bytes. IsUnrefused (IsListRefusal bytes) bytes) IsListing listing_done free) is
order_done (CheckRun file report steps regs) c answer ((start, starts), free) (no_registers none is) = absurd (one_start regs start starts none)
order_done (CheckRun file report steps regs) c answer ((start, starts), free) (run start' starts' is) =
    inl (
      start',
      starts',
      ends_weaker _ _ _ c answer
          (both_done (c.contents file) (c.contents report) (λ bytes told. (old : Report) × IsReportFor bytes told old) (IsRun start' steps)
          (λ bytes told. Checked (IsRun start' steps bytes told))
          (λ bytes told status text accepted (old, of) is. (is, run_done bytes told accepted old of start' steps status text is)) free) is,
    )
order_done (CheckRun file report steps regs) c answer free (no_start said) = inr said
order_done (Generate n list) c answer free is =
    ends_weaker _ _ _ c answer (λ status text is. (is, gen_done n list c status text free is)) is
order_done (Upgrade file report) c answer free is =
    ends_weaker _ _ _ c answer
    (both_done (c.contents file) (c.contents report) (λ bytes told. (old : Report) × IsReportFor bytes told old × IsOld bytes old) IsUpgrade
    (λ bytes told. Done (IsUpgrade bytes told))
    (λ bytes told status text accepted (old, of, new) is. (is, upgrade_done bytes told accepted old of status text new is)) free) is
order_done (Refute file list at row) c answer ((point, is_point), free) (not_asked none is) = absurd (one_point at row point is_point none)
order_done (Refute file list at row) c answer (some, free) (asked point is_point is) =
    inl (
      point,
      is_point,
      ends_weaker _ _ _ c answer
          (over_done (c.contents file) (λ bytes. IsAskable bytes list point row) (AnswersRefute list point row) (refute_done list point row) (free point is_point)) is,
    )
order_done (Refute file list at row) c answer free (wanting said) = inr said
