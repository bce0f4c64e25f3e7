-- Calls over files, or over a sink, whose counts don't rise.
use Rattle.std.proofs.Common.{◌≢◌, ℕ, inl, inr, List, Option, arith}
use Rattle.outside.specs.Counts.{HasRisen}
use Rattle.orders.specs.Orders.{Order, Usage, Analyse, Certify, ListCode, CheckRun, Generate, Upgrade, Narrow, Refute}
use Rattle.call_ends.specs.Calls.{Call}
use Rattle.call_ends.proofs.Laws.{IsPlain, both_plain, low_plain, no_read, no_write, over_plain, said_whole, said_within}
use Rattle.order_answers.specs.Answers.{report_text, IsAnswer, IsListing, IsGenAnswer}
use Rattle.order_answers.specs.CertsText.{certs_text}
use Rattle.order_answers.specs.NarrowAnswers.{AnswersNarrow}
use Rattle.order_answers.specs.RefuteAnswers.{AnswersRefute}
use Rattle.top_call.specs.Answers.{IsUsage, IsReadFault, EndsOverBoth, no_registers, run, no_start, not_asked, asked, wanting, IsCarriedOut}
use Rattle.top_call.proofs.LowStatuses.{answer_low, gen_low, listing_low, narrow_low, refute_low, usage_low, run_plain, upgrade_plain}

no_fault : (contents : Option (List ℕ)) (Rose ReportRose : Type 0) → (Rose → ⊥) → (ReportRose → ⊥) → IsReadFault contents Rose ReportRose → ⊥
no_fault contents Rose ReportRose still still_too (inl rose) = still rose
no_fault contents Rose ReportRose still still_too (inr rose) = still_too rose.1

abbrev IsStill : Call → Type 0
IsStill c = (file : List ℕ) → HasRisen (c.faults_before file) (c.faults_after file) → ⊥

no_read_both : (file report : List ℕ) (Is : List ℕ → List ℕ → ℕ → List ℕ → Type 0) (c : Call) (answer : ℕ) → IsStill c →
    ((bytes told : List ℕ) → IsPlain (Is bytes told)) → EndsOverBoth file report Is c answer → answer ≢ 3
no_read_both file report Is c answer still plain is =
    no_read _ _ c answer (both_plain (c.contents file) (c.contents report) Is plain)
    (no_fault (c.contents file) _ _ (still file) (still report)) is

no_write_both : (file report : List ℕ) (Is : List ℕ → List ℕ → ℕ → List ℕ → Type 0) (c : Call) (answer : ℕ) →
    (HasRisen c.sink_before c.sink_after → ⊥) → ((bytes told : List ℕ) → IsPlain (Is bytes told)) → EndsOverBoth file report Is c answer →
    answer ≢ 4
no_write_both file report Is c answer still plain is =
    no_write _ _ c answer (both_plain (c.contents file) (c.contents report) Is plain) still is

-- where no name's count of faults rises
pub no_read_fault : (order : Order) (c : Call) (answer : ℕ) → ((file : List ℕ) → HasRisen (c.faults_before file) (c.faults_after file) → ⊥) →
    IsCarriedOut order c answer → answer ≢ 3
no_read_fault Usage c answer still is = no_read IsUsage ⊥ c answer (low_plain IsUsage usage_low) (λ no. no) is
no_read_fault (Analyse file list) c answer still is =
    no_read _ _ c answer (over_plain (c.contents file) (IsAnswer report_text list) (answer_low report_text list)) (still file) is
no_read_fault (Certify file list) c answer still is =
    no_read _ _ c answer (over_plain (c.contents file) (IsAnswer certs_text list) (answer_low certs_text list)) (still file) is
no_read_fault (ListCode file) c answer still is = no_read _ _ c answer (over_plain (c.contents file) IsListing listing_low) (still file) is
no_read_fault (CheckRun file report steps regs) c answer still (no_registers none is) =
    no_read IsUsage ⊥ c answer (low_plain IsUsage usage_low) (λ no. no) is
no_read_fault (CheckRun file report steps regs) c answer still (run start starts is) =
    no_read_both file report _ c answer still (run_plain start steps) is
no_read_fault (CheckRun file report steps regs) c answer still (no_start said) = said_within _ _ 5 _ _ answer said (λ e. omega arith)
no_read_fault (Generate n list) c answer still is =
    no_read (IsGenAnswer n list) ⊥ c answer (low_plain (IsGenAnswer n list) (gen_low n list)) (λ never. never) is
no_read_fault (Upgrade file report) c answer still is = no_read_both file report _ c answer still upgrade_plain is
no_read_fault (Narrow file list) c answer still is =
    no_read _ _ c answer (over_plain (c.contents file) (AnswersNarrow list) (narrow_low list)) (still file) is
no_read_fault (Refute file list at row) c answer still (not_asked none is) =
    no_read IsUsage ⊥ c answer (low_plain IsUsage usage_low) (λ no. no) is
no_read_fault (Refute file list at row) c answer still (asked point point_is is) =
    no_read _ _ c answer (over_plain (c.contents file) (AnswersRefute list point row) (refute_low list point row)) (still file) is
no_read_fault (Refute file list at row) c answer still (wanting said) = said_within _ _ 5 _ _ answer said (λ e. omega arith)

-- where the sink's count doesn't
pub no_write_fault : (order : Order) (c : Call) (answer : ℕ) → (HasRisen c.sink_before c.sink_after → ⊥) → IsCarriedOut order c answer → answer ≢ 4
no_write_fault Usage c answer still is = no_write IsUsage ⊥ c answer (low_plain IsUsage usage_low) still is
no_write_fault (Analyse file list) c answer still is =
    no_write _ _ c answer (over_plain (c.contents file) (IsAnswer report_text list) (answer_low report_text list)) still is
no_write_fault (Certify file list) c answer still is =
    no_write _ _ c answer (over_plain (c.contents file) (IsAnswer certs_text list) (answer_low certs_text list)) still is
no_write_fault (ListCode file) c answer still is = no_write _ _ c answer (over_plain (c.contents file) IsListing listing_low) still is
no_write_fault (CheckRun file report steps regs) c answer still (no_registers none is) =
    no_write IsUsage ⊥ c answer (low_plain IsUsage usage_low) still is
no_write_fault (CheckRun file report steps regs) c answer still (run start starts is) =
    no_write_both file report _ c answer still (run_plain start steps) is
no_write_fault (CheckRun file report steps regs) c answer still (no_start said) = said_whole _ _ 5 _ _ answer still said (λ e. omega arith)
no_write_fault (Generate n list) c answer still is =
    no_write (IsGenAnswer n list) ⊥ c answer (low_plain (IsGenAnswer n list) (gen_low n list)) still is
no_write_fault (Upgrade file report) c answer still is = no_write_both file report _ c answer still upgrade_plain is
no_write_fault (Narrow file list) c answer still is =
    no_write _ _ c answer (over_plain (c.contents file) (AnswersNarrow list) (narrow_low list)) still is
no_write_fault (Refute file list at row) c answer still (not_asked none is) =
    no_write IsUsage ⊥ c answer (low_plain IsUsage usage_low) still is
no_write_fault (Refute file list at row) c answer still (asked point point_is is) =
    no_write _ _ c answer (over_plain (c.contents file) (AnswersRefute list point row) (refute_low list point row)) still is
no_write_fault (Refute file list at row) c answer still (wanting said) = said_whole _ _ 5 _ _ answer still said (λ e. omega arith)
