-- Each order may end for want of memory.
use Rattle.std.proofs.Common.{ℕ}
use Rattle.orders.specs.Orders.{Order, Usage, Analyse, Certify, ListCode, CheckRun, Generate, Upgrade, Narrow, Refute}
use Rattle.call_ends.specs.Calls.{Call, SaysIn, no_memory, no_memory_text}
use Rattle.top_call.specs.Answers.{IsCarriedOut, no_start, wanting}

pub memory_wanting : (order : Order) (c : Call) (answer : ℕ) → SaysIn c 5 no_memory_text answer → IsCarriedOut order c answer
memory_wanting Usage c answer said = no_memory answer said
memory_wanting (Analyse file list) c answer said = no_memory answer said
memory_wanting (Certify file list) c answer said = no_memory answer said
memory_wanting (ListCode file) c answer said = no_memory answer said
memory_wanting (CheckRun file report steps regs) c answer said = no_start said
memory_wanting (Generate n list) c answer said = no_memory answer said
memory_wanting (Upgrade file report) c answer said = no_memory answer said
memory_wanting (Narrow file list) c answer said = no_memory answer said
memory_wanting (Refute file list at row) c answer said = wanting said
