-- What holds of calls.
--
--   ReadFaultsHaveCauses     where no name's count of faults rose, a call that carries out an order isn't answered by a read fault
--   WriteFaultsHaveCauses    where the sink's count didn't rise, it isn't answered by a write fault
use Rattle.std.specs.Prelude.{◌≢◌, ℕ, List}
use Rattle.outside.specs.Counts.{HasRisen}
use Rattle.orders.specs.Orders.{Order}
use Rattle.call_ends.specs.Calls.{Call}
use Rattle.top_call.specs.Answers.{IsCarriedOut}

abbrev pub ReadFaultsHaveCauses : Type 0
ReadFaultsHaveCauses = (order : Order) (c : Call) (answer : ℕ) → ((file : List ℕ) → HasRisen (c.faults_before file) (c.faults_after file) → ⊥) →
    IsCarriedOut order c answer → answer ≢ 3

abbrev pub WriteFaultsHaveCauses : Type 0
WriteFaultsHaveCauses = (order : Order) (c : Call) (answer : ℕ) → (HasRisen c.sink_before c.sink_after → ⊥) →
    IsCarriedOut order c answer → answer ≢ 4
