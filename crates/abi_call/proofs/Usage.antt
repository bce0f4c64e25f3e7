-- Calls by what they ask for.
use Rattle.std.proofs.Common.{◌≡◌, ℕ, Option, None, Some, subst}
use Rattle.call_ends.specs.Calls.{Call, Ends, EndsOver, SaysIn, no_memory, no_memory_text}
use Rattle.orders.specs.Checks.{Check}
use Rattle.abi_answers.specs.Answers.{IsAnswerTo}
use Rattle.abi_call.specs.Calls.{IsUsage, IsCarriedOut, form_of}

pub usage_told : (check : Option Check) (c : Call) (answer : ℕ) → None ≡ check → Ends IsUsage ⊥ c answer → IsCarriedOut check c answer
usage_told check c answer none ends = subst (λ (k : Option Check). IsCarriedOut k c answer) none ends

pub check_told : (check : Option Check) (k : Check) (c : Call) (answer : ℕ) → Some k ≡ check
    → EndsOver k.file (IsAnswerTo (form_of k.lines k.why) k.file k.entry) c answer → IsCarriedOut check c answer
check_told check k c answer some ends = subst (λ (j : Option Check). IsCarriedOut j c answer) some ends

pub memory_told : (check : Option Check) (c : Call) (answer : ℕ) → SaysIn c 5 no_memory_text answer → IsCarriedOut check c answer
memory_told None c answer says = no_memory answer says
memory_told (Some k) c answer says = no_memory answer says
