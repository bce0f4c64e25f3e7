-- Ends of calls, and which of them are faults.
use Rattle.std.proofs.Common.{◌≢◌, ℕ, inl, inr, List, Option, arith}
use Rattle.outside.specs.Counts.{HasRisen}
use Rattle.call_ends.specs.Calls.{Call, Says, whole, cut, Ends, answered, read_fault, no_memory}
use Rattle.call_ends.proofs.AnswersOver.{IsPlain}

pub ends_weaker : (Is IsToo : ℕ → List ℕ → Type 0) (Rose : Type 0) (c : Call) (answer : ℕ) →
    ((status : ℕ) (text : List ℕ) → Is status text → IsToo status text) → Ends Is Rose c answer → Ends IsToo Rose c answer
ends_weaker Is IsToo Rose c answer too (answered answer' status text is said) = answered answer' status text (too status text is) said
ends_weaker Is IsToo Rose c answer too (read_fault answer' rose said) = read_fault answer' rose said
ends_weaker Is IsToo Rose c answer too (no_memory answer' said) = no_memory answer' said

pub still_0 : HasRisen 0 0 → ⊥
still_0 (inl above) = omega arith
still_0 (inr at_top) = omega arith

pub said_within : (old new : Option (List ℕ)) (status : ℕ) (text : List ℕ) (Rose : Type 0) (answer : ℕ) → Says old new status text Rose answer →
    status ≢ 3 → answer ≢ 3
said_within old new status text Rose answer (whole answer' gained is) other = λ e. other (omega arith)
said_within old new status text Rose answer (cut answer' rose gained is) other = λ e. omega arith

pub said_whole : (old new : Option (List ℕ)) (status : ℕ) (text : List ℕ) (Rose : Type 0) (answer : ℕ) → (Rose → ⊥) → Says old new status text Rose answer →
    status ≢ 4 → answer ≢ 4
said_whole old new status text Rose answer still (whole answer' gained is) other = λ e. other (omega arith)
said_whole old new status text Rose answer still (cut answer' rose gained is) other = absurd (still rose)

-- where the cause of a read fault can't be, and where no put failed
pub no_read : (Is : ℕ → List ℕ → Type 0) (Rose : Type 0) (c : Call) (answer : ℕ) → IsPlain Is → (Rose → ⊥) → Ends Is Rose c answer → answer ≢ 3
no_read Is Rose c answer plain still (answered answer' status text is said) =
    said_within _ _ status text _ answer said (plain status text is).0
no_read Is Rose c answer plain still (read_fault answer' rose said) = absurd (still rose)
no_read Is Rose c answer plain still (no_memory answer' said) = said_within _ _ 5 _ _ answer said (λ e. omega arith)

pub no_write : (Is : ℕ → List ℕ → Type 0) (Rose : Type 0) (c : Call) (answer : ℕ) → IsPlain Is → (HasRisen c.sink_before c.sink_after → ⊥) →
    Ends Is Rose c answer → answer ≢ 4
no_write Is Rose c answer plain still (answered answer' status text is said) =
    said_whole _ _ status text _ answer still said (plain status text is).1
no_write Is Rose c answer plain still (read_fault answer' rose said) = said_whole _ _ 3 _ _ answer still said (λ e. omega arith)
no_write Is Rose c answer plain still (no_memory answer' said) = said_whole _ _ 5 _ _ answer still said (λ e. omega arith)
