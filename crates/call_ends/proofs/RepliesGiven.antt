-- Replies that answer, and the ends of calls that say them.
use Rattle.std.proofs.Common.{ℕ, List, Option, Some, Result, Ok, Err, Vec}
use Rattle.std.specs.declared.alloc.Global.{Global}
use Rattle.std.specs.declared.alloc.AllocError.{AllocError}
use Rattle.std.specs.Result.{IfOk}
use Rattle.outside.specs.Counts.{HasRisen}
use Rattle.call_ends.specs.declared.Reply.{Reply}
use Rattle.call_ends.specs.declared.Reply.TheVariants.{Whole, ReadFault, OutOfMemory}
use Rattle.call_ends.specs.Calls.{Call, Ends, IsAnswerOver, answered, read_fault, no_memory}
use Rattle.call_ends.specs.Replies.{AnswersWith, IsLong, IsReplyOf, SaysReply}
use Rattle.call_ends.proofs.AnswersOver.{long_over}

pub reply_answers : (Is : ℕ → List ℕ → Type 0) (Rose : Type 0) (answer : Result (ℕ × Vec ℕ Global) AllocError) (reply : Reply) →
    IsReplyOf answer reply → IfOk answer (λ a. Is a.0 a.1.items) → AnswersWith Is Rose reply
reply_answers Is Rose (Ok a) reply is h = rw is h
reply_answers Is Rose (Err e) reply is h = rw is tt

pub reply_weaker : (Is IsToo : ℕ → List ℕ → Type 0) (Rose RoseToo : Type 0) (reply : Reply) →
    ((status : ℕ) (text : List ℕ) → Is status text → IsToo status text) → (Rose → RoseToo) → AnswersWith Is Rose reply →
    AnswersWith IsToo RoseToo reply
reply_weaker Is IsToo Rose RoseToo (Whole status text) too rose_too is = too status text.items is
reply_weaker Is IsToo Rose RoseToo ReadFault too rose_too is = rose_too is
reply_weaker Is IsToo Rose RoseToo OutOfMemory too rose_too is = tt

-- the reply to contents that are too long, or can't be read
pub unread_answers : (most code : ℕ) (line : List ℕ) (contents : Option (List ℕ)) (answer : List ℕ → ℕ → List ℕ → Type 0) (Rose : Type 0) (reply : Reply) →
    ((bytes : List ℕ) (status : ℕ) (text : List ℕ) → IsLong most code line (Some bytes) status text → answer bytes status text) →
    AnswersWith (IsLong most code line contents) Rose reply → AnswersWith (IsAnswerOver contents answer) Rose reply
unread_answers most code line contents answer Rose reply refuses is =
    reply_weaker _ _ _ _ reply (long_over most code line contents answer refuses) (λ rose. rose) is

pub reply_ends : (Is : ℕ → List ℕ → Type 0) (Rose : Type 0) (c : Call) (reply : Reply) (answer : ℕ) → AnswersWith Is Rose reply →
    SaysReply reply c.written_before c.written_after (HasRisen c.sink_before c.sink_after) answer → Ends Is Rose c answer
reply_ends Is Rose c (Whole status text) answer is said = answered answer status text.items is said
reply_ends Is Rose c ReadFault answer rose said = read_fault answer rose said
reply_ends Is Rose c OutOfMemory answer is said = no_memory answer said
