-- Replies, before they are said.
--
--   AnswersWith Is Rose reply    the reply is a status and a text of which Is holds, or a fault whose cause is Rose
--   IsReplyOf answer reply       the reply is the answer, or want of memory in its place
--   IsWhole contents bytes       these are the contents, where they are told
--   IsLong most code line contents status text
--                                the contents have more bytes than that, and this line with this code is the answer
--   SaysReply reply ..           the reply's text was put, as `Says` has it
use Rattle.std.specs.Prelude.{◌≡◌, ℕ, ◌<◌, List, length, Option, Result, Ok, Err, Vec}
use Rattle.std.specs.Option.{IfSome}
use Rattle.std.specs.declared.alloc.Global.{Global}
use Rattle.std.specs.declared.alloc.AllocError.{AllocError}
use Rattle.call_ends.specs.Calls.{read_fault_text, no_memory_text, Says}
use Rattle.call_ends.specs.declared.Reply.{Reply}
use Rattle.call_ends.specs.declared.Reply.TheVariants.{Whole, ReadFault, OutOfMemory}

abbrev pub AnswersWith : (ℕ → List ℕ → Type 0) → Type 0 → Reply → Type 0
AnswersWith Is Rose (Whole status text) = Is status text.items
AnswersWith Is Rose ReadFault = Rose
AnswersWith Is Rose OutOfMemory = Unit {0}

abbrev pub IsReplyOf : Result (ℕ × Vec ℕ Global) AllocError → Reply → Type 0
IsReplyOf (Ok answer) reply = reply ≡ Whole answer.0 answer.1
IsReplyOf (Err e) reply = reply ≡ OutOfMemory

abbrev pub IsWhole : Option (List ℕ) → List ℕ → Type 0
IsWhole contents bytes = IfSome contents (λ c. bytes ≡ c)

pub record IsLong (most code : ℕ) (line : List ℕ) (contents : Option (List ℕ)) (status : ℕ) (text : List ℕ) : Type 0 where
  pub long : IfSome contents (λ c. most < length c)
  pub status_is : status ≡ code
  pub text_is : text ≡ line

abbrev pub SaysReply : Reply → Option (List ℕ) → Option (List ℕ) → Type 0 → ℕ → Type 0
SaysReply (Whole status text) old new Rose answer = Says old new status text.items Rose answer
SaysReply ReadFault old new Rose answer = Says old new 3 read_fault_text Rose answer
SaysReply OutOfMemory old new Rose answer = Says old new 5 no_memory_text Rose answer
