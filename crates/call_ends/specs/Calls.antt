-- How the call of an order ends.
--
--   Call                              what a call was given and did, as clauses see it: the contents of each name before it,
--                                     each name's count of faults before it and after it, the bytes written before and after,
--                                     where the sink tells them, and the sink's count before and after
--   call .. files files' out out'     the call between these files and sinks, by what their types tell
--   IsAnswerOver contents answer ..   an answer over the contents where they are told, and else over some bytes
--   IsOverBoth contents other answer ..   the same over the contents of a file and of a report
--   Says old new status text Rose answer
--                                     the text was put whole, and the answer is the status; or a put failed behind a prefix
--                                     of it, for the cause Rose, and the answer is 4
--   read_fault_text, no_memory_text   the lines of a read fault and of want of memory
--   SaysIn call status text answer    the same of the call's sink, whose count rose where a put failed
--   Ends Is Rose call answer          a call ends by saying a status and a text of which Is holds; or the line of a read fault,
--                                     whose cause is Rose; or that of want of memory
--   EndsOver file Is call answer      the same of an order over a file, where Is speaks of the file's bytes and a read fault
--                                     comes only where the count of the file's faults rose
use Rattle.std.specs.Prelude.{◌≡◌, ℕ, List, Option, Some, None, codes}
use Rattle.outside.specs.Counts.{HasRisen}
use Rattle.outside.specs.Written.{Gains, GainsPrefix}

pub record Call : Type 0 where
  pub contents : List ℕ → Option (List ℕ)
  pub faults_before : List ℕ → ℕ
  pub faults_after : List ℕ → ℕ
  pub written_before : Option (List ℕ)
  pub written_after : Option (List ℕ)
  pub sink_before : ℕ
  pub sink_after : ℕ

abbrev pub call : {F K : Type 0} → (F → List ℕ → Option (List ℕ)) → (F → List ℕ → ℕ) → (K → Option (List ℕ)) → (K → ℕ) → F → F → K → K → Call
call contents faults written sink_faults files files' out out' = record {
  contents = contents files;
  faults_before = faults files;
  faults_after = faults files';
  written_before = written out;
  written_after = written out';
  sink_before = sink_faults out;
  sink_after = sink_faults out';
}

abbrev pub IsAnswerOver : Option (List ℕ) → (List ℕ → ℕ → List ℕ → Type 0) → ℕ → List ℕ → Type 0
IsAnswerOver (Some bytes) answer status text = answer bytes status text
IsAnswerOver None answer status text = (bytes : List ℕ) × answer bytes status text

abbrev pub IsOverBoth : Option (List ℕ) → Option (List ℕ) → (List ℕ → List ℕ → ℕ → List ℕ → Type 0) → ℕ → List ℕ → Type 0
IsOverBoth file report answer = IsAnswerOver file (λ bytes. IsAnswerOver report (answer bytes))

abbrev pub read_fault_text : List ℕ
read_fault_text = codes "read fault\n"

abbrev pub no_memory_text : List ℕ
no_memory_text = codes "out of memory\n"

pub data Says (old new : Option (List ℕ)) (status : ℕ) (text : List ℕ) (Rose : Type 0) : ℕ → Type 0 where
  whole : (answer : ℕ) → Gains old new text → answer ≡ status → Says old new status text Rose answer
  cut : (answer : ℕ) → Rose → GainsPrefix old new text → answer ≡ 4 → Says old new status text Rose answer

abbrev pub SaysIn : Call → ℕ → List ℕ → ℕ → Type 0
SaysIn c status text answer = Says c.written_before c.written_after status text (HasRisen c.sink_before c.sink_after) answer

pub data Ends (Is : ℕ → List ℕ → Type 0) (Rose : Type 0) (c : Call) : ℕ → Type 0 where
  answered : (answer status : ℕ) (text : List ℕ) → Is status text → SaysIn c status text answer → Ends Is Rose c answer
  read_fault : (answer : ℕ) → Rose → SaysIn c 3 read_fault_text answer → Ends Is Rose c answer
  no_memory : (answer : ℕ) → SaysIn c 5 no_memory_text answer → Ends Is Rose c answer

abbrev pub EndsOver : List ℕ → (List ℕ → ℕ → List ℕ → Type 0) → Call → ℕ → Type 0
EndsOver file Is c answer = Ends (IsAnswerOver (c.contents file) Is) (HasRisen (c.faults_before file) (c.faults_after file)) c answer
