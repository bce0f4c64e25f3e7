-- What the text for people tells of a register that is clobbered or unknown, behind an end of line each.
--
--   where_text image rows p registers a
--                              these registers, an address, and the instruction there, each in a column of its own
--   slot_text rows p a         the slot that is loaded from, as far as it is known
--   kind_words kind            how a value was lost
--   by_text image rows p changed a
--                              by which instruction, where it isn't the last change
--   value_words image rows p changed v
--                              the value at the return
--   step_text taken b          a step, with a mark where it is that of a branch which doesn't go on to the next instruction
--   way_steps rows p a walk    the way on from a
--   way_text why rows p walk   the way, where it is asked for
--   also_one symbols has told q
--                              one of them
--   also_names symbols p r fault told routines
--                              the other procedures that have the fault, where `told` says that one was told already
--   fault_text                 where a register was changed last, its value at the return, and the way there
--   return_text                the return, and the other procedures that have the fault
--   clobbered_text             both, unless the fault is told elsewhere
--   why_words image rows p a why
--                              a cause
--   same_cause c d             the causes are the same
--   first_with, registers_with cause found
--                              the first register that is unknown by this cause, and all of them
--   unknown_text               a cause with all its registers, told with the first one of them
--   findings_text              all of a routine
--   kept_in found              the registers that are kept
--   kept_mark found            these, where there are any
use Rattle.std.specs.Prelude.{ℕ, ◌==◌, not, ◌&&◌, ◌||◌, Bool, true, false, List, [], ◌∷◌, ◌++◌, codes, Option, None, Some, if◌then◌else◌}
use Rattle.elf_image.specs.declared.image.Image.{Image}
use Rattle.elf_image.specs.declared.symbol.Symbol.{Symbol}
use Rattle.number_text.specs.Numerals.{hex}
use Rattle.entry_values.specs.declared.values.Kind.{Kind}
use Rattle.entry_values.specs.declared.values.Kind.TheVariants.{Computed, Loaded, Narrow, Unset, Overwritten, Environment, Callee, Joined, Opaque}
use Rattle.entry_values.specs.declared.values.Value.{Value}
use Rattle.entry_values.specs.declared.values.Value.TheVariants.{Is, Any}
use Rattle.entry_tables.specs.declared.rows.Rows.{Rows}
use Rattle.abi_verdicts.specs.declared.faults.Fault.{Fault}
use Rattle.abi_verdicts.specs.declared.verdicts.Why.{Why}
use Rattle.abi_verdicts.specs.declared.verdicts.Cause.{Cause}
use Rattle.abi_verdicts.specs.declared.verdicts.Verdict.{Verdict}
use Rattle.abi_verdicts.specs.declared.verdicts.Why.TheVariants.{AtJump, AtNoWord, AtLimit, Leaves, Called, BehindCall, Met, LostSp}
use Rattle.abi_verdicts.specs.declared.verdicts.Verdict.TheVariants.{Kept, Never, Clobbered, Unknown}
use Rattle.abi_routines.specs.declared.finding.Finding.{Finding}
use Rattle.abi_routines.specs.declared.finding.Routine.{Routine}
use Rattle.abi_lines.specs.Lines.{nl, number_text, known_text}
use Rattle.abi_text.specs.Names.{label, padded, runs}
use Rattle.abi_text.specs.Places.{instr_at, slot_at, has_loaded, callee_at, turned_at}
use Rattle.abi_text.specs.Standings.{is_told_elsewhere, has_fault}

abbrev pub where_text : Image → Rows → ℕ → List ℕ → ℕ → List ℕ
where_text image rows p registers a =
    nl ++ codes " " ++ padded 5 (runs 0 false registers) ++ codes " at " ++ hex a ++ codes "  " ++ padded 15 (instr_at image rows p a) ++ codes " "

abbrev pub slot_words : Option ℕ → List ℕ
slot_words None = []
slot_words (Some o) = codes "from slot " ++ number_text o ++ codes ", "

abbrev pub slot_text : Rows → ℕ → ℕ → List ℕ
slot_text rows p a = slot_words (slot_at rows p a)

abbrev pub kind_words : Kind → List ℕ
kind_words Computed = codes "computed"
kind_words Loaded = codes "loaded from no slot"
kind_words Narrow = codes "a part of a word"
kind_words Unset = codes "never set"
kind_words Overwritten = codes "overwritten"
kind_words Environment = codes "from the environment"
kind_words Callee = codes "not kept by a callee"
kind_words Joined = codes "from ways that meet"
kind_words Opaque = codes "from an opaque instruction"

abbrev pub by_text : Image → Rows → ℕ → ℕ → ℕ → List ℕ
by_text image rows p changed a = if changed == a then [] else codes " at " ++ hex a ++ codes " by " ++ instr_at image rows p a

abbrev pub value_words : Image → Rows → ℕ → ℕ → Value → List ℕ
value_words image rows p changed (Is b k) = codes "is " ++ known_text b k
value_words image rows p changed (Any a kind) = slot_text rows p changed ++ kind_words kind ++ by_text image rows p changed a

abbrev pub taken_mark : Bool → List ℕ
taken_mark true = codes " (taken)"
taken_mark false = []

abbrev pub step_text : Bool → ℕ → List ℕ
step_text taken b = taken_mark taken ++ codes " " ++ hex b

abbrev pub way_steps : Rows → ℕ → ℕ → List ℕ → List ℕ
way_steps rows p a [] = []
way_steps rows p a (b ∷ rest) = step_text (turned_at rows p a b) b ++ way_steps rows p b rest

abbrev pub way_text : Bool → Rows → ℕ → List ℕ → List ℕ
way_text why rows p walk = if why then nl ++ codes "       by " ++ hex p ++ way_steps rows p p walk else []

abbrev pub also_lead : Bool → List ℕ
also_lead true = codes ", "
also_lead false = codes ", also in "

abbrev pub also_end : Bool → List ℕ
also_end true = codes " (jump)"
also_end false = []

abbrev pub has_too : ℕ → ℕ → Fault → Routine → Bool
has_too p r fault routine = not (routine.procedure == p) && has_fault r fault routine.findings

abbrev pub also_one : List Symbol → Bool → Bool → ℕ → List ℕ
also_one symbols true told q = also_lead told ++ label symbols q
also_one symbols false told q = []

abbrev pub also_names : List Symbol → ℕ → ℕ → Fault → Bool → List Routine → List ℕ
also_names symbols p r fault told [] = also_end told
also_names symbols p r fault told (routine ∷ rest) =
    also_one symbols (has_too p r fault routine) told routine.procedure
    ++ also_names symbols p r fault (told || has_too p r fault routine) rest

unfoldable pub fault_text : Image → Rows → Bool → Finding → Fault → List ℕ
fault_text image rows why f fault =
    where_text image rows f.procedure (f.register ∷ []) fault.changed
    ++ value_words image rows f.procedure fault.changed fault.value ++ way_text why rows f.procedure f.walk

unfoldable pub return_text : List Symbol → List Routine → Finding → Fault → List ℕ
return_text symbols routines f fault =
    nl ++ codes "       returns at " ++ hex fault.address ++ also_names symbols f.procedure f.register fault false routines

abbrev pub clobbered_text : Image → Rows → Bool → List Routine → Finding → Fault → List ℕ
clobbered_text image rows why routines f fault =
    if is_told_elsewhere routines f.procedure f.register fault then []
    else fault_text image rows why f fault ++ return_text image.symbols routines f fault

abbrev pub leaves_words : Bool → List ℕ
leaves_words true = codes "goes to a loaded address: a context is restored"
leaves_words false = codes "returns by another word in ra"

abbrev pub callee_words : List Symbol → Option ℕ → List ℕ
callee_words symbols None = codes "not kept by a callee"
callee_words symbols (Some q) = codes "not kept by " ++ label symbols q

abbrev pub called_words : List Symbol → ℕ → List ℕ
called_words symbols q = codes "a call of " ++ label symbols q ++ codes ", which doesn't come back"

abbrev pub why_words : Image → Rows → ℕ → ℕ → Why → List ℕ
why_words image rows p a AtJump = codes "a jump that isn't followed"
why_words image rows p a AtNoWord = codes "a word that isn't known"
why_words image rows p a AtLimit = codes "more points than are followed"
why_words image rows p a Leaves = leaves_words (has_loaded rows p a)
why_words image rows p a (Called q) = called_words image.symbols q
why_words image rows p a BehindCall = callee_words image.symbols (callee_at image rows p a)
why_words image rows p a Met = codes "ways meet, and none alone shows a fault"
why_words image rows p a LostSp = codes "sp isn't known from here on"

abbrev pub why_number : Why → ℕ
why_number AtJump = 0
why_number AtNoWord = 1
why_number AtLimit = 2
why_number Leaves = 3
why_number (Called q) = 4
why_number BehindCall = 5
why_number Met = 6
why_number LostSp = 7

abbrev pub same_cause : Cause → Cause → Bool
same_cause c d = c.address == d.address && why_number c.why == why_number d.why

abbrev pub is_by_cause : Cause → Verdict → Bool
is_by_cause cause (Unknown other) = same_cause cause other
is_by_cause cause verdict = false

abbrev pub first_with : Cause → List Finding → ℕ
first_with cause [] = 0
first_with cause (one ∷ rest) = if is_by_cause cause one.verdict then one.register else first_with cause rest

abbrev pub if_so : Bool → ℕ → List ℕ
if_so true r = r ∷ []
if_so false r = []

abbrev pub registers_with : Cause → List Finding → List ℕ
registers_with cause [] = []
registers_with cause (one ∷ rest) = if_so (is_by_cause cause one.verdict) one.register ++ registers_with cause rest

abbrev pub unknown_text : Image → Rows → List Finding → Finding → Cause → List ℕ
unknown_text image rows found f cause =
    if first_with cause found == f.register
    then where_text image rows f.procedure (registers_with cause found) cause.address ++ why_words image rows f.procedure cause.address cause.why
    else []

abbrev pub verdict_text : Image → Rows → Bool → List Routine → List Finding → Finding → Verdict → List ℕ
verdict_text image rows why routines found f (Clobbered fault) = clobbered_text image rows why routines f fault
verdict_text image rows why routines found f (Unknown cause) = unknown_text image rows found f cause
verdict_text image rows why routines found f verdict = []

abbrev pub finding_text : Image → Rows → Bool → List Routine → List Finding → Finding → List ℕ
finding_text image rows why routines found f = verdict_text image rows why routines found f f.verdict

abbrev pub findings_text : Image → Rows → Bool → List Routine → List Finding → List Finding → List ℕ
findings_text image rows why routines found [] = []
findings_text image rows why routines found (f ∷ rest) =
    finding_text image rows why routines found f ++ findings_text image rows why routines found rest

abbrev pub is_kept : Verdict → Bool
is_kept Kept = true
is_kept verdict = false

abbrev pub kept_in : List Finding → List ℕ
kept_in [] = []
kept_in (one ∷ rest) = if_so (is_kept one.verdict) one.register ++ kept_in rest

abbrev pub kept_words : List ℕ → List ℕ
kept_words [] = []
kept_words (r ∷ rest) = codes "; kept:" ++ runs 0 false (r ∷ rest)

abbrev pub kept_mark : List Finding → List ℕ
kept_mark found = kept_words (kept_in found)
