-- The text of an answer whether a row holds.
--
--   answer  = "affine-refute 1" nl ( "holds" nl | broken ) "end" nl
--   broken  = "broken" nl "start" (" " register "=" dec)* nl line* "path" words nl "value " dec nl
--   line    = dec " " ( opening | step | call ) nl
--   opening = "open " hex words
--   step    = "step " dec " " place words
--   call    = "call " dec " " dec " " place
--   place   = hex | "exit"
--   words   = (" " dec)*
--
--   word_text w                    a word behind a space
--   words_text words               words, each so
--   each_text text names words     the texts of names with the words at their positions
--   register_text name w           a register and its word behind a space, as `a0=5`; of a slot nothing
--   registers_text names start     the registers among the names, each so
--   start_line names start         the line of a start
--   slot_text procedure name w     the word of a slot of the procedure; of another name nothing
--   slots_text procedure names slots   the words of the slots that the procedure has among the names
--   address_text point             the address of a point, or where there is none, that it is an exit
--   place_text points u            the address of the point that node u is, or that it is an exit
--   end_text points program e      so of the node at which edge e ends, behind a space
--   deriv_text points names program deriv   an opening of a procedure, with its slots' words; a step behind the derivation with
--                                  this number, to where its edge ends, with the words that are chosen; a call, with two numbers
--   line_text points names program n deriv   the line of a derivation, whose number is n
--   lines_text points names program n derivs   the lines of derivations, which have the numbers from n on
--   path_line path                 the line of a path's numbers
--   value_line value               the line of a value
--   broken_text points names program found   a counterexample: its start, derivations, path and value
--   answer_text points names program answer   that the row holds, or a counterexample
--   refuted_text points names program answer   the whole text
use Rattle.std.specs.Prelude.{ℕ, ◌+◌, ◌==◌, List, [], ◌∷◌, ◌++◌, map, flat_map, codes, Option, None, Some, slice_get, slice_index, if◌then◌else◌}
use Rattle.number_text.specs.Numerals.{dec, hex}
use Rattle.rv_decode.specs.Registers.{name_of_register}
use Rattle.affine_prog.specs.declared.Program.{Program}
use Rattle.flow_points.specs.PointLists.{FlowPoints}
use Rattle.flow_points.specs.declared.code_points.CodePoint.{CodePoint}
use Rattle.report_text.specs.declared.names.Name.{Name}
use Rattle.report_text.specs.declared.names.Name.TheVariants.{Register, Slot}
use Rattle.report_text.specs.Text.{nl}
use Rattle.refute_path.specs.declared.answer.Refuted.{Refuted}
use Rattle.refute_path.specs.declared.answer.Refuted.TheVariants.{Holds, Broken}
use Rattle.refute_path.specs.declared.derivations.Break.{Break}
use Rattle.refute_path.specs.declared.derivations.Deriv.{Deriv}
use Rattle.refute_path.specs.declared.derivations.Deriv.TheVariants.{Opening, Step, Call}

abbrev pub word_text : ℕ → List ℕ
word_text w = codes " " ++ dec w

abbrev pub words_text : List ℕ → List ℕ
words_text words = flat_map word_text words

abbrev pub each_text : (Name → ℕ → List ℕ) → List Name → List ℕ → List ℕ
each_text text [] words = []
each_text text (name ∷ names) [] = []
each_text text (name ∷ names) (w ∷ words) = text name w ++ each_text text names words

abbrev pub register_text : Name → ℕ → List ℕ
register_text (Register r) w = codes " " ++ name_of_register r ++ codes "=" ++ dec w
register_text (Slot p below) w = []

abbrev pub registers_text : List Name → List ℕ → List ℕ
registers_text names start = each_text register_text names start

abbrev pub start_line : List Name → List ℕ → List ℕ
start_line names start = codes "start" ++ registers_text names start ++ nl

abbrev pub slot_text : ℕ → Name → ℕ → List ℕ
slot_text procedure (Register r) w = []
slot_text procedure (Slot p below) w = if p == procedure then word_text w else []

abbrev pub slots_text : ℕ → List Name → List ℕ → List ℕ
slots_text procedure names slots = each_text (slot_text procedure) names slots

abbrev pub address_text : Option CodePoint → List ℕ
address_text None = codes "exit"
address_text (Some c) = hex c.point.address

abbrev pub place_text : FlowPoints → ℕ → List ℕ
place_text points u = address_text (slice_get points.points u)

abbrev pub end_text : FlowPoints → Program → ℕ → List ℕ
end_text points program e = codes " " ++ place_text points (slice_index (map (λ edge. edge.to) program.edges) e)

abbrev pub deriv_text : FlowPoints → List Name → Program → Deriv → List ℕ
deriv_text points names program (Opening p slots) =
    let procedure = slice_index points.procedures p in codes " open " ++ hex procedure ++ slots_text procedure names slots
deriv_text points names program (Step before e choice) = codes " step " ++ dec before ++ end_text points program e ++ words_text choice
deriv_text points names program (Call before e callee) = codes " call " ++ dec before ++ word_text callee ++ end_text points program e

abbrev pub line_text : FlowPoints → List Name → Program → ℕ → Deriv → List ℕ
line_text points names program n deriv = dec n ++ deriv_text points names program deriv ++ nl

abbrev pub lines_text : FlowPoints → List Name → Program → ℕ → List Deriv → List ℕ
lines_text points names program n [] = []
lines_text points names program n (deriv ∷ derivs) = line_text points names program n deriv ++ lines_text points names program (n + 1) derivs

abbrev pub path_line : List ℕ → List ℕ
path_line path = codes "path" ++ words_text path ++ nl

abbrev pub value_line : ℕ → List ℕ
value_line value = codes "value " ++ dec value ++ nl

abbrev pub broken_text : FlowPoints → List Name → Program → Break → List ℕ
broken_text points names program found =
    codes "broken" ++ nl ++ start_line names found.start ++ lines_text points names program 1 found.derivs ++ path_line found.path
    ++ value_line found.value

abbrev pub answer_text : FlowPoints → List Name → Program → Refuted → List ℕ
answer_text points names program Holds = codes "holds" ++ nl
answer_text points names program (Broken found) = broken_text points names program found

abbrev pub refuted_text : FlowPoints → List Name → Program → Refuted → List ℕ
refuted_text points names program answer = codes "affine-refute 1" ++ nl ++ answer_text points names program answer ++ codes "end" ++ nl
