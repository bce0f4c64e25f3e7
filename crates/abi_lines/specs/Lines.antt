-- What is told of saved registers, a record a line, in ASCII.
--
--   text      = "affine-check 1" nl routine* assumes* end
--   routine   = "proc " hex " " dec [ "?" ] [ " " name ] nl register*
--   register  = name " " told nl
--   told      = "kept" | "never" | "clobbered " hex " return " hex " " value | "unknown " hex " " cause
--   value     = "is " known | "by " kind [ " " hex ]
--   known     = hex | name sign dec
--   assumes   = "assumes " premise " " dec nl
--   end       = "end " dec " " dec " " dec " " dec nl        kept, clobbered, unknown, never
--
--   register_text r            a register's name
--   number_text k              a signed number, with its sign
--   known_text b k             a register's word of the entry and a number, or a word
--   kind_text kind             how a value was lost
--   at_text changed a          the address of what lost it, where it isn't that of the last change
--   value_text changed v       the value at a return
--   why_text why               a cause
--   verdict_text v             what is told
--   finding_line f, finding_lines found
--   known_mark known           `?` where sp isn't known everywhere
--   name_text symbols p        the name of the first symbol with this value, if there is one
--   routine_lines symbols routine
--   all_lines symbols routines
--   premise_text premise       a premise
--   number_of premise          its number, in the order in which premises are told
--   counted n count assumed    how many assumptions are of the premise of this number, as far as a word counts, and count more
--   assumes_line premise assumed
--                              none where there are none
--   memory_lines, jump_lines, stack_lines assumed
--                              those on memory; on jumps and calls; on the stack and on what isn't followed
--   assumes_lines assumed
--   end_line tally
--   lines_text symbols routines assumed
--                              the whole text
use Rattle.std.specs.Prelude.{ℕ, ◌-◌, ◌^◌, ◌==◌, nat_lt, Bool, true, false, List, [], ◌∷◌, ◌++◌, codes, if◌then◌else◌}
use Rattle.elf_image.specs.declared.symbol.Symbol.{Symbol}
use Rattle.number_text.specs.Numerals.{dec, hex}
use Rattle.rv_decode.specs.Registers.{name_of_register}
use Rattle.entry_values.specs.declared.values.Kind.{Kind}
use Rattle.entry_values.specs.declared.values.Kind.TheVariants.{Computed, Loaded, Narrow, Unset, Overwritten, Environment, Callee, Joined, Opaque}
use Rattle.entry_values.specs.declared.values.Value.{Value}
use Rattle.entry_values.specs.declared.values.Value.TheVariants.{Is, Any}
use Rattle.abi_routines.specs.declared.finding.Finding.{Finding}
use Rattle.abi_routines.specs.declared.finding.Routine.{Routine}
use Rattle.abi_verdicts.specs.declared.verdicts.Verdict.{Verdict}
use Rattle.abi_verdicts.specs.declared.verdicts.Verdict.TheVariants.{Kept, Never, Clobbered, Unknown}
use Rattle.abi_verdicts.specs.declared.verdicts.Why.{Why}
use Rattle.abi_verdicts.specs.declared.verdicts.Why.TheVariants.{AtJump, AtNoWord, AtLimit, Leaves, Called, BehindCall, Met, LostSp}
use Rattle.abi_premises.specs.declared.premises.Premise.{Premise}
use Rattle.abi_premises.specs.declared.premises.Premise.TheVariants.{Stores, Globals, Ecalls, Opaques, Foreigns, Tails, Tables, NoReturn, Stack, Above, Partial, Exits}
use Rattle.abi_premises.specs.declared.premises.Assumption.{Assumption}
use Rattle.abi_lines.specs.declared.tally.Tally.{Tally}
use Rattle.abi_lines.specs.Tallies.{more, tally_of}

abbrev pub nl : List ℕ
nl = codes "\n"

abbrev pub register_text : ℕ → List ℕ
register_text r = if nat_lt r 32 then name_of_register r else codes "x" ++ dec r

abbrev pub number_text : ℕ → List ℕ
number_text k = if nat_lt k (2 ^ 63) then codes "+" ++ dec k else codes "-" ++ dec (2 ^ 64 - k)

abbrev pub known_text : ℕ → ℕ → List ℕ
known_text b k = if b == 0 then hex k else register_text b ++ number_text k

abbrev pub kind_text : Kind → List ℕ
kind_text Computed = codes "computed"
kind_text Loaded = codes "loaded"
kind_text Narrow = codes "narrow"
kind_text Unset = codes "unset"
kind_text Overwritten = codes "overwritten"
kind_text Environment = codes "ecall"
kind_text Callee = codes "callee"
kind_text Joined = codes "joined"
kind_text Opaque = codes "opaque"

abbrev pub at_text : ℕ → ℕ → List ℕ
at_text changed a = if changed == a then [] else codes " " ++ hex a

abbrev pub value_text : ℕ → Value → List ℕ
value_text changed (Is b k) = codes " is " ++ known_text b k
value_text changed (Any a kind) = codes " by " ++ kind_text kind ++ at_text changed a

abbrev pub why_text : Why → List ℕ
why_text AtJump = codes "jump"
why_text AtNoWord = codes "no-instruction"
why_text AtLimit = codes "too-many"
why_text Leaves = codes "leaves"
why_text (Called q) = codes "callee " ++ hex q
why_text BehindCall = codes "callee"
why_text Met = codes "joined"
why_text LostSp = codes "lost-sp"

abbrev pub verdict_text : Verdict → List ℕ
verdict_text Kept = codes "kept"
verdict_text Never = codes "never"
verdict_text (Clobbered fault) =
    codes "clobbered " ++ hex fault.changed ++ codes " return " ++ hex fault.address ++ value_text fault.changed fault.value
verdict_text (Unknown cause) = codes "unknown " ++ hex cause.address ++ codes " " ++ why_text cause.why

abbrev pub finding_line : Finding → List ℕ
finding_line f = register_text f.register ++ codes " " ++ verdict_text f.verdict ++ nl

abbrev pub finding_lines : List Finding → List ℕ
finding_lines [] = []
finding_lines (f ∷ rest) = finding_line f ++ finding_lines rest

abbrev pub known_mark : Bool → List ℕ
known_mark true = []
known_mark false = codes "?"

abbrev pub name_text : List Symbol → ℕ → List ℕ
name_text [] p = []
name_text (symbol ∷ rest) p = if symbol.value == p then codes " " ++ symbol.name else name_text rest p

abbrev pub routine_lines : List Symbol → Routine → List ℕ
routine_lines symbols routine =
    codes "proc " ++ hex routine.procedure ++ codes " " ++ dec routine.depth.bytes ++ known_mark routine.depth.known
    ++ name_text symbols routine.procedure ++ nl ++ finding_lines routine.findings

abbrev pub all_lines : List Symbol → List Routine → List ℕ
all_lines symbols [] = []
all_lines symbols (routine ∷ rest) = routine_lines symbols routine ++ all_lines symbols rest

abbrev pub premise_text : Premise → List ℕ
premise_text Stores = codes "stores"
premise_text Globals = codes "globals"
premise_text Ecalls = codes "ecalls"
premise_text Opaques = codes "opaque"
premise_text Foreigns = codes "foreign"
premise_text Tails = codes "tails"
premise_text Tables = codes "tables"
premise_text NoReturn = codes "noreturn"
premise_text Stack = codes "stack"
premise_text Above = codes "above"
premise_text Partial = codes "partial"
premise_text Exits = codes "leaves"

abbrev pub number_of : Premise → ℕ
number_of Stores = 0
number_of Globals = 1
number_of Ecalls = 2
number_of Opaques = 3
number_of Foreigns = 4
number_of Tails = 5
number_of Tables = 6
number_of NoReturn = 7
number_of Stack = 8
number_of Above = 9
number_of Partial = 10
number_of Exits = 11

abbrev pub counted : ℕ → ℕ → List Assumption → ℕ
counted n count [] = count
counted n count (one ∷ rest) = counted n (if number_of one.premise == n then more count else count) rest

abbrev pub assumes_line : Premise → List Assumption → List ℕ
assumes_line premise assumed =
    let count : ℕ = counted (number_of premise) 0 assumed in
    if count == 0 then [] else codes "assumes " ++ premise_text premise ++ codes " " ++ dec count ++ nl

abbrev pub memory_lines : List Assumption → List ℕ
memory_lines assumed =
    assumes_line Stores assumed ++ assumes_line Globals assumed ++ assumes_line Ecalls assumed ++ assumes_line Opaques assumed

abbrev pub jump_lines : List Assumption → List ℕ
jump_lines assumed =
    assumes_line Foreigns assumed ++ assumes_line Tails assumed ++ assumes_line Tables assumed ++ assumes_line NoReturn assumed

abbrev pub stack_lines : List Assumption → List ℕ
stack_lines assumed =
    assumes_line Stack assumed ++ assumes_line Above assumed ++ assumes_line Partial assumed ++ assumes_line Exits assumed

abbrev pub assumes_lines : List Assumption → List ℕ
assumes_lines assumed = memory_lines assumed ++ jump_lines assumed ++ stack_lines assumed

abbrev pub end_line : Tally → List ℕ
end_line tally =
    codes "end " ++ dec tally.kept ++ codes " " ++ dec tally.clobbered ++ codes " " ++ dec tally.unknown ++ codes " " ++ dec tally.never ++ nl

abbrev pub lines_text : List Symbol → List Routine → List Assumption → List ℕ
lines_text symbols routines assumed =
    codes "affine-check 1" ++ nl ++ all_lines symbols routines ++ assumes_lines assumed ++ end_line (tally_of routines)
