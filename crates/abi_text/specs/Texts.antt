-- What is told of saved registers, for people: aligned, faults first.
--
--   text      = file ": " counts nl nl [ "CLOBBERED" nl block* ] [ "unknown" nl block* ] callee* [ "kept" nl head* ]
--               [ "never returns" nl never* ] nl "assumed of runs" nl "  code isn't written over" nl "  the stack doesn't wrap" nl premise*
--   block     = head finding* [ "; kept:" registers ] nl
--   head      = label "  " hex "  frame " dec [ "?" ]
--   callee    = "unknown by callee: " label " (" label ")" nl
--   never     = label "  " hex nl
--
--   procedures_text n, never_text n        how many there are
--   counts_text n tally        the counts of the first line
--   named_text width           a label and an address, the label in a column of this width
--   head_text                  the first line of a routine, without its end
--   block_text                 what is told of a routine that is clobbered or unknown
--   callee_line                what is told of one that is unknown by one callee alone
--   Part                       the parts of the text, in their order
--   is_in part                 a routine is told of there
--   part_text part             what is told of it there
--   all_in part                the text of a part
--   titled title text          a text under a title, where there is one
--   people_text file image rows routines assumed why
--                              the whole text
use Rattle.std.specs.Prelude.{ℕ, ◌==◌, not, ◌&&◌, Bool, true, false, List, [], ◌∷◌, ◌++◌, codes, length, Option, None, Some, if◌then◌else◌}
use Rattle.elf_image.specs.declared.image.Image.{Image}
use Rattle.elf_image.specs.declared.symbol.Symbol.{Symbol}
use Rattle.number_text.specs.Numerals.{dec, hex}
use Rattle.entry_tables.specs.declared.rows.Rows.{Rows}
use Rattle.abi_premises.specs.declared.premises.Assumption.{Assumption}
use Rattle.abi_routines.specs.declared.finding.Finding.{Finding}
use Rattle.abi_routines.specs.declared.finding.Routine.{Routine}
use Rattle.abi_lines.specs.declared.tally.Tally.{Tally}
use Rattle.abi_lines.specs.Lines.{nl, known_mark}
use Rattle.abi_text.specs.declared.parts.Part.{Part}
use Rattle.abi_text.specs.declared.parts.Part.TheVariants.{Faults, Open, ByCallee, Whole, Endless}
use Rattle.abi_text.specs.Names.{label, padded, widest}
use Rattle.abi_text.specs.Standings.{tally_in, is_clobbered, is_unknown, is_never, is_kept, standings, is_shown, only_callee}
use Rattle.abi_text.specs.Findings.{findings_text, kept_mark}
use Rattle.abi_text.specs.Premises.{premise_lines}

unfoldable pub procedures_text : ℕ → List ℕ
procedures_text n = dec n ++ (if n == 1 then codes " procedure, " else codes " procedures, ")

unfoldable pub never_text : ℕ → List ℕ
never_text n = dec n ++ (if n == 1 then codes " never returns" else codes " never return")

abbrev pub counts_text : ℕ → Tally → List ℕ
counts_text n tally =
    procedures_text n ++ dec tally.kept ++ codes " kept, " ++ dec tally.clobbered ++ codes " clobbered, " ++ dec tally.unknown
    ++ codes " unknown, " ++ never_text tally.never ++ nl

abbrev pub named_text : List Symbol → ℕ → ℕ → List ℕ
named_text symbols width p = padded width (label symbols p) ++ codes " " ++ hex p

abbrev pub head_text : List Symbol → ℕ → Routine → List ℕ
head_text symbols width routine =
    named_text symbols width routine.procedure ++ codes "  frame " ++ dec routine.depth.bytes ++ known_mark routine.depth.known

abbrev pub block_text : Image → Rows → Bool → List Routine → ℕ → Routine → List ℕ
block_text image rows why routines width routine =
    head_text image.symbols width routine ++ findings_text image rows why routines routine.findings routine.findings
    ++ kept_mark routine.findings ++ nl

abbrev pub named_callee : List Symbol → ℕ → Option ℕ → List ℕ
named_callee symbols p None = []
named_callee symbols p (Some q) = codes "unknown by callee: " ++ label symbols p ++ codes " (" ++ label symbols q ++ codes ")" ++ nl

abbrev pub callee_line : Image → Rows → Routine → List ℕ
callee_line image rows routine = named_callee image.symbols routine.procedure (only_callee image rows routine.findings)

abbrev pub is_some_callee : Option ℕ → Bool
is_some_callee (Some q) = true
is_some_callee None = false

abbrev pub is_by_callee : Image → Rows → List Finding → Bool
is_by_callee image rows found = is_some_callee (only_callee image rows found)

abbrev pub is_in : Image → Rows → List Routine → Part → List Finding → Bool
is_in image rows routines Faults found = is_clobbered (tally_in found) && is_shown routines found
is_in image rows routines Open found = is_unknown (tally_in found) && not (is_by_callee image rows found)
is_in image rows routines ByCallee found = is_unknown (tally_in found) && is_by_callee image rows found
is_in image rows routines Whole found = is_kept (tally_in found)
is_in image rows routines Endless found = is_never (tally_in found)

abbrev pub part_text : Image → Rows → Bool → List Routine → ℕ → Part → Routine → List ℕ
part_text image rows why routines width Faults routine = block_text image rows why routines width routine
part_text image rows why routines width Open routine = block_text image rows why routines width routine
part_text image rows why routines width ByCallee routine = callee_line image rows routine
part_text image rows why routines width Whole routine = head_text image.symbols width routine ++ nl
part_text image rows why routines width Endless routine = named_text image.symbols width routine.procedure ++ nl

abbrev pub told_in_part : Image → Rows → Bool → List Routine → ℕ → Part → Routine → List ℕ
told_in_part image rows why routines width part routine =
    if is_in image rows routines part routine.findings then part_text image rows why routines width part routine else []

abbrev pub all_in : Image → Rows → Bool → List Routine → ℕ → Part → List Routine → List ℕ
all_in image rows why routines width part [] = []
all_in image rows why routines width part (routine ∷ rest) =
    told_in_part image rows why routines width part routine ++ all_in image rows why routines width part rest

abbrev pub titled : List ℕ → List ℕ → List ℕ
titled title [] = []
titled title (c ∷ rest) = title ++ nl ++ c ∷ rest

abbrev pub width_of : Image → List Routine → ℕ
width_of image routines = widest image.symbols 8 routines

abbrev pub routines_text : Image → Rows → Bool → List Routine → ℕ → List ℕ
routines_text image rows why routines width =
    titled (codes "CLOBBERED") (all_in image rows why routines width Faults routines)
    ++ titled (codes "unknown") (all_in image rows why routines width Open routines)
    ++ all_in image rows why routines width ByCallee routines
    ++ titled (codes "kept") (all_in image rows why routines width Whole routines)
    ++ titled (codes "never returns") (all_in image rows why routines width Endless routines)

abbrev pub assumed_text : Bool → List Assumption → List ℕ
assumed_text why assumed =
    codes "\nassumed of runs\n  code isn't written over\n  the stack doesn't wrap\n" ++ premise_lines why assumed

abbrev pub first_line : List ℕ → List Routine → List ℕ
first_line file routines = file ++ codes ": " ++ counts_text (length routines) (standings routines)

abbrev pub people_text : List ℕ → Image → Rows → List Routine → List Assumption → Bool → List ℕ
people_text file image rows routines assumed why =
    first_line file routines ++ nl ++ routines_text image rows why routines (width_of image routines) ++ assumed_text why assumed
