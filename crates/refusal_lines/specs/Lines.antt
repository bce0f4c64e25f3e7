-- The lines of refusals.
--
--   at_offset text n      the line of a refusal at an offset
--   valued name value     a refusal's name with its value
--   refused text          the line of any other refusal
--   elf_line refusal      the line of what an image is refused for
--   at_address text a    the line of a refusal at an address
--   flow_line unit refusal  the line of what the code of an image with this unit is refused for. A word's length
--                         is told by the unit and its lowest byte
--   track_line refusal    the line of what a list is refused for
--   heads_line limit      the line of a program with more heads than that
--   range_line n          the line for a number of procedures that is out of range
--   too_long_line         the line for a file with too many bytes
--   most_report_bytes     no report may have more bytes
--   report_too_long_line  the line for a report with too many bytes
use Rattle.std.specs.Prelude.{ℕ, ◌%◌, ◌^◌, List, [], ◌++◌, codes}
use Rattle.number_text.specs.Numerals.{dec, hex}
use Rattle.rv_decode.specs.Registers.{name_of_register}
use Rattle.elf_image.specs.Fetches.{fetch_length}
use Rattle.refusals.specs.declared.elf.ElfRefusal.{ElfRefusal}
use Rattle.refusals.specs.declared.elf.ElfRefusal.TheVariants.{Short, NotElf, NotClass64, NotLittle, NotExec, NotRiscv, Rve, BadHeaderTable, Dynamic, BadSegment, TooManySegments, Overlap, NoCode, Memory}
use Rattle.refusals.specs.declared.flow.FlowRefusal as flows
use Rattle.refusals.specs.declared.flow.FlowRefusal.{FlowRefusal}
use Rattle.refusals.specs.declared.flow.FlowRefusal.TheVariants.{TooManyPoints, OutsideCode, NoInstruction, OddLink, IndirectJump, MisalignedTarget, IntoPair}
use Rattle.refusals.specs.declared.track.TrackRefusal.{TrackRefusal}
use Rattle.rv_text.specs.Words.{word_text}
use Rattle.refusals.specs.declared.track.TrackRefusal as tracks
use Rattle.refusals.specs.declared.track.TrackRefusal.TheVariants.{Empty, TooMany, UnknownName, BadSlot, NoSuchProcedure, Repeated}

abbrev pub at_offset : List ℕ → ℕ → List ℕ
at_offset text offset = codes "refused " ++ text ++ codes " at offset " ++ dec offset ++ codes "\n"

abbrev pub valued : List ℕ → List ℕ → List ℕ
valued name value = name ++ codes " " ++ value

-- an image is never refused for want of memory
abbrev pub elf_line : ElfRefusal → List ℕ
elf_line (Short n offset) = at_offset (valued (codes "Short") (dec n)) offset
elf_line (NotElf offset) = at_offset (codes "NotElf") offset
elf_line (NotClass64 byte offset) = at_offset (valued (codes "NotClass64") (dec byte)) offset
elf_line (NotLittle byte offset) = at_offset (valued (codes "NotLittle") (dec byte)) offset
elf_line (NotExec e_type offset) = at_offset (valued (codes "NotExec") (dec e_type)) offset
elf_line (NotRiscv e_machine offset) = at_offset (valued (codes "NotRiscv") (dec e_machine)) offset
elf_line (Rve offset) = at_offset (codes "Rve") offset
elf_line (BadHeaderTable offset) = at_offset (codes "BadHeaderTable") offset
elf_line (Dynamic offset) = at_offset (codes "Dynamic") offset
elf_line (BadSegment offset) = at_offset (codes "BadSegment") offset
elf_line (TooManySegments limit offset) = at_offset (valued (codes "TooManySegments") (dec limit)) offset
elf_line (Overlap offset) = at_offset (codes "Overlap") offset
elf_line (NoCode entry offset) = at_offset (valued (codes "NoCode") (hex entry)) offset
elf_line Memory = []

abbrev pub refused : List ℕ → List ℕ
refused text = codes "refused " ++ text ++ codes "\n"

abbrev pub at_address : List ℕ → ℕ → List ℕ
at_address text a = refused (text ++ codes " at " ++ hex a)

-- nor is its code
abbrev pub flow_line : ℕ → FlowRefusal → List ℕ
flow_line unit (TooManyPoints limit) = refused (valued (codes "TooManyPoints") (dec limit))
flow_line unit (OutsideCode a) = at_address (codes "OutsideCode") a
flow_line unit (NoInstruction a word) =
    at_address (valued (codes "NoInstruction") (word_text word (fetch_length unit (word % 2 ^ 8)))) a
flow_line unit (OddLink a register) = at_address (valued (codes "OddLink") (name_of_register register)) a
flow_line unit (IndirectJump a register) = at_address (valued (codes "IndirectJump") (name_of_register register)) a
flow_line unit (MisalignedTarget a target) = at_address (valued (codes "MisalignedTarget") (hex target)) a
flow_line unit (IntoPair a) = at_address (codes "IntoPair") a
flow_line unit flows.TheVariants.Memory = []

abbrev pub track_line : TrackRefusal → List ℕ
track_line Empty = refused (codes "Empty")
track_line (TooMany limit) = refused (valued (codes "TooMany") (dec limit))
track_line (UnknownName place) = refused (valued (codes "UnknownName") (dec place))
track_line (BadSlot place) = refused (valued (codes "BadSlot") (dec place))
track_line (NoSuchProcedure place) = refused (valued (codes "NoSuchProcedure") (dec place))
track_line (Repeated place) = refused (valued (codes "Repeated") (dec place))
track_line tracks.TheVariants.Memory = []

abbrev pub heads_line : ℕ → List ℕ
heads_line limit = refused (valued (codes "TooManyHeads") (dec limit))

abbrev pub range_line : ℕ → List ℕ
range_line n = refused (valued (codes "Range") (dec n))

abbrev pub too_long_line : List ℕ
too_long_line = refused (codes "TooLong 16777216")

abbrev pub most_report_bytes : ℕ
most_report_bytes = 2 ^ 28

abbrev pub report_too_long_line : List ℕ
report_too_long_line = refused (codes "report TooLong 268435456")
