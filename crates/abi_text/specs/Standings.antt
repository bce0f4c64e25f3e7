-- How a routine stands, by what is told of its registers.
--
--   tally_in found             how many of its registers there are of each verdict
--   is_clobbered, is_unknown, is_never, is_kept tally
--                              some is clobbered; else some is unknown; else some never comes to a return; else all are kept
--   with_standing all tally    one routine more
--   standings routines         how many routines there are of each
--   same_fault f g             the change and the return are the same
--   has_fault r fault found    the same fault is told of the same register
--   home a best routines       the procedure that a lies in: the last one that begins at a or below, from `best` on
--   told_in q r fault routines the procedure q has the same fault
--   is_told_elsewhere          a fault is told with the procedure that its change lies in, if that has it too
--   is_shown                   some fault of a routine is told with itself
--   callee_by                  the procedure by which a register is unknown, if a call makes it so
--   first_callee               that of the first register that is unknown
--   is_against q one           a register is unknown, and not by q
--   all_by q                   each one that is unknown is so by q
--   only_callee                the procedure by which alone a routine is unknown
use Rattle.std.specs.Prelude.{ℕ, ◌+◌, ◌==◌, nat_lt, nat_le, not, ◌&&◌, ◌||◌, Bool, true, false, List, [], ◌∷◌, Option, None, Some, if◌then◌else◌}
use Rattle.elf_image.specs.declared.image.Image.{Image}
use Rattle.entry_tables.specs.declared.rows.Rows.{Rows}
use Rattle.abi_verdicts.specs.declared.faults.Fault.{Fault}
use Rattle.abi_verdicts.specs.declared.verdicts.Why.{Why}
use Rattle.abi_verdicts.specs.declared.verdicts.Cause.{Cause}
use Rattle.abi_verdicts.specs.declared.verdicts.Verdict.{Verdict}
use Rattle.abi_verdicts.specs.declared.verdicts.Why.TheVariants.{Called, BehindCall}
use Rattle.abi_verdicts.specs.declared.verdicts.Verdict.TheVariants.{Kept, Never, Clobbered, Unknown}
use Rattle.abi_routines.specs.declared.finding.Finding.{Finding}
use Rattle.abi_routines.specs.declared.finding.Routine.{Routine}
use Rattle.abi_lines.specs.declared.tally.Tally.{Tally}
use Rattle.abi_lines.specs.Tallies.{no_tally, more, with_findings}
use Rattle.abi_text.specs.Places.{callee_at}

abbrev pub tally_in : List Finding → Tally
tally_in found = with_findings no_tally found

abbrev pub is_clobbered : Tally → Bool
is_clobbered tally = nat_lt 0 tally.clobbered

abbrev pub is_unknown : Tally → Bool
is_unknown tally = tally.clobbered == 0 && nat_lt 0 tally.unknown

abbrev pub is_never : Tally → Bool
is_never tally = tally.clobbered == 0 && tally.unknown == 0 && nat_lt 0 tally.never

abbrev pub is_kept : Tally → Bool
is_kept tally = tally.clobbered == 0 && tally.unknown == 0 && tally.never == 0

abbrev pub more_if : Bool → ℕ → ℕ
more_if some n = if some then more n else n

abbrev pub with_standing : Tally → Tally → Tally
with_standing all tally = record {
  kept = more_if (is_kept tally) all.kept;
  clobbered = more_if (is_clobbered tally) all.clobbered;
  unknown = more_if (is_unknown tally) all.unknown;
  never = more_if (is_never tally) all.never;
}

abbrev pub standings_from : Tally → List Routine → Tally
standings_from all [] = all
standings_from all (routine ∷ rest) = standings_from (with_standing all (tally_in routine.findings)) rest

abbrev pub standings : List Routine → Tally
standings routines = standings_from no_tally routines

abbrev pub same_fault : Fault → Fault → Bool
same_fault f g = f.changed == g.changed && f.address == g.address

abbrev pub is_fault : Fault → Verdict → Bool
is_fault fault (Clobbered other) = same_fault fault other
is_fault fault verdict = false

abbrev pub has_fault : ℕ → Fault → List Finding → Bool
has_fault r fault [] = false
has_fault r fault (one ∷ rest) = if one.register == r && is_fault fault one.verdict then true else has_fault r fault rest

abbrev pub home : ℕ → ℕ → List Routine → ℕ
home a best [] = best
home a best (routine ∷ rest) = home a (if nat_lt best routine.procedure && nat_le routine.procedure a then routine.procedure else best) rest

abbrev pub told_in : ℕ → ℕ → Fault → List Routine → Bool
told_in q r fault [] = false
told_in q r fault (routine ∷ rest) =
    if routine.procedure == q && has_fault r fault routine.findings then true else told_in q r fault rest

abbrev pub is_told_at : ℕ → ℕ → ℕ → Fault → List Routine → Bool
is_told_at q p r fault routines = not (q == p) && told_in q r fault routines

abbrev pub is_told_elsewhere : List Routine → ℕ → ℕ → Fault → Bool
is_told_elsewhere routines p r fault = is_told_at (home fault.changed 0 routines) p r fault routines

abbrev pub shows : List Routine → ℕ → ℕ → Verdict → Bool
shows routines p r (Clobbered fault) = not (is_told_elsewhere routines p r fault)
shows routines p r verdict = false

abbrev pub is_shown : List Routine → List Finding → Bool
is_shown routines [] = false
is_shown routines (one ∷ rest) = if shows routines one.procedure one.register one.verdict then true else is_shown routines rest

abbrev pub callee_why : Image → Rows → ℕ → ℕ → Why → Option ℕ
callee_why image rows p a (Called q) = Some q
callee_why image rows p a BehindCall = callee_at image rows p a
callee_why image rows p a why = None

abbrev pub callee_by : Image → Rows → ℕ → Verdict → Option ℕ
callee_by image rows p (Unknown cause) = callee_why image rows p cause.address cause.why
callee_by image rows p verdict = None

abbrev pub is_open : Verdict → Bool
is_open (Unknown cause) = true
is_open verdict = false

abbrev pub first_callee : Image → Rows → List Finding → Option ℕ
first_callee image rows [] = None
first_callee image rows (one ∷ rest) =
    if is_open one.verdict then callee_by image rows one.procedure one.verdict else first_callee image rows rest

abbrev pub is_by : ℕ → Option ℕ → Bool
is_by q (Some c) = c == q
is_by q None = false

abbrev pub is_against : Image → Rows → ℕ → Finding → Bool
is_against image rows q one = is_open one.verdict && not (is_by q (callee_by image rows one.procedure one.verdict))

abbrev pub all_by : Image → Rows → ℕ → List Finding → Bool
all_by image rows q [] = true
all_by image rows q (one ∷ rest) = if is_against image rows q one then false else all_by image rows q rest

abbrev pub alone : Image → Rows → Option ℕ → List Finding → Option ℕ
alone image rows None found = None
alone image rows (Some q) found = if all_by image rows q found then Some q else None

abbrev pub only_callee : Image → Rows → List Finding → Option ℕ
only_callee image rows found = alone image rows (first_callee image rows found) found
