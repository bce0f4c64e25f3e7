-- How many registers of each verdict there are, as far as a word counts.
--
--   no_tally                 none
--   more n                   one more; 2^64 - 1 stays
--   with_verdict tally v     one more of this verdict
--   with_findings tally found
--                            those of some findings more
--   with_routines tally routines
--                            those of some routines more
--   tally_of routines        those of all
use Rattle.std.specs.Prelude.{ℕ, ◌+◌, ◌^◌, ◌-◌, nat_lt, List, [], ◌∷◌, if◌then◌else◌}
use Rattle.abi_routines.specs.declared.finding.Finding.{Finding}
use Rattle.abi_routines.specs.declared.finding.Routine.{Routine}
use Rattle.abi_verdicts.specs.declared.verdicts.Verdict.{Verdict}
use Rattle.abi_verdicts.specs.declared.verdicts.Verdict.TheVariants.{Kept, Never, Clobbered, Unknown}
use Rattle.abi_lines.specs.declared.tally.Tally.{Tally}

abbrev pub no_tally : Tally
no_tally = record { kept = 0; clobbered = 0; unknown = 0; never = 0 }

abbrev pub more : ℕ → ℕ
more n = if nat_lt n (2 ^ 64 - 1) then n + 1 else n

abbrev pub with_verdict : Tally → Verdict → Tally
with_verdict tally Kept = record { kept = more tally.kept; clobbered = tally.clobbered; unknown = tally.unknown; never = tally.never }
with_verdict tally Never = record { kept = tally.kept; clobbered = tally.clobbered; unknown = tally.unknown; never = more tally.never }
with_verdict tally (Clobbered fault) = record { kept = tally.kept; clobbered = more tally.clobbered; unknown = tally.unknown; never = tally.never }
with_verdict tally (Unknown cause) = record { kept = tally.kept; clobbered = tally.clobbered; unknown = more tally.unknown; never = tally.never }

abbrev pub with_findings : Tally → List Finding → Tally
with_findings tally [] = tally
with_findings tally (one ∷ rest) = with_findings (with_verdict tally one.verdict) rest

abbrev pub with_routines : Tally → List Routine → Tally
with_routines tally [] = tally
with_routines tally (routine ∷ rest) = with_routines (with_findings tally routine.findings) rest

abbrev pub tally_of : List Routine → Tally
tally_of routines = with_routines no_tally routines
