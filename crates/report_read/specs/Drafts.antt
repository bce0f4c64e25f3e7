-- A report as far as it is read, and what a line makes of it.
--
--   told d entry address state   d with a point more
--   closed_at d place, closed d  d where the rows of a point, if they stand last, are told
--   wanted_in version names      the registers with a certificate in each procedure
--   are_wanted d                 the same of d
--   is_allowed_at version place line, is_allowed d line   the grammar allows the line at its place
--   entry_at place               the procedure of a place within one
--   IsRegisterOf names text      the text is the name of a certified one of the tracked registers
--   AreKnown d line              the texts in the places of names are names that are wanted there
--   IsNextRegister d count name  the name is that of the register behind the first count ones
--   IsOrderedAt d place line, IsOrdered d line   the line's names or addresses are in order
--   place_with_row place row, with_row_at d place row     the same with a row more
--   place_with_cert place, with_cert_at d place cert      the same with a certificate more
--   told_at d place state        d with the point of the place told
--   BecomesAt k d place line next, Becomes k d line next   behind the line, of number k, the report is next
use Rattle.std.specs.Prelude.{◌≡◌, ℕ, ◌+◌, ◌<◌, ◌≤◌, Bool, true, false, List, [], ◌∷◌, ◌++◌, length, Contains, Some, slice_get, if◌then◌else◌, ◌==◌}
use Rattle.rv_decode.specs.Registers.{name_of_register}
use Rattle.report_text.specs.declared.certs.ReportCert.{ReportCert}
use Rattle.report_text.specs.declared.names.Name.{Name}
use Rattle.report_text.specs.declared.points.PointState.{PointState}
use Rattle.report_text.specs.declared.points.PointState.TheVariants as states
use Rattle.report_text.specs.Certificates.{certified_names}
use Rattle.report_lines.specs.Lines.{Line, Proc, Cert, At, NoRows, Unreached, Rel, End}
use Rattle.report_lines.specs.Relations.{AreRising, IsRowOf}
use Rattle.report_lines.specs.Relations.{AreKnown as AreKnownTerms}
use Rattle.report_read.specs.declared.draft.Draft.{Draft}
use Rattle.report_read.specs.declared.draft.Place.{Place}
use Rattle.report_read.specs.declared.draft.Place.TheVariants as places

abbrev pub told : Draft → ℕ → ℕ → PointState → Draft
told d entry address state = record d {
  points = d.points ++ record { proc_entry = entry; address = address; state = state } ∷ [];
  place = places.Told entry address;
}

abbrev pub closed_at : Draft → Place → Draft
closed_at d places.Top = d
closed_at d (places.Procedure entry count) = d
closed_at d (places.Point entry address line) = d
closed_at d (places.Rows entry address line rows) = told d entry address (states.Rows rows)
closed_at d (places.Told entry address) = d
closed_at d places.End = d

abbrev pub closed : Draft → Draft
closed d = closed_at d d.place

-- the certified ones of the tracked registers in version 2, and none in version 1
abbrev pub wanted_in : ℕ → List Name → List ℕ
wanted_in version names = if version == 2 then certified_names names else []

abbrev pub are_wanted : Draft → List ℕ
are_wanted d = wanted_in d.version d.tracked.names

abbrev pub is_allowed_at : ℕ → Place → Line → Bool
is_allowed_at version places.Top (Proc entry) = true
is_allowed_at version places.Top End = true
is_allowed_at version (places.Procedure entry count) (Cert name word) = version == 2
is_allowed_at version (places.Procedure entry count) (At address) = true
is_allowed_at version (places.Point entry address line) NoRows = true
is_allowed_at version (places.Point entry address line) Unreached = true
is_allowed_at version (places.Point entry address line) (Rel terms constant) = true
is_allowed_at version (places.Rows entry address line rows) (Rel terms constant) = true
is_allowed_at version (places.Told entry address) (Proc next) = true
is_allowed_at version (places.Told entry address) (At next) = true
is_allowed_at version (places.Told entry address) End = true
is_allowed_at version place line = false

abbrev pub is_allowed : Draft → Line → Bool
is_allowed d line = is_allowed_at d.version d.place line

abbrev pub entry_at : Place → ℕ
entry_at places.Top = 0
entry_at (places.Procedure entry count) = entry
entry_at (places.Point entry address line) = entry
entry_at (places.Rows entry address line rows) = entry
entry_at (places.Told entry address) = entry
entry_at places.End = 0

abbrev pub IsRegisterOf : List Name → List ℕ → Type 0
IsRegisterOf names text = (r : ℕ) × Contains (certified_names names) r × (text ≡ name_of_register r)

abbrev pub AreKnown : Draft → Line → Type 0
AreKnown d (Cert name word) = IsRegisterOf d.tracked.names name
AreKnown d (Rel terms constant) = AreKnownTerms d.tracked.names (entry_at d.place) terms
AreKnown d line = Unit {0}

abbrev pub IsNextRegister : Draft → ℕ → List ℕ → Type 0
IsNextRegister d count name = (r : ℕ) × (slice_get (certified_names d.tracked.names) count ≡ Some r) × (name ≡ name_of_register r)

-- the address of a procedure or of a point, or a certificate's register
abbrev pub IsOrderedAt : Draft → Place → Line → Type 0
IsOrderedAt d (places.Told before address) (Proc entry) = before < entry
IsOrderedAt d (places.Procedure entry count) (Cert name word) = IsNextRegister d count name
IsOrderedAt d (places.Procedure entry count) (At address) = length (are_wanted d) ≤ count
IsOrderedAt d (places.Told entry before) (At address) = before < address
IsOrderedAt d place (Rel terms constant) = AreRising d.tracked.names terms
IsOrderedAt d place line = Unit {0}

abbrev pub IsOrdered : Draft → Line → Type 0
IsOrdered d line = IsOrderedAt d d.place line

abbrev pub place_with_row : Place → List ℕ → Place
place_with_row (places.Point entry address line) row = places.Rows entry address line (row ∷ [])
place_with_row (places.Rows entry address line rows) row = places.Rows entry address line (rows ++ row ∷ [])
place_with_row place row = place

abbrev pub with_row_at : Draft → Place → List ℕ → Draft
with_row_at d place row = record d { place = place_with_row place row }

abbrev pub place_with_cert : Place → Place
place_with_cert (places.Procedure entry count) = places.Procedure entry (count + 1)
place_with_cert place = place

abbrev pub with_cert_at : Draft → Place → ReportCert → Draft
with_cert_at d place cert = record d { certs = d.certs ++ cert ∷ []; place = place_with_cert place }

abbrev pub told_at : Draft → Place → PointState → Draft
told_at d (places.Point entry address line) state = told d entry address state
told_at d place state = d

abbrev pub BecomesAt : ℕ → Draft → Place → Line → Draft → Type 0
BecomesAt k d place (Proc entry) next = next ≡ record d { place = places.Procedure entry 0 }
BecomesAt k d place (Cert name word) next =
    (cert : ReportCert) × (cert.proc_entry ≡ entry_at place) × (name_of_register cert.register ≡ name) × (cert.word ≡ word)
    × (next ≡ with_cert_at d place cert)
BecomesAt k d place (At address) next = next ≡ record d { place = places.Point (entry_at place) address k }
BecomesAt k d place NoRows next = next ≡ told_at d place (states.Rows [])
BecomesAt k d place Unreached next = next ≡ told_at d place states.Unreached
BecomesAt k d place (Rel terms constant) next =
    (row : List ℕ) × IsRowOf d.tracked.names (entry_at place) terms constant row × (next ≡ with_row_at d place row)
BecomesAt k d place End next = next ≡ record d { place = places.End }

abbrev pub Becomes : ℕ → Draft → Line → Draft → Type 0
Becomes k d line next = BecomesAt k d d.place line next
