-- What each draft keeps, line after line.
use Rattle.std.proofs.Common.{◌≡◌, ◌≢◌, ℕ, ◌<◌, ◌≤◌, List, [], ◌++◌, All, length, map, take, get_or, Some, None}
use Rattle.std.specs.Prelude.{◌⊎◌}
use Rattle.word_rows.specs.Rows.{IsRow, lead}
use Rattle.report_text.specs.declared.certs.ReportCert.{ReportCert}
use Rattle.report_text.specs.declared.names.Name.{Name}
use Rattle.report_text.specs.declared.points.PointRows.{PointRows}
use Rattle.report_text.specs.declared.points.PointState.{PointState}
use Rattle.report_text.specs.declared.points.PointState.TheVariants as states
use Rattle.report_text.specs.Names.{IsSeenAt}
use Rattle.report_text.specs.Reports.{AreRowsAt, Ascend, IsBefore}
use Rattle.report_text.specs.Certificates.{site_of}
use Rattle.report_read.specs.declared.draft.Draft.{Draft}
use Rattle.report_read.specs.declared.draft.Place.{Place}
use Rattle.report_read.specs.declared.draft.Place.TheVariants as places
use Rattle.report_read.specs.Drafts.{are_wanted}
use Rattle.report_read.proofs.Sites.{last_of, opened, sites, sites_in}

abbrev pub at : ℕ → ℕ → PointState → PointRows
at entry address state = record { proc_entry = entry; address = address; state = state }

-- the point doesn't come behind this address of the procedure
abbrev pub IsUpTo : ℕ → ℕ → PointRows → Type 0
IsUpTo entry address q = (q.proc_entry < entry) ⊎ ((q.proc_entry ≡ entry) × (q.address ≤ address))

pub record IsRowAt (names : List Name) (entry : ℕ) (row : List ℕ) : Type 0 where
  pub is_row : IsRow 17 row
  pub named : lead row < 16
  pub seen : (k : ℕ) → k < 16 → get_or row k 0 ≢ 0 → IsSeenAt names entry k

pub record IsKeptAtPoint (names : List Name) (wanted : List ℕ) (all : List ReportCert) (points : List PointRows) (entry address : ℕ) (rows : List (List ℕ)) : Type 0 where
  pub before : All (λ q. IsBefore q (at entry address states.Unreached)) points
  pub certs : map site_of all ≡ sites wanted None points ++ opened wanted (last_of None points) entry
  pub each_row : All (IsRowAt names entry) rows

pub record IsKeptInProcedure (wanted : List ℕ) (all : List ReportCert) (points : List PointRows) (entry count : ℕ) : Type 0 where
  pub before : All (λ q. q.proc_entry < entry) points
  pub few : count ≤ length wanted
  pub certs : map site_of all ≡ sites wanted None points ++ sites_in entry (take count wanted)

pub record IsKeptBehindPoint (wanted : List ℕ) (all : List ReportCert) (points : List PointRows) (entry address : ℕ) : Type 0 where
  pub before : All (IsUpTo entry address) points
  pub last : last_of None points ≡ Some entry
  pub certs : map site_of all ≡ sites wanted None points

abbrev pub IsAtPoint : Draft → ℕ → ℕ → List (List ℕ) → Type 0
IsAtPoint d entry address rows = IsKeptAtPoint d.tracked.names (are_wanted d) d.certs d.points entry address rows

abbrev pub IsInProcedure : Draft → ℕ → ℕ → Type 0
IsInProcedure d entry count = IsKeptInProcedure (are_wanted d) d.certs d.points entry count

abbrev pub IsBehindPoint : Draft → ℕ → ℕ → Type 0
IsBehindPoint d entry address = IsKeptBehindPoint (are_wanted d) d.certs d.points entry address

abbrev pub IsKeptAt : Draft → Place → Type 0
IsKeptAt d places.Top = (d.points ≡ []) × (d.certs ≡ [])
IsKeptAt d (places.Procedure entry count) = IsInProcedure d entry count
IsKeptAt d (places.Point entry address line) = IsAtPoint d entry address []
IsKeptAt d (places.Rows entry address line rows) = IsAtPoint d entry address rows
IsKeptAt d (places.Told entry address) = IsBehindPoint d entry address
IsKeptAt d places.End = map site_of d.certs ≡ sites (are_wanted d) None d.points

pub record IsKept (d : Draft) : Type 0 where
  pub ascending : Ascend d.points
  pub reduced : All (AreRowsAt d.tracked.names) d.points
  pub placed : IsKeptAt d d.place
