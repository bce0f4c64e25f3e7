-- What there is at points, as the search for them keeps it: a list of points, each with its site, in the
-- order in which they were found. No public contract cites these words.
--
--   auipc_field instr r               the field of an AUIPC with the destination r
--   IsSite fetches p s                s is what there is at the point p
--   HasSite entries p                 the point p was found
--   HasSuccessors entries found       so were the points where the flow goes on from this entry
--   AreSites fetches entry entries    they are points, each with what there is at it, and not too many
--   Adds fetches entry old new        new has more of them than old, behind those of old
--   IsStop fetches entry refusal      why the search may stop: out of memory, or too many points
--   AreAllSites fetches entry entries the start was found, and with each entry where the flow goes on from it
use Rattle.std.specs.Prelude.{◌≡◌, ◌↔◌, ℕ, ◌≤◌, ◌==◌, IsTrue, List, ◌++◌, length, All, Contains, Option, None, Some, IfSome, Err, IfOk, IfErr, if◌then◌else◌}
use Rattle.std.specs.Map.{keys_of}
use Rattle.rv_instr.specs.declared.Instr.{Instr}
use Rattle.rv_instr.specs.declared.Instr.TheVariants.{Auipc}
use Rattle.flow_points.specs.Flows.{Fetches, IsCode, IsSecondHalf, Judged}
use Rattle.flow_points.specs.Walks.{FlowWalk, HasMoreThan, most_points, start, successors_of}
use Rattle.flow_points.specs.declared.code_points.Point.{Point}
use Rattle.flow_points.specs.declared.code_points.Site.{Site}
use Rattle.refusals.specs.declared.flow.FlowRefusal.{FlowRefusal}
use Rattle.refusals.specs.declared.flow.FlowRefusal.TheVariants.{TooManyPoints, Memory}

abbrev pub auipc_field : Instr → ℕ → Option ℕ
auipc_field (Auipc rd imm) r = if rd == r then Some imm else None
auipc_field _ r = None

pub record IsSite (fetches : Fetches) (p : Point) (s : Site) : Type 0 where
  pub code : IfOk s.code (λ c. (c.point ≡ p) × IsCode fetches c)
  pub cause : IfErr s.code (λ e. Judged fetches p.address (Err e))
  pub half : IsTrue s.ends_pair ↔ IsSecondHalf fetches p.address

abbrev pub HasSite : List (Point × Site) → Point → Type 0
HasSite entries p = Contains (keys_of entries) p

abbrev pub HasSuccessors : List (Point × Site) → Option (Point × Site) → Type 0
HasSuccessors entries found =
    IfSome found (λ e. IfOk e.1.code (λ c. All (HasSite entries) (successors_of e.0.proc_entry c.flow)))

pub record AreSites (fetches : Fetches) (entry : ℕ) (entries : List (Point × Site)) : Type 0 where
  pub reached : All (λ e. FlowWalk fetches entry e.0) entries
  pub sites : All (λ e. IsSite fetches e.0 e.1) entries
  pub few : length entries ≤ most_points

pub record Adds (fetches : Fetches) (entry : ℕ) (old new : List (Point × Site)) : Type 0 where
  pub more : List (Point × Site)
  pub after : new ≡ old ++ more
  pub sites : AreSites fetches entry new

pub data IsStop (fetches : Fetches) (entry : ℕ) (refusal : FlowRefusal) : Type 0 where
  memory : refusal ≡ Memory → IsStop fetches entry refusal
  too_many : HasMoreThan fetches entry most_points → refusal ≡ TooManyPoints most_points → IsStop fetches entry refusal

pub record AreAllSites (fetches : Fetches) (entry : ℕ) (entries : List (Point × Site)) : Type 0 where
  pub sites : AreSites fetches entry entries
  pub begins : HasSite entries (start entry)
  pub closed : All (λ e. HasSuccessors entries (Some e)) entries
