-- Points as a list.
--
--   FlowPoints                        the entry, the points with their code, and the procedures
--   places_of points                  the points alone
--   IsBefore p q                      p has the lower procedure, or the same and the lower address
--   point_cmp p q                     points compared so
--   entries_of points                 the procedure of each point
--   ArePoints fetches entry points    they are all points of this code, ascending, each with its code
--   ArePointsOf image points          the same of an image
--   HasCode points                    they are all points of some code
use Rattle.std.specs.Prelude.{◌≡◌, ◌⊎◌, ℕ, ◌<◌, ◌≤◌, nat_eq, List, map, length, All, AllPairs, Contains}
use Rattle.std.specs.List.{dedup}
use Rattle.std.specs.Ordering.{nat_cmp, ordering_then}
use Rattle.std.specs.declared.cmp.Ordering.{Ordering}
use Rattle.flow_points.specs.Flows.{fetches_of, Fetches, IsCode}
use Rattle.elf_image.specs.declared.image.Image.{Image}
use Rattle.flow_points.specs.Walks.{FlowWalk, most_points}
use Rattle.flow_points.specs.declared.code_points.Point.{Point}
use Rattle.flow_points.specs.declared.code_points.CodePoint.{CodePoint}

pub record FlowPoints : Type 0 where
  pub entry : ℕ
  pub points : List CodePoint
  pub procedures : List ℕ

abbrev pub places_of : List CodePoint → List Point
places_of points = map (λ c. c.point) points

abbrev pub IsBefore : Point → Point → Type 0
IsBefore p q = (p.proc_entry < q.proc_entry) ⊎ ((p.proc_entry ≡ q.proc_entry) × (p.address < q.address))

abbrev pub point_cmp : Point → Point → Ordering
point_cmp p q = ordering_then (nat_cmp p.proc_entry q.proc_entry) (nat_cmp p.address q.address)

abbrev pub entries_of : List CodePoint → List ℕ
entries_of points = map (λ c. c.point.proc_entry) points

pub record ArePoints (fetches : Fetches) (entry : ℕ) (points : FlowPoints) : Type 0 where
  pub entry_is : points.entry ≡ entry
  pub all : (p : Point) → FlowWalk fetches entry p → Contains (places_of points.points) p
  pub only : All (λ c. FlowWalk fetches entry c.point) points.points
  pub code : All (IsCode fetches) points.points
  pub ascending : AllPairs (λ c d. IsBefore c.point d.point) points.points
  pub few : length points.points ≤ most_points
  pub procedures_are : points.procedures ≡ dedup nat_eq (entries_of points.points)

abbrev pub ArePointsOf : Image → FlowPoints → Type 0
ArePointsOf image points = ArePoints (fetches_of image) image.entry points

pub record HasCode (points : FlowPoints) : Type 0 where
  pub fetches : Fetches
  pub are : ArePoints fetches points.entry points
