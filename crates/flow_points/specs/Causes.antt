-- The causes that make the points of a search bad. No public contract cites these words.
--
--   same_point p q               whether p and q are one point
--   site_of entries p            what there is at the point p, if it was found
--   pair_cause entries p         the cause that p has where it is entered: if it is a second half
--   is_sooner a b                the cause a has a lower address than b, or the same and no greater number
--   sooner a b                   the sooner one of two causes, where there is one
--   cause_into entries from a    the cause that the point at a has where the flow goes there from the point
--                                `from` of its procedure, unless that is where its first half stands
--   flow_cause entries from flow the sooner cause of those that a flow from this point enters
--   cause_in entries code        the cause of what there is at a point, or of a pair that its flow enters
--   cause_of entries s           what is bad at a point, or a pair that its flow enters
--   first_cause_of entries start   the soonest of all
--   codes_of entries             the code of the points that aren't bad, in order
use Rattle.std.specs.Prelude.{ℕ, ◌==◌, nat_lt, nat_le, Bool, ◌&&◌, ◌||◌, List, map, fold, Option, None, Some, option_and_then, Result, Ok, Err, if◌then◌else◌}
use Rattle.std.specs.List.{filter_map}
use Rattle.std.specs.Map.{lookup}
use Rattle.std.specs.Result.{result_ok}
use Rattle.flow_points.specs.Flows.{prior}
use Rattle.flow_points.specs.Walks.{point, start}
use Rattle.flow_points.specs.Refusals.{number_of, address_of}
use Rattle.flow_points.specs.declared.code_points.Point.{Point}
use Rattle.flow_points.specs.declared.code_points.CodePoint.{CodePoint}
use Rattle.flow_points.specs.declared.code_points.Flow.{Flow}
use Rattle.flow_points.specs.declared.code_points.Flow.TheVariants.{Next, Jump, Branch, Call, Return, Halt}
use Rattle.flow_points.specs.declared.code_points.Site.{Site}
use Rattle.refusals.specs.declared.flow.FlowRefusal.{FlowRefusal}
use Rattle.refusals.specs.declared.flow.FlowRefusal.TheVariants.{IntoPair}

abbrev pub same_point : Point → Point → Bool
same_point p q = p.proc_entry == q.proc_entry && p.address == q.address

abbrev pub site_of : List (Point × Site) → Point → Option Site
site_of entries p = lookup (same_point p) entries

abbrev pub pair_cause : List (Point × Site) → Point → Option FlowRefusal
pair_cause entries p =
    option_and_then (λ s. if s.ends_pair then Some (IntoPair p.address) else None) (site_of entries p)

abbrev pub is_sooner : FlowRefusal → FlowRefusal → Bool
is_sooner a b =
    nat_lt (address_of a) (address_of b) || (address_of a == address_of b && nat_le (number_of a) (number_of b))

abbrev pub sooner : Option FlowRefusal → Option FlowRefusal → Option FlowRefusal
sooner None b = b
sooner (Some a) None = Some a
sooner (Some a) (Some b) = if is_sooner a b then Some a else Some b

abbrev pub cause_into : List (Point × Site) → Point → ℕ → Option FlowRefusal
cause_into entries from a =
    if from.address == prior a then None else pair_cause entries (point from.proc_entry a)

abbrev pub flow_cause : List (Point × Site) → Point → Flow → Option FlowRefusal
flow_cause entries from (Next next) = cause_into entries from next
flow_cause entries from (Jump target) = cause_into entries from target
flow_cause entries from (Branch next target) = sooner (cause_into entries from next) (cause_into entries from target)
flow_cause entries from (Call target next) = sooner (pair_cause entries (start target)) (cause_into entries from next)
flow_cause entries from Return = None
flow_cause entries from Halt = None

abbrev pub cause_in : List (Point × Site) → Result CodePoint FlowRefusal → Option FlowRefusal
cause_in entries (Ok c) = flow_cause entries c.point c.flow
cause_in entries (Err cause) = Some cause

abbrev pub cause_of : List (Point × Site) → Site → Option FlowRefusal
cause_of entries s = cause_in entries s.code

abbrev pub first_cause_of : List (Point × Site) → Point → Option FlowRefusal
first_cause_of entries start = fold sooner (pair_cause entries start) (map (λ e. cause_of entries e.1) entries)

abbrev pub codes_of : List (Point × Site) → List CodePoint
codes_of entries = filter_map (λ e. result_ok e.1.code) entries
