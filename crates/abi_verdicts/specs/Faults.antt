-- What a walk shows of a register.
--
--   tells r kind             a value that is lost in this way is a fault where a procedure returns. Of sums that aren't known
--                            none is told of sp
--   is_lost r v              the value v of r, where the procedure returns, is a fault
--   strays kind              a value that is lost in this way is a fault where it is jumped to
--   is_away v                a jump to v by ra goes astray. A link is even, and a jump clears bit 0, so one more than ra goes home
--   shows r v flow           with v in r a fault is shown by an end with this flow: of ra, where it leaves; of another register,
--                            where it returns
--   fault_at t p r stop      the fault that is shown where a walk has come to
--   fault_of t p r walk      the fault that a walk shows; none, if it is no walk
use Rattle.std.specs.Prelude.{ℕ, ◌==◌, nat_lt, not, ◌&&◌, Bool, true, false, List, Option, None, Some, option_and_then, if◌then◌else◌}
use Rattle.entry_values.specs.declared.values.Kind.{Kind}
use Rattle.entry_values.specs.declared.values.Kind.TheVariants.{Computed, Narrow, Unset, Overwritten, Callee, Joined}
use Rattle.entry_values.specs.declared.values.Value.{Value}
use Rattle.entry_values.specs.declared.values.Value.TheVariants.{Is, Any}
use Rattle.entry_values.specs.States.{value_at}
use Rattle.entry_values.specs.declared.flow.Flow.{Flow}
use Rattle.entry_values.specs.declared.flow.Flow.TheVariants.{Return, TailOut, Leave}
use Rattle.entry_tables.specs.Tables.{Table}
use Rattle.entry_walks.specs.declared.stops.Stop.{Stop}
use Rattle.entry_runs.specs.Walks.{flow_at}
use Rattle.entry_walks.specs.Walks.{walk_of}
use Rattle.abi_verdicts.specs.declared.faults.Fault.{Fault}

abbrev pub tells : ℕ → Kind → Bool
tells r Computed = not (r == 2)
tells r Callee = false
tells r Joined = false
tells r kind = true

abbrev pub is_lost : ℕ → Value → Bool
is_lost r (Is b k) = not (b == r && k == 0)
is_lost r (Any a kind) = tells r kind

abbrev pub strays : Kind → Bool
strays Unset = true
strays Overwritten = true
strays Narrow = true
strays Computed = true
strays kind = false

abbrev pub is_away : Value → Bool
is_away (Is b k) = not (b == 1 && nat_lt k 2)
is_away (Any a kind) = strays kind

abbrev pub shows : ℕ → Value → Flow → Bool
shows r v Return = not (r == 1) && is_lost r v
shows r v TailOut = not (r == 1) && is_lost r v
shows r v Leave = r == 1 && is_away v
shows r v flow = false

abbrev pub fault_at : Table → ℕ → ℕ → Stop → Option Fault
fault_at t p r stop =
    if shows r (value_at stop.state r) (flow_at t p stop.address stop.state)
    then Some (record { changed = stop.changed; address = stop.address; value = value_at stop.state r }) else None

abbrev pub fault_of : Table → ℕ → ℕ → List ℕ → Option Fault
fault_of t p r walk = option_and_then (fault_at t p r) (walk_of t p r walk)
