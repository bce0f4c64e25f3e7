-- Walks of a procedure from address to address, each with the state that the walk itself makes, without joins.
--
--   is_among targets b       the address is one of them
--   state_if                 a state, or none
--   onto t s a b flow        the state at b, where this flow goes from a, under the state s, on to b
--   gone t p a s b           it, by the flow of what stands at a
--   same_value v w           the two say the same: nothing more is asked of two that claim nothing than one instruction
--   Stop                     where a walk has come to: the address, the state there, and the point of the walk at which what is
--                            known of a register changed last
--   stepped r stop b u       the stop, gone on to b with the state u
--   step t p r stop b        it, where the flow goes on to b
--   walked t p r stop walk   where a walk comes to that goes on by these addresses
--   entered p                where it begins: the entry of p
--   walk_of t p r walk       where the walk from the entry of p by these addresses comes to
use Rattle.std.specs.Prelude.{ℕ, ◌==◌, not, ◌&&◌, Bool, true, false, List, [], ◌∷◌, Option, None, Some, option_map, option_and_then, if◌then◌else◌}
use Rattle.entry_values.specs.declared.values.Value.{Value}
use Rattle.entry_values.specs.declared.values.Value.TheVariants.{Is, Any}
use Rattle.entry_values.specs.declared.states.State.{State}
use Rattle.entry_values.specs.States.{value_at, start}
use Rattle.entry_values.specs.declared.flow.Flow.{Flow}
use Rattle.entry_values.specs.declared.flow.Flow.TheVariants.{On, ByTable, CallTo, Foreign, Past, Return, TailOut, Leave, Stuck, Halt}
use Rattle.entry_tables.specs.Tables.{Table, returned, foreign}
use Rattle.entry_runs.specs.Walks.{flow_at}
use Rattle.entry_walks.specs.declared.stops.Stop.{Stop}

abbrev pub is_among : List ℕ → ℕ → Bool
is_among [] b = false
is_among (target ∷ rest) b = if target == b then true else is_among rest b

abbrev pub state_if : Bool → State → Option State
state_if true u = Some u
state_if false u = None

abbrev pub onto : Table → State → ℕ → ℕ → Flow → Option State
onto t s a b (On targets u) = state_if (is_among targets b) u
onto t s a b (ByTable targets) = state_if (is_among targets b) s
onto t s a b (CallTo q next) =
    state_if ((t.summary q).returns && not (t.stays_out a) && next == b) (returned (t.summary q) s a next)
onto t s a b (Foreign next) = state_if (next == b) (returned foreign s a next)
onto t s a b (Past row next u) = state_if (next == b) u
onto t s a b flow = None

abbrev pub gone : Table → ℕ → ℕ → State → ℕ → Option State
gone t p a s b = onto t s a b (flow_at t p a s)

abbrev pub same_value : Value → Value → Bool
same_value (Is b k) (Is c l) = b == c && k == l
same_value (Is b k) (Any c kind) = false
same_value (Any a kind) (Is c l) = false
same_value (Any a kind) (Any c other) = a == c

abbrev pub stepped : ℕ → Stop → ℕ → State → Stop
stepped r stop b u = record {
  address = b;
  state = u;
  changed = if same_value (value_at stop.state r) (value_at u r) then stop.changed else stop.address;
}

abbrev pub step : Table → ℕ → ℕ → Stop → ℕ → Option Stop
step t p r stop b = option_map (stepped r stop b) (gone t p stop.address stop.state b)

abbrev pub walked : Table → ℕ → ℕ → Stop → List ℕ → Option Stop
walked t p r stop [] = Some stop
walked t p r stop (b ∷ rest) = option_and_then (λ after. walked t p r after rest) (step t p r stop b)

abbrev pub entered : ℕ → Stop
entered p = record { address = p; state = start; changed = p }

abbrev pub walk_of : Table → ℕ → ℕ → List ℕ → Option Stop
walk_of t p r walk = walked t p r (entered p) walk
