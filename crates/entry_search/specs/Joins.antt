-- What two values have in common.
--
--   joined_value v w here     what both say, where here is the address at which they meet
use Rattle.std.specs.Prelude.{ℕ, ◌==◌, ◌&&◌, if◌then◌else◌}
use Rattle.entry_values.specs.declared.values.Value.{Value}
use Rattle.entry_values.specs.declared.values.Value.TheVariants.{Is, Any}
use Rattle.entry_values.specs.declared.values.Kind.TheVariants.{Joined}

abbrev pub joined_value : Value → Value → ℕ → Value
joined_value (Any a kind) w here = Any a kind
joined_value (Is b k) (Is c l) here = if b == c && k == l then Is b k else Any here Joined
joined_value (Is b k) (Any a kind) here = Any here Joined
