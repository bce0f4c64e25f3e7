-- Walks and the frames of runs that go by them.
--
--   gone_by way              the addresses to which a frame that has gone along a way has come, its entry left out; behind a
--                            call that was stepped over, the address behind it
--   WalksAreDescribed        where a frame has gone by the addresses of a walk, the machine is where the walk comes to, and the
--                            walk's own state describes it
use Rattle.std.specs.Prelude.{◌≡◌, ℕ, List, [], ◌∷◌, ◌++◌, Option, Some}
use Rattle.elf_image.specs.declared.fetched.Fetched.{Fetched}
use Rattle.rv_step.specs.Harts.{Hart}
use Rattle.entry_values.specs.declared.states.State.{State}
use Rattle.entry_tables.specs.Tables.{Table, IsSettled, Reads}
use Rattle.entry_runs.specs.Walks.{Along, begins, steps, jumps, calls, past, passes, IsThere}
use Rattle.entry_walks.specs.declared.stops.Stop.{Stop}
use Rattle.entry_walks.specs.Walks.{walk_of}

abbrev pub gone_by : (t : Table) (code : ℕ → Option Fetched) (entry : List ℕ) (p a : ℕ) (s : State) (m : Hart) → Along t code entry p a s m → List ℕ
gone_by t code entry p a s m (begins m0 hart same pc) = []
gone_by t code entry p a s m (steps b v l n targets u before step stays keeps flow is) = gone_by t code entry p b v l before ++ n.pc ∷ []
gone_by t code entry p a s m (jumps b v l n targets before step stays keeps flow) = gone_by t code entry p b v l before ++ n.pc ∷ []
gone_by t code entry p a s m (calls b v l n q next u before owned call stays keeps flow low guards made is) = gone_by t code entry p b v l before ++ next ∷ []
gone_by t code entry p a s m (past b v l n row next u before made keeps flow is) = gone_by t code entry p b v l before ++ next ∷ []
gone_by t code entry p a s m (passes b v l n next u before flow hart pc kept spared made is) = gone_by t code entry p b v l before ++ next ∷ []

abbrev pub WalksAreDescribed : Type 0
WalksAreDescribed =
    (t : Table) (code : ℕ → Option Fetched) (entry : List ℕ) (p a : ℕ) (s : State) (m : Hart) (r : ℕ) (stop : Stop) → IsSettled t → Reads code t
    → (way : Along t code entry p a s m) → walk_of t p r (gone_by t code entry p a s m way) ≡ Some stop → IsThere entry stop.address stop.state m
