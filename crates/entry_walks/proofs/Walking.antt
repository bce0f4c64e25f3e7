-- The state of a walk is that of each way that goes by its addresses.
use Rattle.std.proofs.Common.{◌≡◌, ℕ, ◌==◌, ◌&&◌, not, Bool, true, false, List, [], ◌∷◌, ◌++◌, Option, None, Some, option_map, refl, sym, ap, subst, ◌∙◌}
use Rattle.std.specs.Prelude.{option_and_then}
use Rattle.elf_image.specs.declared.fetched.Fetched.{Fetched}
use Rattle.rv_step.specs.Harts.{Hart}
use Rattle.entry_values.specs.declared.states.State.{State}
use Rattle.entry_values.specs.declared.flow.Flow.{Flow}
use Rattle.entry_values.specs.declared.flow.Flow.TheVariants.{On, ByTable, CallTo, Foreign, Past}
use Rattle.entry_tables.specs.Tables.{Table, IsSettled, Reads, returned, foreign}
use Rattle.entry_tables.proofs.Ordering.{some_same}
use Rattle.entry_runs.specs.Walks.{flow_at, Along, begins, steps, jumps, calls, past, passes, IsThere}
use Rattle.entry_runs.proofs.Walking.{there}
use Rattle.entry_walks.specs.declared.stops.Stop.{Stop}
use Rattle.entry_walks.specs.Walks.{is_among, state_if, onto, gone, stepped, step, walked, walk_of, entered}
use Rattle.entry_walks.specs.Ways.{gone_by}

-- a walk one address on
record CameBy (t : Table) (p r : ℕ) (from : Stop) (walk : List ℕ) (b : ℕ) (stop : Stop) : Type 0 where
  pub mid : Stop
  pub before : walked t p r from walk ≡ Some mid
  pub last : step t p r mid b ≡ Some stop

came_by : (t : Table) (p r : ℕ) (walk : List ℕ) (from : Stop) (b : ℕ) (stop : Stop) → walked t p r from (walk ++ b ∷ []) ≡ Some stop → CameBy t p r from walk b stop
came_by t p r [] from b stop e = by (step t p r from b) refl e
  where
    by : (o : Option Stop) → step t p r from b ≡ o → option_and_then (λ after. walked t p r after []) o ≡ Some stop → CameBy t p r from [] b stop
    by None is e = cc
    by (Some after) is e = record { mid = from; before = refl; last = is ∙ e }
came_by t p r (c ∷ walk) from b stop e = by (step t p r from c) refl (λ after. came_by t p r walk after b stop) e
  where
    by : (o : Option Stop) → step t p r from c ≡ o → ((after : Stop) → walked t p r after (walk ++ b ∷ []) ≡ Some stop → CameBy t p r after walk b stop)
        → option_and_then (λ after. walked t p r after (walk ++ b ∷ [])) o ≡ Some stop → CameBy t p r from (c ∷ walk) b stop
    by None is later e = cc
    by (Some after) is later e =
        let came = later after e in
        record { mid = came.mid; before = ap (λ (o : Option Stop). option_and_then (λ next. walked t p r next walk) o) is ∙ came.before; last = came.last }

pub record Comes (stop : Stop) (a : ℕ) (s : State) : Type 0 where
  pub address : stop.address ≡ a
  pub state : stop.state ≡ s

comes_if : (r : ℕ) (mid : Stop) (b : ℕ) (goes : Bool) (u : State) (stop : Stop) → option_map (stepped r mid b) (state_if goes u) ≡ Some stop → Comes stop b u
comes_if r mid b true u stop e =
    let same = some_same e in record { address = ap (λ (c : Stop). c.address) (sym same); state = ap (λ (c : Stop). c.state) (sym same) }
comes_if r mid b false u stop e = cc

-- where a step comes to, by the flow
comes_by : (t : Table) (p r : ℕ) (mid : Stop) (a b : ℕ) (s u : State) (flow : Flow) (goes : Bool) (stop : Stop) → Comes mid a s → flow_at t p a s ≡ flow
    → onto t s a b flow ≡ state_if goes u → step t p r mid b ≡ Some stop → Comes stop b u
comes_by t p r mid a b s u flow goes stop at is there e =
    let same : gone t p mid.address mid.state b ≡ gone t p a s b = (λ i. gone t p (at.address i) (at.state i) b) in
    comes_if r mid b goes u stop
    (ap (λ (o : Option State). option_map (stepped r mid b) o) (sym (same ∙ ap (λ (f : Flow). onto t s a b f) is ∙ there)) ∙ e)

module _ (t : Table) (code : ℕ → Option Fetched) (entry : List ℕ) (p r : ℕ) where
  pub same_stop : (a : ℕ) (s : State) (m : Hart) (stop : Stop) (way : Along t code entry p a s m) → walk_of t p r (gone_by t code entry p a s m way) ≡ Some stop → Comes stop a s
  same_stop a s m stop (begins m0 hart same pc) e =
      let is = some_same e in record { address = ap (λ (c : Stop). c.address) (sym is); state = ap (λ (c : Stop). c.state) (sym is) }
  same_stop a s m stop (steps b v l n targets u before step stays keeps flow is) e =
      let came = came_by t p r (gone_by t code entry p b v l before) (entered p) n.pc stop e in
      comes_by t p r came.mid b n.pc v u (On targets u) (is_among targets n.pc) stop (same_stop b v l came.mid before came.before) flow refl came.last
  same_stop a s m stop (jumps b v l n targets before step stays keeps flow) e =
      let came = came_by t p r (gone_by t code entry p b v l before) (entered p) n.pc stop e in
      comes_by t p r came.mid b n.pc v v (ByTable targets) (is_among targets n.pc) stop (same_stop b v l came.mid before came.before) flow refl came.last
  same_stop a s m stop (calls b v l n q next u before owned call stays keeps flow low guards made is) e =
      let came = came_by t p r (gone_by t code entry p b v l before) (entered p) next stop e in
      let comes = comes_by t p r came.mid b next v (returned (t.summary q) v b next) (CallTo q next) ((t.summary q).returns && not (t.stays_out b) && next == next) stop
      (same_stop b v l came.mid before came.before) flow refl came.last in
      record { address = comes.address; state = comes.state ∙ sym made }
  same_stop a s m stop (past b v l n row next u before made keeps flow is) e =
      let came = came_by t p r (gone_by t code entry p b v l before) (entered p) next stop e in
      comes_by t p r came.mid b next v u (Past row next u) (next == next) stop (same_stop b v l came.mid before came.before) flow refl came.last
  same_stop a s m stop (passes b v l n next u before flow hart pc kept spared made is) e =
      let came = came_by t p r (gone_by t code entry p b v l before) (entered p) next stop e in
      let comes = comes_by t p r came.mid b next v (returned foreign v b next) (Foreign next) (next == next) stop (same_stop b v l came.mid before came.before) flow refl came.last in
      record { address = comes.address; state = comes.state ∙ sym made }

  pub there_by : (a : ℕ) (s : State) (m : Hart) (stop : Stop) → IsSettled t → Reads code t → (way : Along t code entry p a s m)
      → walk_of t p r (gone_by t code entry p a s m way) ≡ Some stop → IsThere entry stop.address stop.state m
  there_by a s m stop settled reads way e =
      let comes = same_stop a s m stop way e in
      let is = there t code settled reads entry p a s m way in
      subst (λ (b : ℕ). IsThere entry b stop.state m) (sym comes.address) (subst (λ (u : State). IsThere entry a u m) (sym comes.state) is)
