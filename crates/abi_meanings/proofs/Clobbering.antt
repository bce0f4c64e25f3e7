-- A register that is told to be clobbered has the told word where the walk ends.
use Rattle.std.proofs.Common.{◌≡◌, ◌≢◌, ℕ, ◌+◌, ◌%◌, ◌^◌, ◌<◌, ◌≤◌, ◌==◌, nat_lt, ◌&&◌, not, Bool, true, false, List, slice_index, Option, None, Some, refl, sym, ap, subst, ◌∙◌, inl, inr, arith}
use Rattle.std.specs.Prelude.{if◌then◌else◌, option_and_then}
use Rattle.std.proofs.lemmas.Bool.{cases_lt, eqb-true, ltb-false}
use Rattle.std.proofs.lemmas.List.{get_or_past}
use Rattle.std.proofs.lemmas.List.FromFn.{get_or-map-range_with_len, length-map-range_with_len}
use Rattle.elf_image.specs.declared.fetched.Fetched.{Fetched}
use Rattle.rv_step.specs.Harts.{Hart, x}
use Rattle.rv_step.specs.Steps.{even}
use Rattle.entry_values.specs.Values.{Means, FitsWord, unknown}
use Rattle.entry_values.specs.declared.values.Value.{Value}
use Rattle.entry_values.specs.declared.values.Value.TheVariants.{Is}
use Rattle.entry_values.specs.declared.states.State.{State}
use Rattle.entry_values.specs.States.{value_at, values_of, start}
use Rattle.entry_values.specs.declared.flow.Flow.{Flow}
use Rattle.entry_values.specs.declared.flow.Flow.TheVariants.{On, ByTable, CallTo, Foreign, Past, Return, TailOut, Leave, Stuck, Halt}
use Rattle.entry_tables.specs.Tables.{Table, IsSettled, Reads}
use Rattle.entry_tables.proofs.Ordering.{some_same}
use Rattle.entry_runs.specs.Walks.{flow_at, Along, begins, steps, jumps, calls, past, passes}
use Rattle.entry_walks.specs.declared.stops.Stop.{Stop}
use Rattle.entry_walks.specs.Walks.{walk_of}
use Rattle.entry_walks.specs.Ways.{gone_by}
use Rattle.entry_walks.proofs.Walking.{same_stop, there_by}
use Rattle.abi_verdicts.specs.declared.ways.End.{End}
use Rattle.abi_verdicts.specs.declared.faults.Fault.{Fault}
use Rattle.abi_verdicts.specs.declared.verdicts.Cause.{Cause}
use Rattle.abi_verdicts.specs.declared.verdicts.Verdict.TheVariants.{Kept, Never, Clobbered}
use Rattle.abi_verdicts.specs.Ends.{has_end}
use Rattle.abi_verdicts.specs.Faults.{shows, fault_at, fault_of}
use Rattle.abi_verdicts.specs.Verdicts.{verdict_of, by_fault, is_kept, cause_of, first_cause}
use Rattle.abi_meanings.specs.Meanings.{IsOff}

both : (a b : Bool) → (a && b) ≡ true → (a ≡ true) × (b ≡ true)
both true b e = (refl, e)
both false b e = cc

fault_by : (k : Bool) (has : Bool) (o : Option Fault) (cause : Cause) (fault : Fault) → (if k then Kept else if has then by_fault o cause else Never) ≡ Clobbered fault → o ≡ Some fault
fault_by true has o cause fault e = cc
fault_by false true None cause fault e = cc
fault_by false true (Some f) cause fault e = cc
fault_by false false o cause fault e = cc

-- the walk comes to a stop, where its fault shows
record ShownAt (t : Table) (p r : ℕ) (walk : List ℕ) (fault : Fault) : Type 0 where
  pub stop : Stop
  pub comes : walk_of t p r walk ≡ Some stop
  pub showing : shows r (value_at stop.state r) (flow_at t p stop.address stop.state) ≡ true
  pub address : stop.address ≡ fault.address
  pub value : value_at stop.state r ≡ fault.value

shown_if : (t : Table) (p r : ℕ) (walk : List ℕ) (fault : Fault) (stop : Stop) → walk_of t p r walk ≡ Some stop → (b : Bool)
    → shows r (value_at stop.state r) (flow_at t p stop.address stop.state) ≡ b
    → (if b then Some (record { changed = stop.changed; address = stop.address; value = value_at stop.state r }) else None) ≡ Some fault → ShownAt t p r walk fault
shown_if t p r walk fault stop is true showing e =
    let same = some_same e in
    record { stop = stop; comes = is; showing = showing; address = ap (λ (f : Fault). f.address) same; value = ap (λ (f : Fault). f.value) same }
shown_if t p r walk fault stop is false showing e = cc

shown_at : (t : Table) (p r : ℕ) (walk : List ℕ) (fault : Fault) → fault_of t p r walk ≡ Some fault → ShownAt t p r walk fault
shown_at t p r walk fault e = by (walk_of t p r walk) refl e
  where
    by : (o : Option Stop) → walk_of t p r walk ≡ o → option_and_then (fault_at t p r) o ≡ Some fault → ShownAt t p r walk fault
    by None is e = cc
    by (Some stop) is e = shown_if t p r walk fault stop is (shows r (value_at stop.state r) (flow_at t p stop.address stop.state)) refl e

start_fits : (r : ℕ) → FitsWord (value_at start r)
start_fits r = elim (cases_lt r 32) [
  | inl within ↦ subst FitsWord (sym (get_or-map-range_with_len (λ k. Is k 0) 0 32 r r unknown within (omega arith))) (omega arith)
  | inr beyond ↦
      subst FitsWord (sym (get_or_past (values_of (λ k. Is k 0)) r unknown (let n = length-map-range_with_len (λ k. Is k 0) 0 32 in omega arith))) tt
]

fits_along : (t : Table) (code : ℕ → Option Fetched) (entry : List ℕ) (p a : ℕ) (s : State) (m : Hart) → Along t code entry p a s m → (r : ℕ) → FitsWord (value_at s r)
fits_along t code entry p a s m (begins m0 hart same pc) r = start_fits r
fits_along t code entry p a s m (steps b v l n targets u before step stays keeps flow is) r = is.words r
fits_along t code entry p a s m (jumps b v l n targets before step stays keeps flow) r = fits_along t code entry p b v l before r
fits_along t code entry p a s m (calls b v l n q next u before owned call stays keeps flow low guards made is) r = is.words r
fits_along t code entry p a s m (past b v l n row next u before made keeps flow is) r = is.words r
fits_along t code entry p a s m (passes b v l n next u before flow hart pc kept spared made is) r = is.words r

-- a word and a number more
never_same : (e k w : ℕ) → k < 2 ^ 64 → k ≢ 0 → w ≡ (e + k) % 2 ^ 64 → w ≢ e
never_same e k w fits some is same = some (omega arith)

never_home : (e k w : ℕ) → k < 2 ^ 64 → 2 ≤ k → w ≡ (e + k) % 2 ^ 64 → even e ≡ e → even w ≢ e
never_home e k w fits big is evens same = omega arith

-- what an end shows of a value that is known
record Shows (r b k : ℕ) : Type 0 where
  pub own : r ≢ 1 → b ≡ r → k ≢ 0
  pub away : r ≡ 1 → b ≡ 1 → 2 ≤ k

number_same : (n : ℕ) → (n == n) ≡ true
number_same n = search arith

not_one : (r : ℕ) (c : Bool) → (not (r == 1) && c) ≡ true → r ≡ 1 → ⊥
not_one r c e is = by (subst (λ (n : ℕ). (not (n == 1) && c) ≡ true) is e)
  where
    by : (not (1 == 1) && c) ≡ true → ⊥
    by e = cc

lost_shows : (r b k : ℕ) → (not (r == 1) && not (b == r && k == 0)) ≡ true → Shows r b k
lost_shows r b k e =
    record {
      own = λ other same none.
          let lost = (both (not (r == 1)) (not (b == r && k == 0)) e).1 in
          unlike (subst (λ (n : ℕ). not (n == r && 0 == 0) ≡ true) same (subst (λ (n : ℕ). not (b == r && n == 0) ≡ true) none lost));
      away = λ is. absurd (not_one r (not (b == r && k == 0)) e is);
    }
  where
    unlike : not (r == r && 0 == 0) ≡ true → ⊥
    unlike e = let f : not (r == r && 0 == 0) ≡ false = ap (λ (t : Bool). not (t && true)) (number_same r) in cc

not_less : (x : Bool) → not (1 == 1 && x) ≡ true → x ≡ false
not_less true e = cc
not_less false e = refl

away_shows : (r b k : ℕ) → (r == 1 && not (b == 1 && nat_lt k 2)) ≡ true → Shows r b k
away_shows r b k e =
    let parts = both (r == 1) (not (b == 1 && nat_lt k 2)) e in
    record {
      own = λ other. absurd (other (eqb-true r 1 parts.0));
      away = λ is same. ltb-false k 2 (not_less (nat_lt k 2) (subst (λ (n : ℕ). not (n == 1 && nat_lt k 2) ≡ true) same parts.1));
    }

known_shows : (r b k : ℕ) (flow : Flow) → shows r (Is b k) flow ≡ true → Shows r b k
known_shows r b k Return e = lost_shows r b k e
known_shows r b k TailOut e = lost_shows r b k e
known_shows r b k Leave e = away_shows r b k e
known_shows r b k (On targets u) e = cc
known_shows r b k (ByTable targets) e = cc
known_shows r b k (CallTo q next) e = cc
known_shows r b k (Foreign next) e = cc
known_shows r b k (Past row next u) e = cc
known_shows r b k Stuck e = cc
known_shows r b k Halt e = cc

off_of : (entry : List ℕ) (r b k w : ℕ) → k < 2 ^ 64 → Shows r b k → w ≡ (slice_index entry b + k) % 2 ^ 64 → IsOff entry r b k w
off_of entry r b k w fits shown is = record {
  word = is;
  own = λ other same.
      subst (λ (c : ℕ). w ≢ slice_index entry c) same (never_same (slice_index entry b) k w fits (shown.own other same) is);
  home = λ link same evens.
      never_home (slice_index entry 1) k w fits (shown.away link same) (subst (λ (c : ℕ). w ≡ (slice_index entry c + k) % 2 ^ 64) same is) evens;
}

pub off_there : (t : Table) (code : ℕ → Option Fetched) (ends : List End) (ending : List ℕ) (entry : List ℕ) (p r a : ℕ) (s : State) (m : Hart) → IsSettled t → Reads code t
    → (way : Along t code entry p a s m) (fault : Fault) → verdict_of t ends ending p r (gone_by t code entry p a s m way) ≡ Clobbered fault
    → (b k : ℕ) → fault.value ≡ Is b k → (m.pc ≡ fault.address) × IsOff entry r b k (x m r)
off_there t code ends ending entry p r a s m settled reads way fault told b k known =
    let walk = gone_by t code entry p a s m way in
    let shown = shown_at t p r walk fault
    (fault_by (is_kept (t.summary p) p r ends) (has_end ending p ends) (fault_of t p r walk) (cause_of p (first_cause ending p r ends)) fault told) in
    let there = there_by t code entry p r a s m shown.stop settled reads way shown.comes in
    let comes = same_stop t code entry p r a s m shown.stop way shown.comes in
    let value : value_at shown.stop.state r ≡ Is b k = shown.value ∙ known in
    let fits : k < 2 ^ 64 =
    subst FitsWord value (subst (λ (u : State). FitsWord (value_at u r)) (sym comes.state) (fits_along t code entry p a s m way r)) in
    let means : Means entry (Is b k) (x m r) = subst (λ (v : Value). Means entry v (x m r)) value (there.described.registers r) in
    let shows_it : shows r (Is b k) (flow_at t p shown.stop.address shown.stop.state) ≡ true =
    subst (λ (v : Value). shows r v (flow_at t p shown.stop.address shown.stop.state) ≡ true) value shown.showing in (
      there.pc ∙ shown.address,
      off_of entry r b k (x m r) fits (known_shows r b k (flow_at t p shown.stop.address shown.stop.state) shows_it) means,
    )
