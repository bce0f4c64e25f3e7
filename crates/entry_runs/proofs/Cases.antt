-- Worked cases, computed: what straight code makes of the state at an entry.
use Rattle.std.proofs.Common.{◌≡◌, inl, inr, ℕ, ◌+◌, ◌-◌, ◌%◌, ◌^◌, ◌<◌, ◌==◌, ◌&&◌, nat_lt, Bool, true, false, ℤ, pos, negsuc, List, [], ◌∷◌, Contains, length, None, Some, refl, ap, sym, arith, subst}
use Rattle.std.specs.Prelude.{if◌then◌else◌}
use Rattle.std.proofs.lemmas.Grind.{common_steps}
use Rattle.std.proofs.lemmas.Bool.{cases_lt, eqb-true, ltb-true}
use Rattle.std.proofs.lemmas.List.{get_or_past}
use Rattle.std.proofs.lemmas.List.FromFn.{get_or-map-range_with_len, length-map-range_with_len}
use Rattle.rv_step.specs.Steps.{even}
use Rattle.entry_runs.proofs.Leaving.{both}
use Rattle.rv_instr.specs.declared.Instr.{Instr}
use Rattle.rv_instr.specs.declared.Instr.TheVariants.{Lui, Jal, Jalr, Load, Store, Imm, Reg}
use Rattle.rv_instr.specs.declared.LoadOp.TheVariants.{Ld}
use Rattle.rv_instr.specs.declared.StoreOp.TheVariants.{Sd, Sw}
use Rattle.rv_instr.specs.declared.ImmOp.TheVariants.{Addi, Addiw}
use Rattle.rv_instr.specs.declared.RegOp.TheVariants.{Add, Sub}
use Rattle.entry_values.specs.declared.values.Value.TheVariants.{Is, Any}
use Rattle.entry_values.specs.Values.{FitsWord, unknown}
use Rattle.entry_values.specs.declared.states.State.{State}
use Rattle.entry_values.specs.States.{start, value_at, put}
use Rattle.entry_values.specs.Transfers.{state_behind}
use Rattle.entry_values.specs.declared.flow.Flow.TheVariants.{On, CallTo, Return, Leave, Stuck}
use Rattle.entry_values.specs.Flows.{flow_under}
use Rattle.entry_tables.specs.Tables.{Table, foreign, returned, flow_of, HasRow, IsClosed, IsSettled}
use Rattle.entry_values.specs.declared.values.Kind.TheVariants.{Joined, Overwritten}

along : List Instr → ℕ → State → State
along [] pc s = s
along (instr ∷ rest) pc s = along rest (pc + 4) (state_behind instr pc (pc + 4) s)

-- minus n
abbrev minus : ℕ → ℤ
minus n = negsuc (n - 1)

addi : ℕ → ℕ → ℤ → Instr
addi rd rs imm = Imm Addi rd rs imm

-- a frame, and a frame pointer
opening : List Instr
opening = addi 2 2 (minus 32) ∷ Store Sd 2 1 (pos 24) ∷ Store Sd 2 8 (pos 16) ∷ addi 8 2 (pos 32) ∷ []

closing : List Instr
closing = addi 2 8 (pos 0) ∷ addi 2 2 (minus 32) ∷ Load Ld 1 2 (pos 24) ∷ Load Ld 8 2 (pos 16) ∷ addi 2 2 (pos 32) ∷ []

at_call : State
unfolding along opening addi
at_call = along opening 65540 start

calls_there : flow_under (Jal 1 (pos 28)) None 65556 65560 at_call ≡ CallTo 65584 65560
unfolding at_call along opening addi
calls_there = refl

at_end : State
unfolding at_call along opening closing addi
at_end = along closing 65560 (returned foreign at_call 65556 65560)

returns_there : flow_under (Jalr 0 1 (pos 0)) None 65580 65584 at_end ≡ Return
unfolding at_end at_call along opening closing addi
returns_there = refl

sp_there : value_at at_end 2 ≡ Is 2 0
unfolding at_end at_call along opening closing addi
sp_there = refl

saved_there : value_at at_end 8 ≡ Is 8 0
unfolding at_end at_call along opening closing addi
saved_there = refl

-- a slot of another register
crossed : value_at (along (addi 2 2 (minus 32) ∷ Store Sd 2 8 (pos 16) ∷ Store Sd 2 9 (pos 8) ∷ Load Ld 8 2 (pos 8) ∷ []) 65540 start) 8 ≡ Is 9 0
unfolding along addi
crossed = refl

-- a word stored over half a slot
half : value_at (along (addi 2 2 (minus 16) ∷ Store Sd 2 8 (pos 8) ∷ addi 8 0 (pos 5) ∷ Store Sw 2 10 (pos 12) ∷ Load Ld 8 2 (pos 8) ∷ []) 65540 start) 8
    ≡ Any 65552 Overwritten
unfolding along addi
half = refl

-- a frame above two kilobytes
large : value_at (along (addi 2 2 (minus 2032) ∷ Lui 10 2 ∷ Imm Addiw 10 10 (minus 1000) ∷ Reg Sub 2 2 10 ∷ Reg Add 2 2 10 ∷ addi 2 2 (pos 2032) ∷ []) 65540 start) 2
    ≡ Is 2 0
unfolding along addi
large = refl

-- ra lost by a call
lost : flow_under (Jalr 0 1 (pos 0)) None 65592 65596 (returned foreign start 65580 65584) ≡ Leave
lost = refl

-- and by one that keeps it
lost_known : flow_under (Jalr 0 1 (pos 0)) None 65592 65596 (put start 1 (Is 0 65588)) ≡ Leave
lost_known = refl

-- millicode: a link in t0, and a jump by it
linked_back : flow_under (Jalr 0 5 (pos 0)) None 65600 65604 (state_behind (Jal 5 (pos 32)) 65540 65544 start)
    ≡ On (65544 ∷ []) (state_behind (Jal 5 (pos 32)) 65540 65544 start)
linked_back = refl

-- a jump by t0 of the entry goes back to who called by t0: no tail call
by_entry_link : flow_under (Jalr 0 5 (pos 0)) None 65600 65604 start ≡ Stuck
by_entry_link = refl

-- a call is a call wherever sp lies
above_known : flow_under (Jal 1 (pos 28)) None 65556 65560 (state_behind (addi 2 2 (pos 16)) 65552 65556 start) ≡ CallTo 65584 65560
unfolding addi
above_known = refl

above_unknown : flow_under (Jal 1 (pos 28)) None 65556 65560 (put start 2 (Any 65552 Joined)) ≡ CallTo 65584 65560
above_unknown = refl

-- ra and one more goes home, since a jump clears bit 0: no word of ra that a call gives is odd
odd_home : (ra : ℕ) → ra % 2 ≡ 0 → ra < 2 ^ 64 → even ((ra + 1) % 2 ^ 64) ≡ ra
odd_home ra is small = omega arith

-- a settled table: one procedure, which returns at once
pub leaf : Table
leaf = record {
  procedures = 65584 ∷ [];
  row = λ p a. if p == 65584 && a == 65584 then Some start else None;
  summary = λ p. record { returns = true; keeps = λ r. nat_lt r 32 };
  marked = λ p a. false;
  line = λ p a. if a == 65584 then Some (record { instr = Jalr 0 1 (pos 0); length = 4 }) else None;
  opaque = λ a. None;
  has_code = λ a. false;
  guess = λ a. None;
  stays_out = λ a. false;
}

record IsLeaf (p a : ℕ) (s : State) : Type 0 where
  pub procedure : p ≡ 65584
  pub address : a ≡ 65584
  pub state : s ≡ start

leaf_row : (p a : ℕ) (s : State) → leaf.row p a ≡ Some s → IsLeaf p a s
unfolding leaf
leaf_row p a s e = by (p == 65584 && a == 65584) refl e
  where
    by : (t : Bool) → (p == 65584 && a == 65584) ≡ t → (if t then Some start else None) ≡ Some s → IsLeaf p a s
    by false test is = cc
    by true test is =
        let parts = both (p == 65584) (a == 65584) test in
        let same : Some start ≡ Some s = is in
        record { procedure = eqb-true p 65584 parts.0; address = eqb-true a 65584 parts.1; state = (let f : start ≡ s = cc in sym f) }

start_at : (r : ℕ) → r < 32 → value_at start r ≡ Is r 0
start_at r within = get_or-map-range_with_len (λ k. Is k 0) 0 32 r r unknown within (omega arith)

start_fits : (r : ℕ) → FitsWord (value_at start r)
start_fits r = elim (cases_lt r 32) [
  | inl within ↦ subst FitsWord (sym (start_at r within)) (omega arith)
  | inr beyond ↦ subst FitsWord (sym (get_or_past start.values r unknown (let n = length-map-range_with_len (λ k. Is k 0) 0 32 in omega arith))) tt
]

leaf_closed : IsClosed leaf 65584 65584 start (flow_of leaf 65584 65584)
unfolding leaf
leaf_closed = record { returns = refl; kept = λ r keeps. start_at r (ltb-true r 32 keeps) }

pub leaf_settled : IsSettled leaf
unfolding leaf
leaf_settled = record {
  wide = λ p a s is. ap (λ (t : State). length t.values) (leaf_row p a s is).state;
  words = λ p a s is r. subst (λ (t : State). FitsWord (value_at t r)) (sym (leaf_row p a s is).state) (start_fits r);
  entries = λ p has.
      let same : p ≡ 65584 = one p has in
      subst (λ (q : ℕ). HasRow leaf q q start) (sym same) (record { state = start; is = refl; less = record { values = λ r. inl refl; slots = λ o b k has. has } });
  closed = λ p a s is.
      let at = leaf_row p a s is in
      subst (λ (q : ℕ). IsClosed leaf q a s (flow_of leaf q a)) (sym at.procedure)
      (subst (λ (b : ℕ). IsClosed leaf 65584 b s (flow_of leaf 65584 b)) (sym at.address)
      (subst (λ (t : State). IsClosed leaf 65584 65584 t (flow_of leaf 65584 65584)) (sym at.state) leaf_closed));
}
  where
    one : (p : ℕ) → Contains (65584 ∷ []) p → p ≡ 65584
    one p has = grind (arith, common_steps)
