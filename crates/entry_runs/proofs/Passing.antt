-- Which flows come of opaque words, and which of marked points.
use Rattle.std.proofs.Common.{◌≡◌, ℕ, ◌+◌, ◌%◌, ◌^◌, Bool, true, false, List, [], ◌∷◌, Option, None, Some, refl, ap, sym, ◌∙◌, subst, if◌then◌else◌, ◌==◌, ◌&&◌, ◌||◌, ℤ}
use Rattle.rv_step.specs.Steps.{even}
use Rattle.entry_values.specs.declared.values.Value.{Value}
use Rattle.entry_values.specs.declared.values.Value.TheVariants.{Is, Any}
use Rattle.entry_values.specs.Values.{plus}
use Rattle.entry_values.specs.declared.states.State.{State}
use Rattle.entry_values.specs.States.{value_at, put}
use Rattle.opaque_words.specs.declared.rows.Row.{Row}
use Rattle.entry_values.specs.Opaque.{opaque_state}
use Rattle.entry_values.specs.declared.flow.Flow.{Flow}
use Rattle.entry_values.specs.declared.flow.Flow.TheVariants.{On, CallTo, Foreign, Past, Return, TailOut, Leave, Stuck, Halt}
use Rattle.entry_values.specs.Flows.{is_entry, is_zero, linked, known_jump, jump_out, unresolved, jump_flow, flow_under}
use Rattle.entry_tables.specs.declared.rows.Line.{Line}
use Rattle.entry_tables.specs.Tables.{next_of, flow_by}
use Rattle.rv_instr.specs.declared.Instr.{Instr}
use Rattle.rv_instr.specs.declared.Instr.TheVariants.{Jal, Jalr, Branch, Ebreak}
use Rattle.entry_runs.specs.Premises.{own_by, own_at}

abbrev pub IsNotPast : Flow → Type 0
IsNotPast (Past row next u) = ⊥
IsNotPast flow = Unit {0}

pub record IsPast (a : ℕ) (s : State) (line : Option Line) (some : Option Row) (row : Row) (u : State) : Type 0 where
  pub own : own_by (Some s) line some ≡ own_at row.width (plus (value_at s row.base) row.imm)
  pub state : u ≡ opaque_state row a s

linked_plain : (rd target next : ℕ) (s : State) → IsNotPast (linked rd target next s)
linked_plain rd target next s = by (rd == 1)
  where
    by : (t : Bool) → IsNotPast (if t then CallTo target next else On (target ∷ []) (put s rd (Is 0 next)))
    by false = tt
    by true = tt

known_plain : (rd rs1 : ℕ) (imm : ℤ) (target next : ℕ) (s : State) → IsNotPast (known_jump rd rs1 imm target next s)
known_plain rd rs1 imm target next s = by (rd == 0 && (rs1 == 1 && is_zero imm))
  where
    by : (t : Bool) → IsNotPast (if t then Leave else linked rd target next s)
    by true = tt
    by false = linked_plain rd target next s

unresolved_plain : (rd rs1 : ℕ) (imm : ℤ) (guess : Option (List ℕ)) (next : ℕ) (s : State) (v : Value) → IsNotPast (unresolved rd rs1 imm guess next s v)
unresolved_plain rd rs1 imm guess next s v = by (rd == 0) (rs1 == 1 && is_zero imm) (rd == 1 || rd == 5)
  where
    tail : (l c : Bool) → IsNotPast (if l then Stuck else if c then TailOut else Stuck)
    tail true c = tt
    tail false true = tt
    tail false false = tt

    out : (g : Option (List ℕ)) → IsNotPast (jump_out g s v)
    out (Some targets) = tt
    out None = tail (is_entry 5 v) (is_entry 2 (value_at s 2) && is_entry 1 (value_at s 1))

    by : (z l c : Bool) → IsNotPast (if z then (if l then Leave else jump_out guess s v) else if c then Foreign next else Stuck)
    by true true c = tt
    by true false c = out guess
    by false l true = tt
    by false l false = tt

jump_plain : (rd rs1 : ℕ) (imm : ℤ) (guess : Option (List ℕ)) (next : ℕ) (s : State) (v : Value) → IsNotPast (jump_flow rd rs1 imm guess next s v)
jump_plain rd rs1 imm guess next s (Any c kind) = unresolved_plain rd rs1 imm guess next s (Any c kind)
jump_plain rd rs1 imm guess next s (Is b k) = by (b == 0) (rd == 0 && (b == 1 && k == 0))
  where
    by : (t u : Bool) → IsNotPast (if t then known_jump rd rs1 imm (even k) next s else if u then Return else unresolved rd rs1 imm guess next s (Is b k))
    by true u = known_plain rd rs1 imm (even k) next s
    by false true = tt
    by false false = unresolved_plain rd rs1 imm guess next s (Is b k)

no_past : (instr : Instr) (guess : Option (List ℕ)) (a next : ℕ) (s : State) → IsNotPast (flow_under instr guess a next s)
no_past (Jal rd off) guess a next s = linked_plain rd _ next s
no_past (Jalr rd rs1 imm) guess a next s = jump_plain rd rs1 imm guess next s (plus (value_at s rs1) imm)
no_past (Branch op rs1 rs2 off) guess a next s = tt
no_past Ebreak guess a next s = tt
no_past instr guess a next s = tt

pub past_is : (a : ℕ) (s : State) (marked : Bool) (line : Option Line) (some : Option Row) (code : Bool) (guess : Option (List ℕ)) (row : Row) (next : ℕ) (u : State)
    → flow_by (Some s) marked line some code guess a ≡ Past row next u → IsPast a s line some row u
past_is a s true line some code guess row next u e = cc
past_is a s false (Some line) some code guess row next u e = absurd (subst IsNotPast e (no_past line.instr guess a (next_of a line) s))
past_is a s false None None true guess row next u e = cc
past_is a s false None None false guess row next u e = cc
past_is a s false None (Some mine) code guess row next u e = by mine.halts e
  where
    by : (h : Bool) → (if h then Halt else Past mine ((a + mine.length) % 2 ^ 64) (opaque_state mine a s)) ≡ Past row next u → IsPast a s None (Some mine) row u
    by true is = cc
    by false is =
        let same : mine ≡ row = cc in
        let state : opaque_state mine a s ≡ u = cc in
        record {
          own = ap (λ (q : Row). own_at q.width (plus (value_at s q.base) q.imm)) same;
          state = sym state ∙ ap (λ (q : Row). opaque_state q a s) same;
        }

-- a flow that the table follows
abbrev pub IsFollowed : Flow → Type 0
IsFollowed Stuck = ⊥
IsFollowed flow = Unit {0}

-- no marked point has it
pub clear_by : (s : State) (marked : Bool) (line : Option Line) (some : Option Row) (code : Bool) (guess : Option (List ℕ)) (a : ℕ) (flow : Flow)
    → flow_by (Some s) marked line some code guess a ≡ flow → IsFollowed flow → marked ≡ false
clear_by s true line some code guess a flow e is = absurd (subst IsFollowed (sym e) is)
clear_by s false line some code guess a flow e is = refl
