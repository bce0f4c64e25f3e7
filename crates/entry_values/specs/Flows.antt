-- Where a run goes from a point, as far as the state there tells.
--
--   Flow                         On ts s: on to one of the addresses, with this state; ByTable ts: on by a jump whose
--                                targets are taken to be these, with the state as it is; CallTo q next: a call of q,
--                                next the address behind it; Foreign next: a call of code that isn't known; Past row next s:
--                                on, by an opaque instruction; Return: to the word that ra had at the entry; TailOut: to
--                                code that isn't known, which returns there; Leave: by ra, with another word; Stuck: a jump
--                                that isn't resolved, or a word that means nothing; Halt: no step
--   is_entry r v                 it is the entry's word of r
--   is_zero z                    it is 0
--   linked rd target next s      a jump to a known address, which is a call where rd is ra
--   known_jump rd rs1 imm target next s
--                                a jump by a register to a known address: one by ra that links nothing leaves, since ra has
--                                another word than at the entry
--   tail_flow v s                a jump to v whose targets aren't known. One to the word that t0 had at the entry goes back
--                                to who called by t0, and that is no tail call
--   jump_out guess s v           it, or one to the targets that are taken for it
--   unresolved                   a jump to an address that isn't known, v
--   jump_flow                    a jump by a register, to the address v
--   flow_under instr guess pc next s
--                                the flow of an instruction at pc, next the address behind it, guess the targets that are
--                                taken for a jump there
use Rattle.std.specs.Prelude.{ℕ, ◌==◌, ◌&&◌, ◌||◌, Bool, false, ℤ, pos, negsuc, ◌+ℤ◌, List, [], ◌∷◌, Option, None, Some, if◌then◌else◌}
use Rattle.rv_instr.specs.declared.Instr.{Instr}
use Rattle.rv_instr.specs.declared.Instr.TheVariants.{Jal, Jalr, Branch, Ebreak}
use Rattle.rv_step.specs.Words.{word}
use Rattle.rv_step.specs.Steps.{even}
use Rattle.entry_values.specs.declared.flow.Flow.{Flow}
use Rattle.entry_values.specs.declared.flow.Flow.TheVariants.{On, ByTable, CallTo, Foreign, Return, TailOut, Leave, Stuck, Halt}
use Rattle.entry_values.specs.declared.values.Value.{Value}
use Rattle.entry_values.specs.declared.values.Value.TheVariants.{Is, Any}
use Rattle.entry_values.specs.declared.states.State.{State}
use Rattle.entry_values.specs.Values.{plus}
use Rattle.entry_values.specs.States.{value_at, put}
use Rattle.entry_values.specs.Transfers.{state_behind}

abbrev pub is_entry : ℕ → Value → Bool
is_entry r (Is b k) = b == r && k == 0
is_entry r (Any a kind) = false

abbrev pub is_zero : ℤ → Bool
is_zero (pos n) = n == 0
is_zero (negsuc n) = false

abbrev pub linked : ℕ → ℕ → ℕ → State → Flow
linked rd target next s =
    if rd == 1 then CallTo target next else On (target ∷ []) (put s rd (Is 0 next))

abbrev pub known_jump : ℕ → ℕ → ℤ → ℕ → ℕ → State → Flow
known_jump rd rs1 imm target next s = if rd == 0 && (rs1 == 1 && is_zero imm) then Leave else linked rd target next s

abbrev pub tail_flow : Value → State → Flow
tail_flow v s =
    if is_entry 5 v then Stuck else if is_entry 2 (value_at s 2) && is_entry 1 (value_at s 1) then TailOut else Stuck

abbrev pub jump_out : Option (List ℕ) → State → Value → Flow
jump_out (Some targets) s v = ByTable targets
jump_out None s v = tail_flow v s

abbrev pub unresolved : ℕ → ℕ → ℤ → Option (List ℕ) → ℕ → State → Value → Flow
unresolved rd rs1 imm guess next s v =
    if rd == 0 then (if rs1 == 1 && is_zero imm then Leave else jump_out guess s v)
    else if rd == 1 || rd == 5 then Foreign next else Stuck

abbrev pub jump_flow : ℕ → ℕ → ℤ → Option (List ℕ) → ℕ → State → Value → Flow
jump_flow rd rs1 imm guess next s (Is b k) =
    if b == 0 then known_jump rd rs1 imm (even k) next s
    else if rd == 0 && (b == 1 && k == 0) then Return else unresolved rd rs1 imm guess next s (Is b k)
jump_flow rd rs1 imm guess next s (Any a kind) = unresolved rd rs1 imm guess next s (Any a kind)

abbrev pub flow_under : Instr → Option (List ℕ) → ℕ → ℕ → State → Flow
flow_under (Jal rd off) guess pc next s = linked rd (word (pos pc +ℤ off)) next s
flow_under (Jalr rd rs1 imm) guess pc next s = jump_flow rd rs1 imm guess next s (plus (value_at s rs1) imm)
flow_under (Branch op rs1 rs2 off) guess pc next s = On (next ∷ word (pos pc +ℤ off) ∷ []) s
flow_under Ebreak guess pc next s = Halt
flow_under instr guess pc next s = On (next ∷ []) (state_behind instr pc next s)
