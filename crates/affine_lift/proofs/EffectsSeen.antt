-- What an instruction assigns and reads is seen in its procedure.
use Rattle.std.proofs.Common.{◌≡◌, ◌∙◌, ℕ, zero, suc, ◌+◌, ◌==◌, Bool, true, false, cond, ◌&&◌, List, [], ◌∷◌, slice_get, position, All, Option, None, Some, IfSome, IsTrue, add-zero, ℤ, pos, negsuc, refl, sym, ap, subst, arith, filter_map}
use Rattle.std.specs.List.{cons_option, enumerate_from}
use Rattle.std.specs.Option.{option_map_or}
use Rattle.std.proofs.lemmas.Bool.{eqb-true, ne_eqb}
use Rattle.std.proofs.lemmas.List.Elements.{All-append, All-cons, All-nil}
use Rattle.word_rows.specs.Words.{word}
use Rattle.word_rows.proofs.Laws.{unit_elsewhere}
use Rattle.row_modules.specs.Positions.{has, with_constant, IsZeroOutside}
use Rattle.row_modules.proofs.Laws.{has_left, in_not_out, zero_outside_below}
use Rattle.map_modules.proofs.Entries.{get_or-vector, IsRow-vector}
use Rattle.affine_prog.specs.Programs.{IsAssignIn}
use Rattle.affine_prog.specs.declared.Assign.{Assign}
use Rattle.affine_prog.specs.declared.Assign.TheVariants.{Affine, Any}
use Rattle.flow_points.specs.declared.code_points.CodePoint.{CodePoint}
use Rattle.rv_instr.specs.declared.Instr.{Instr}
use Rattle.rv_instr.specs.declared.Instr.TheVariants.{Lui, Auipc, Jal, Jalr, Branch, Load, Store, Imm, Shift, Reg, Fence, Ecall, Ebreak}
use Rattle.rv_instr.specs.declared.LoadOp.{LoadOp}
use Rattle.rv_instr.specs.declared.LoadOp.TheVariants.{Lb, Lh, Lw, Ld, Lbu, Lhu, Lwu}
use Rattle.rv_instr.specs.declared.ImmOp.{ImmOp}
use Rattle.rv_instr.specs.declared.ImmOp.TheVariants.{Addi, Xori}
use Rattle.rv_instr.specs.declared.ShiftOp.{ShiftOp}
use Rattle.rv_instr.specs.declared.ShiftOp.TheVariants.{Slli}
use Rattle.rv_instr.specs.declared.RegOp.{RegOp}
use Rattle.rv_instr.specs.declared.RegOp.TheVariants.{Add, Sub, Or, Xor, And, Mul}
use Rattle.flow_points.specs.declared.code_points.Flow.{Flow}
use Rattle.flow_points.specs.declared.code_points.Flow.TheVariants.{Call}
use Rattle.report_text.specs.declared.names.Name.{Name}
use Rattle.report_text.specs.declared.names.Name.TheVariants.{Register, Slot}
use Rattle.report_text.specs.Names.{IsSeenIn}
use Rattle.affine_lift.specs.declared.width.Width.{Width}
use Rattle.affine_lift.specs.declared.value.Term.{Term}
use Rattle.affine_lift.specs.declared.value.Value.{Value}
use Rattle.affine_lift.specs.declared.value.Value.TheVariants.{Linear, Held, Unknown}
use Rattle.affine_lift.specs.declared.store.FrameStore.{FrameStore}
use Rattle.affine_lift.specs.Values.{upper, beside_zero, constant, imm_value, link_value, reg_value, shift_value, assigned, factor_of, is_register, multiple, place_of, row_of, is_nameable}
use Rattle.affine_lift.specs.FrameSlots.{is_slot_at, loaded, stored_by, stored_in_by, stored_word_by, store_of, touches_by, width_of, is_whole_by, slot_offset}
use Rattle.affine_lift.specs.Effects.{effect_at_by, instr_in, register_effect, result_in, slot_effect_by}
use Rattle.affine_lift.proofs.FirstPlaces.{position_within}

-- each name that is seen in the procedure p has its position in the set
abbrev pub Sees : ℕ → ℕ → List Name → Type 0
Sees set p names = (k : ℕ) (name : Name) → slice_get names k ≡ Some name → IsSeenIn p name → IsTrue (has set k)

abbrev IsHeldSeen : ℕ → Value → Type 0
IsHeldSeen set (Held k) = IsTrue (has set k)
IsHeldSeen set value = Unit {0}

both_true : (a b : Bool) → (a && b) ≡ true → a ≡ true
both_true true b e = refl
both_true false b e = e

module _ (w : Width) (set p : ℕ) (names : List Name) (sees : Sees set p names) where
  row_seen : (f g : Term) (c : ℕ) → IsZeroOutside (with_constant set) (row_of names f g c)
  row_seen f g c =
      zero_outside_below set (row_of names f g c) (IsRow-vector _).width (λ k below out.
      let none : cond (k == 16) c (option_map_or (factor_of f g) (slice_get names k) 0) ≡ 0 =
      rw (ne_eqb k 16 (λ e. omega arith)) (by k out (slice_get names k) refl) in
      get_or-vector _ k (omega arith) ∙ ap word none)
    where
      by : (k : ℕ) → has set k ≡ false → (o : Option Name) → slice_get names k ≡ o → option_map_or (factor_of f g) o 0 ≡ 0
      by k out None e = refl
      by k out (Some (Register r)) e = absurd (in_not_out set k (sees k (Register r) e tt) out)
      by k out (Some (Slot q n)) e = refl

  assigned_seen : (i : ℕ) (value : Value) → IsTrue (has set i) → IsHeldSeen set value → IsAssignIn set (assigned names i value)
  assigned_seen i (Linear f g c) here held = by (is_nameable names f g f && is_nameable names f g g)
    where
      by : (b : Bool) → IsAssignIn set (cond b (Affine i (row_of names f g c)) (Any i))
      by true = (here, row_seen f g c)
      by false = here
  assigned_seen i (Held k) here held =
      (here, λ j out. unit_elsewhere 17 k j (λ e. in_not_out (with_constant set) j (rw e (has_left set _ k held)) out))
  assigned_seen i Unknown here held = here

  register_seen : (r : ℕ) (value : Value) → IsHeldSeen set value → All (IsAssignIn set) (register_effect names (Some (r, value)))
  register_seen r value held = by (place_of names r) refl
    where
      register_at : (i : ℕ) → place_of names r ≡ Some i → IsTrue (has set i)
      register_at i e =
          let found = position_within (is_register r) names i e in
          sees i found.0 found.1 (is found.0 found.2)
        where
          is : (name : Name) → is_register r name ≡ true → IsSeenIn p name
          is (Register q) e = tt
          is (Slot q n) e = cc

      by : (o : Option ℕ) → place_of names r ≡ o → All (IsAssignIn set) (option_map_or (λ i. assigned names i value ∷ []) o [])
      by None e = All-nil (IsAssignIn set)
      by (Some i) e = All-cons (IsAssignIn set) (assigned names i value) [] (assigned_seen i value (register_at i e) held) (All-nil (IsAssignIn set))

  loaded_seen : (op : LoadOp) (access : Option ℕ) → IsHeldSeen set (loaded names p op access)
  loaded_seen Ld None = tt
  loaded_seen Ld (Some e) = by (position (is_slot_at p e) names) refl
    where
      slot_at : (k : ℕ) → position (is_slot_at p e) names ≡ Some k → IsTrue (has set k)
      slot_at k at =
          let found = position_within (is_slot_at p e) names k at in
          sees k found.0 found.1 (is found.0 found.2)
        where
          is : (name : Name) → is_slot_at p e name ≡ true → IsSeenIn p name
          is (Register r) h = tt
          is (Slot q n) h = eqb-true q p (both_true (q == p) (e == slot_offset n) h)

      by : (o : Option ℕ) → position (is_slot_at p e) names ≡ o → IsHeldSeen set (option_map_or Held o Unknown)
      by None at = tt
      by (Some k) at = slot_at k at
  loaded_seen Lb access = tt
  loaded_seen Lh access = tt
  loaded_seen Lw access = tt
  loaded_seen Lbu access = tt
  loaded_seen Lhu access = tt
  loaded_seen Lwu access = tt

  stored_seen : (s : FrameStore) (k : ℕ) (name : Name) → slice_get names k ≡ Some name → IfSome (stored_in_by w names p s k name) (IsAssignIn set)
  stored_seen s k (Register r) at = tt
  stored_seen s k (Slot q n) at = by (q == p && touches_by w (width_of s.op) s.offset n) refl
    where
      word_seen : IsTrue (has set k) → (b : Bool) → IsAssignIn set (cond b (assigned names k (multiple 1 s.register)) (Any k))
      word_seen here true = assigned_seen k (multiple 1 s.register) here tt
      word_seen here false = here

      by : (b : Bool) → (q == p && touches_by w (width_of s.op) s.offset n) ≡ b → IfSome (cond b (Some (stored_word_by w names s k n)) None) (IsAssignIn set)
      by true e =
          let own = eqb-true q p (both_true (q == p) (touches_by w (width_of s.op) s.offset n) e) in
          word_seen (sees k (Slot q n) at own) (is_whole_by w s.op && s.offset == slot_offset n)
      by false e = tt

  stores_seen : (s : FrameStore) (k : ℕ) (rest : List Name) → ((j : ℕ) (name : Name) → slice_get rest j ≡ Some name → slice_get names (k + j) ≡ Some name)
      → All (IsAssignIn set) (filter_map (stored_by w names p s) (enumerate_from k rest))
  stores_seen s k [] at = All-nil (IsAssignIn set)
  stores_seen s k (name ∷ rest) at =
      one (stored_in_by w names p s k name) (stored_seen s k name (subst (λ (j : ℕ). slice_get names j ≡ Some name) (add-zero k) (at 0 name refl)))
      (stores_seen s (k + 1) rest (λ j other there. subst (λ (i : ℕ). slice_get names i ≡ Some other) (omega arith) (at (suc j) other there)))
    where
      one : (o : Option Assign) → IfSome o (IsAssignIn set) → All (IsAssignIn set) (filter_map (stored_by w names p s) (enumerate_from (k + 1) rest))
          → All (IsAssignIn set) (cons_option o (filter_map (stored_by w names p s) (enumerate_from (k + 1) rest)))
      one None seen all = all
      one (Some assign) seen all = All-cons (IsAssignIn set) assign _ seen all

  -- values that hold no tracked name's word
  link_seen : (flow : Flow) → IsHeldSeen set (link_value flow)
  link_seen (Call target next) = tt
  link_seen flow = tt

  imm_seen : (op : ImmOp) (rs1 : ℕ) (imm : ℤ) → IsHeldSeen set (imm_value op rs1 imm)
  imm_seen Addi rs1 imm = tt
  imm_seen Xori rs1 (pos n) = tt
  imm_seen Xori rs1 (negsuc zero) = tt
  imm_seen Xori rs1 (negsuc (suc n)) = tt
  imm_seen op rs1 imm = tt

  shift_seen : (op : ShiftOp) (rs1 by : ℕ) → IsHeldSeen set (shift_value op rs1 by)
  shift_seen Slli rs1 by = tt
  shift_seen op rs1 by = tt

  multiple_seen : (o : Option ℕ) → IsHeldSeen set (option_map_or (multiple 1) o Unknown)
  multiple_seen None = tt
  multiple_seen (Some r) = tt

  zero_seen : (o : Option ℕ) → IsHeldSeen set (option_map_or (λ r. constant 0) o Unknown)
  zero_seen None = tt
  zero_seen (Some r) = tt

  reg_seen : (op : RegOp) (rs1 rs2 : ℕ) → IsHeldSeen set (reg_value op rs1 rs2)
  reg_seen Add rs1 rs2 = tt
  reg_seen Sub rs1 rs2 = tt
  reg_seen Or rs1 rs2 = multiple_seen (beside_zero rs1 rs2)
  reg_seen Xor rs1 rs2 = multiple_seen (beside_zero rs1 rs2)
  reg_seen And rs1 rs2 = zero_seen (beside_zero rs1 rs2)
  reg_seen Mul rs1 rs2 = zero_seen (beside_zero rs1 rs2)
  reg_seen op rs1 rs2 = tt

  result_seen : (c : CodePoint) (access : Option ℕ) (instr : Instr) → c.point.proc_entry ≡ p
      → All (IsAssignIn set) (register_effect names (result_in names c access instr))
  result_seen c access (Lui rd imm) e = register_seen rd (constant (upper imm)) tt
  result_seen c access (Auipc rd imm) e = register_seen rd (constant (word (c.point.address + upper imm))) tt
  result_seen c access (Jal rd off) e = register_seen rd _ (link_seen c.flow)
  result_seen c access (Jalr rd rs1 imm) e = register_seen rd _ (link_seen c.flow)
  result_seen c access (Branch op rs1 rs2 off) e = All-nil (IsAssignIn set)
  result_seen c access (Load op rd rs1 imm) e = register_seen rd _ (subst (λ (q : ℕ). IsHeldSeen set (loaded names q op access)) (sym e) (loaded_seen op access))
  result_seen c access (Store op rs1 rs2 imm) e = All-nil (IsAssignIn set)
  result_seen c access (Imm op rd rs1 imm) e = register_seen rd _ (imm_seen op rs1 imm)
  result_seen c access (Shift op rd rs1 by) e = register_seen rd _ (shift_seen op rs1 by)
  result_seen c access (Reg op rd rs1 rs2) e = register_seen rd _ (reg_seen op rs1 rs2)
  result_seen c access (Fence rd rs1 imm) e = All-nil (IsAssignIn set)
  result_seen c access Ecall e = register_seen 10 Unknown tt
  result_seen c access Ebreak e = All-nil (IsAssignIn set)

  pub effect_seen : (c : CodePoint) (access : Option ℕ) → c.point.proc_entry ≡ p → All (IsAssignIn set) (effect_at_by w names c access)
  effect_seen c access e =
      All-append (IsAssignIn set) (register_effect names (result_in names c access (instr_in w c.instr))) (slot_effect_by w names c.point.proc_entry (store_of c.instr access))
      (result_seen c access (instr_in w c.instr) e)
      (subst (λ (q : ℕ). All (IsAssignIn set) (slot_effect_by w names q (store_of c.instr access))) (sym e) (slots_seen (store_of c.instr access)))
    where
      slots_seen : (o : Option FrameStore) → All (IsAssignIn set) (slot_effect_by w names p o)
      slots_seen None = All-nil (IsAssignIn set)
      slots_seen (Some s) = stores_seen s 0 names (λ j name there. subst (λ (i : ℕ). slice_get names i ≡ Some name) (omega arith) there)
