-- The fields of an instruction that a half or a word with its length stands for are in range.
use Rattle.std.proofs.Common.{◌≡◌, ℕ, ◌+◌, ◌-◌, ◌*◌, ◌%◌, ◌^◌, ◌<◌, ◌≤◌, ltb, Bool, true, false, ltb-true, ltb-false, ℤ, pos, negsuc, refl, sym, subst, arith, if◌then◌else◌}
use Rattle.std.proofs.lemmas.Int.{ints}
use Rattle.std.specs.Prelude.{◌-ℤ◌, unsigned_abs}
use Rattle.rv_decode.specs.Instructions.{IsOffset, IsWellFormed, IsWithin}
use Rattle.rv_instr.specs.declared.Instr.{Instr}
use Rattle.rv_decode.proofs.Table.{in_range}
use Rattle.rvc_expand.specs.Halves.{in_bits, signed}
use Rattle.rvc_expand.specs.Immediates.{addi4spn_bits, word_bits, double_bits, six_bits, addi16sp_bits, jump_bits, branch_bits, lwsp_bits, ldsp_bits, swsp_bits, sdsp_bits}
use Rattle.rvc_expand.specs.Lengths.{MeansWithLength}
use Rattle.rvc_expand.specs.Lengths.MeansWithLength.{whole, half}
use Rattle.rvc_expand.specs.Rows.{Expands}
use Rattle.rvc_expand.specs.Rows.Expands.{c_addi4spn, c_lw, c_ld, c_sw, c_sd, c_addi, c_addiw, c_li, c_addi16sp, c_lui, c_srli, c_srai, c_andi, c_sub, c_xor, c_or, c_and, c_subw, c_addw, c_j, c_beqz, c_bnez, c_slli, c_lwsp, c_ldsp, c_jr, c_mv, c_ebreak, c_jalr, c_add, c_swsp, c_sdsp}

-- two's complement
within : (n p : ℕ) → n < 2 * p → IsWithin p (if ltb n p then pos n else pos n -ℤ pos (2 * p))
within n p small = by (ltb n p) refl
  where
    by : (b : Bool) → ltb n p ≡ b → IsWithin p (if b then pos n else pos n -ℤ pos (2 * p))
    by true e = let below = ltb-true n p e in (omega (arith, ints), omega (arith, ints))
    by false e = let above = ltb-false n p e in (omega (arith, ints), omega (arith, ints))

even : (n p : ℕ) → n < 2 * p → n % 2 ≡ 0 → unsigned_abs (if ltb n p then pos n else pos n -ℤ pos (2 * p)) % 2 ≡ 0
even n p small two = by (ltb n p) refl
  where
    by : (b : Bool) → ltb n p ≡ b → unsigned_abs (if b then pos n else pos n -ℤ pos (2 * p)) % 2 ≡ 0
    by true e = two
    by false e = let above = ltb-false n p e in omega (arith, ints)

wider : (p q : ℕ) (z : ℤ) → p ≤ q → IsWithin p z → IsWithin q z
wider p q z le is = (omega (arith, ints, is.0), omega (arith, ints, is.1))

natural : (n q : ℕ) → n < q → IsWithin q (pos n)
natural n q small = (omega (arith, ints), omega (arith, ints))

six_small : (h : ℕ) → six_bits h < 2 ^ 6
unfolding six_bits
six_small h = omega arith

constant : (h : ℕ) → IsWithin (2 ^ 11) (signed 6 (six_bits h))
unfolding signed
constant h = wider (2 ^ 5) (2 ^ 11) _ (omega arith) (within (six_bits h) (2 ^ 5) (six_small h))

frame_small : (h : ℕ) → addi16sp_bits h < 2 ^ 10
unfolding addi16sp_bits
frame_small h = omega arith

frame_constant : (h : ℕ) → IsWithin (2 ^ 11) (signed 10 (addi16sp_bits h))
unfolding signed
frame_constant h = wider (2 ^ 9) (2 ^ 11) _ (omega arith) (within (addi16sp_bits h) (2 ^ 9) (frame_small h))

jump_small : (h : ℕ) → (jump_bits h < 2 ^ 12) × (jump_bits h % 2 ≡ 0)
unfolding jump_bits
jump_small h = (omega arith, omega arith)

jump_offset : (h : ℕ) → IsOffset (2 ^ 20) (signed 12 (jump_bits h))
unfolding signed
jump_offset h =
    let small = jump_small h in
    (wider (2 ^ 11) (2 ^ 20) _ (omega arith) (within (jump_bits h) (2 ^ 11) small.0), even (jump_bits h) (2 ^ 11) small.0 small.1)

branch_small : (h : ℕ) → (branch_bits h < 2 ^ 9) × (branch_bits h % 2 ≡ 0)
unfolding branch_bits
branch_small h = (omega arith, omega arith)

branch_offset : (h : ℕ) → IsOffset (2 ^ 12) (signed 9 (branch_bits h))
unfolding signed
branch_offset h =
    let small = branch_small h in
    (wider (2 ^ 8) (2 ^ 12) _ (omega arith) (within (branch_bits h) (2 ^ 8) small.0), even (branch_bits h) (2 ^ 8) small.0 small.1)

upper_small : (z : ℤ) → IsWithin (2 ^ 11) z → in_bits 20 z < 2 ^ 20
unfolding in_bits
upper_small (pos n) is = omega (arith, ints, is.1)
upper_small (negsuc n) is = omega (arith, ints, is.0)

addi4spn_small : (h : ℕ) → IsWithin (2 ^ 11) (pos (addi4spn_bits h))
unfolding addi4spn_bits
addi4spn_small h = natural _ _ (omega arith)

word_small : (h : ℕ) → IsWithin (2 ^ 11) (pos (word_bits h))
unfolding word_bits
word_small h = natural _ _ (omega arith)

double_small : (h : ℕ) → IsWithin (2 ^ 11) (pos (double_bits h))
unfolding double_bits
double_small h = natural _ _ (omega arith)

lwsp_small : (h : ℕ) → IsWithin (2 ^ 11) (pos (lwsp_bits h))
unfolding lwsp_bits
lwsp_small h = natural _ _ (omega arith)

ldsp_small : (h : ℕ) → IsWithin (2 ^ 11) (pos (ldsp_bits h))
unfolding ldsp_bits
ldsp_small h = natural _ _ (omega arith)

swsp_small : (h : ℕ) → IsWithin (2 ^ 11) (pos (swsp_bits h))
unfolding swsp_bits
swsp_small h = natural _ _ (omega arith)

sdsp_small : (h : ℕ) → IsWithin (2 ^ 11) (pos (sdsp_bits h))
unfolding sdsp_bits
sdsp_small h = natural _ _ (omega arith)

formed : (i is : Instr) → i ≡ is → IsWellFormed is → IsWellFormed i
formed i is e = subst IsWellFormed (sym e)

half_in_range : (w : ℕ) (i : Instr) → Expands w i → IsWellFormed i
half_in_range w i (c_addi4spn a b c) = formed i _ c (omega arith, omega arith, addi4spn_small w)
half_in_range w i (c_lw a b) = formed i _ b (omega arith, omega arith, word_small w)
half_in_range w i (c_ld a b) = formed i _ b (omega arith, omega arith, double_small w)
half_in_range w i (c_sw a b) = formed i _ b (omega arith, omega arith, word_small w)
half_in_range w i (c_sd a b) = formed i _ b (omega arith, omega arith, double_small w)
half_in_range w i (c_addi a b) = formed i _ b (omega arith, omega arith, constant w)
half_in_range w i (c_addiw a b c) = formed i _ c (omega arith, omega arith, constant w)
half_in_range w i (c_li a b) = formed i _ b (omega arith, omega arith, constant w)
half_in_range w i (c_addi16sp a b c d) = formed i _ d (omega arith, omega arith, frame_constant w)
half_in_range w i (c_lui a b c d) = formed i _ d (omega arith, upper_small (signed 6 (six_bits w)) (constant w))
half_in_range w i (c_srli a b c) = formed i _ c (omega arith, omega arith, six_small w)
half_in_range w i (c_srai a b c) = formed i _ c (omega arith, omega arith, six_small w)
half_in_range w i (c_andi a b c) = formed i _ c (omega arith, omega arith, constant w)
half_in_range w i (c_sub a b c d) = formed i _ d (omega arith, omega arith, omega arith)
half_in_range w i (c_xor a b c d) = formed i _ d (omega arith, omega arith, omega arith)
half_in_range w i (c_or a b c d) = formed i _ d (omega arith, omega arith, omega arith)
half_in_range w i (c_and a b c d) = formed i _ d (omega arith, omega arith, omega arith)
half_in_range w i (c_subw a b c d) = formed i _ d (omega arith, omega arith, omega arith)
half_in_range w i (c_addw a b c d) = formed i _ d (omega arith, omega arith, omega arith)
half_in_range w i (c_j a b) = formed i _ b (omega arith, jump_offset w)
half_in_range w i (c_beqz a b) = formed i _ b (omega arith, omega arith, branch_offset w)
half_in_range w i (c_bnez a b) = formed i _ b (omega arith, omega arith, branch_offset w)
half_in_range w i (c_slli a b) = formed i _ b (omega arith, omega arith, six_small w)
half_in_range w i (c_lwsp a b c) = formed i _ c (omega arith, omega arith, lwsp_small w)
half_in_range w i (c_ldsp a b c) = formed i _ c (omega arith, omega arith, ldsp_small w)
half_in_range w i (c_jr a b c d e) = formed i _ e (omega arith, omega arith, natural 0 (2 ^ 11) (omega arith))
half_in_range w i (c_mv a b c d) = formed i _ d (omega arith, omega arith, omega arith)
half_in_range w i (c_ebreak a b c d e) = formed i _ e tt
half_in_range w i (c_jalr a b c d e) = formed i _ e (omega arith, omega arith, natural 0 (2 ^ 11) (omega arith))
half_in_range w i (c_add a b c d) = formed i _ d (omega arith, omega arith, omega arith)
half_in_range w i (c_swsp a b) = formed i _ b (omega arith, omega arith, swsp_small w)
half_in_range w i (c_sdsp a b) = formed i _ b (omega arith, omega arith, sdsp_small w)

pub meaning_in_range : (word length : ℕ) (i : Instr) → MeansWithLength word length i → IsWellFormed i
meaning_in_range word length i (whole a b) = (in_range word i b).0
meaning_in_range word length i (half a b c) = half_in_range word i c
