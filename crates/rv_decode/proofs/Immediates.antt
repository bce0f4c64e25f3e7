-- The immediates of layouts B and J, in pieces and whole.
use Rattle.std.proofs.Common.{◌≡◌, ◌⊎◌, inl, inr, ℕ, ◌+◌, ◌-◌, ◌*◌, ◌≤◌, ◌%◌, ◌^◌, ◌<◌, [], ◌∷◌, ℤ, pos, negsuc, subst, arith}
use Rattle.std.specs.Prelude.{unsigned_abs}
use Rattle.rv_decode.specs.Layouts.{bits_at, joined, Fit, IsSigned, IsShift, IsB, IsJ}

-- the word has layout B, with its own bits as the pieces
pub word_is_B : (w n : ℕ) (off : ℤ) → w < 2 ^ 32
    → n ≡ joined ((1, bits_at w 31 1) ∷ (1, bits_at w 7 1) ∷ (6, bits_at w 25 6) ∷ (4, bits_at w 8 4) ∷ (1, 0) ∷ [])
    → IsSigned (2 ^ 12) n off → IsB w off (bits_at w 20 5) (bits_at w 15 5) (bits_at w 12 3) (bits_at w 0 7)
word_is_B w n off small n_is signed = record {
  imm_12 = bits_at w 31 1;
  imm_11 = bits_at w 7 1;
  imm_10_5 = bits_at w 25 6;
  imm_4_1 = bits_at w 8 4;
  imm_is = let P : ℕ → Type 0 = λ m. IsSigned (2 ^ 12) m off in subst P n_is signed;
  word_is = search (arith);
}

even_bits : (m n : ℕ) (z : ℤ) → IsSigned m n z → m % 2 ≡ 0 → unsigned_abs z % 2 ≡ 0
    → (n % 2 ≡ 0) × (n < 2 * m)
even_bits m n (pos z) signed m_even even = (omega arith, omega arith)
even_bits m n (negsuc z) signed m_even even = (omega arith, omega arith)

-- a word made of the pieces of an even number has layout B
pub pieces_are_B : (w n : ℕ) (off : ℤ) (rs2 rs1 funct3 opcode : ℕ)
    → IsSigned (2 ^ 12) n off → unsigned_abs off % 2 ≡ 0
    → Fit ((5, rs2) ∷ (5, rs1) ∷ (3, funct3) ∷ (7, opcode) ∷ [])
    → w ≡ joined ((1, bits_at n 12 1) ∷ (6, bits_at n 5 6) ∷ (5, rs2) ∷ (5, rs1) ∷ (3, funct3)
    ∷ (4, bits_at n 1 4) ∷ (1, bits_at n 11 1) ∷ (7, opcode) ∷ [])
    → IsB w off rs2 rs1 funct3 opcode
pieces_are_B w n off rs2 rs1 funct3 opcode signed even fit w_is =
    let (n_even, small) = even_bits (2 ^ 12) n off signed (omega arith) even in
    let n_is : n ≡ joined ((1, bits_at n 12 1) ∷ (1, bits_at n 11 1) ∷ (6, bits_at n 5 6)
    ∷ (4, bits_at n 1 4) ∷ (1, 0) ∷ []) = omega arith in
    record {
      imm_12 = bits_at n 12 1;
      imm_11 = bits_at n 11 1;
      imm_10_5 = bits_at n 5 6;
      imm_4_1 = bits_at n 1 4;
      imm_is = let P : ℕ → Type 0 = λ m. IsSigned (2 ^ 12) m off in subst P n_is signed;
      word_is = search (arith);
    }

-- a word made of the pieces of an even number has layout J
pub pieces_are_J : (w n : ℕ) (off : ℤ) (rd opcode : ℕ)
    → IsSigned (2 ^ 20) n off → unsigned_abs off % 2 ≡ 0 → Fit ((5, rd) ∷ (7, opcode) ∷ [])
    → w ≡ joined ((1, bits_at n 20 1) ∷ (10, bits_at n 1 10) ∷ (1, bits_at n 11 1)
    ∷ (8, bits_at n 12 8) ∷ (5, rd) ∷ (7, opcode) ∷ [])
    → IsJ w off rd opcode
pieces_are_J w n off rd opcode signed even fit w_is =
    let (n_even, small) = even_bits (2 ^ 20) n off signed (omega arith) even in
    let n_is : n ≡ joined ((1, bits_at n 20 1) ∷ (8, bits_at n 12 8) ∷ (1, bits_at n 11 1)
    ∷ (10, bits_at n 1 10) ∷ (1, 0) ∷ []) = omega arith in
    record {
      imm_20 = bits_at n 20 1;
      imm_19_12 = bits_at n 12 8;
      imm_11 = bits_at n 11 1;
      imm_10_1 = bits_at n 1 10;
      imm_is = let P : ℕ → Type 0 = λ m. IsSigned (2 ^ 20) m off in subst P n_is signed;
      word_is = search (arith);
    }

-- what a word is to be that has a shift by k bits in the place of the immediate
abbrev MakesShift : (k w above by rs1 funct3 rd opcode : ℕ) → Type 0
MakesShift k w above by rs1 funct3 rd opcode =
    Fit ((12 - k, above) ∷ (k, by) ∷ (5, rs1) ∷ (3, funct3) ∷ (5, rd) ∷ (7, opcode) ∷ [])
    → w ≡ (above * 2 ^ k % 2 ^ 32 + by) * 2 ^ 20 % 2 ^ 32 + rs1 * 2 ^ 15 + funct3 * 2 ^ 12 + rd * 2 ^ 7
    + opcode
    → IsShift k w above by rs1 funct3 rd opcode

pub pieces_are_shift : (k w above by rs1 funct3 rd opcode : ℕ) → 5 ≤ k → k ≤ 6
    → MakesShift k w above by rs1 funct3 rd opcode
pieces_are_shift k w above by rs1 funct3 rd opcode low high =
    let P : ℕ → Type 0 = λ j. MakesShift j w above by rs1 funct3 rd opcode in
    let at_5 : P 5 = λ fit w_is. search arith in
    let at_6 : P 6 = λ fit w_is. search arith in
    let five_or_six : (5 ≡ k) ⊎ (6 ≡ k) = grind arith in
    elim five_or_six [ inl five ↦ subst P five at_5 | inr six ↦ subst P six at_6 ]
